use Rattle.std.proofs.Common.{refl}
use Rattle.lex.specs.Tokens.{tok_at, toks}
use Rattle.reader.proofs.laws.nodes_shown.Goals as goal

pub returns : goal.returns
unfolding tok_at toks
returns c = record {
  grouped = record { is = refl; clean = refl; table = refl; begins = refl };
  elsewhere = record { is = refl; clean = refl; table = refl; begins = refl };
  hidden = record { is = refl; clean = refl; table = refl; begins = refl };
  made = record { is = refl; clean = refl; table = refl; begins = refl };
}
