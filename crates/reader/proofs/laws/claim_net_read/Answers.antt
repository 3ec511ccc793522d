use Rattle.std.proofs.Common.{refl}
use Rattle.lex.specs.Tokens.{tok_at, toks}
use Rattle.reader.proofs.laws.claim_net_read.Goals as goal

pub returns : goal.returns
unfolding tok_at toks
returns c = record { text = refl; clean = refl; read = refl }
