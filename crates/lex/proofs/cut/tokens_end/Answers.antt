use Rattle.lex.proofs.Ends.{tokens-end}
use Rattle.lex.proofs.cut.tokens_end.Goals as goal

pub returns : goal.returns
returns c = tokens-end
