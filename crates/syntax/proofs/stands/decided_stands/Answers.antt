use Rattle.syntax.proofs.Converse.{decided}
use Rattle.syntax.proofs.stands.decided_stands.Goals as goal

pub returns : goal.returns
returns c = decided
