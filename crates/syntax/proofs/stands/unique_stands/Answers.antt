use Rattle.syntax.proofs.Unique.{unique}
use Rattle.syntax.proofs.stands.unique_stands.Goals as goal

pub returns : goal.returns
returns c = unique
