use Rattle.carriers.proofs.Telling.{letter_decides}
use Rattle.carriers.proofs.laws.told_by_parts.Goals as goal

pub returns : goal.returns
returns c = letter_decides
