use Rattle.rows.proofs.Counting.{same-from-copies}
use Rattle.rows.proofs.laws.told_by_copies.Goals as goal

pub returns : goal.returns
returns g c = same-from-copies
