use Rattle.rows.proofs.Counting.{same_length}
use Rattle.rows.proofs.laws.same_sizes.Goals as goal

pub returns : goal.returns
returns g c = same_length
