use Rattle.reader.proofs.Least.{least-decides}
use Rattle.reader.proofs.laws.least_decides.Goals as goal

pub returns : goal.returns
returns c = least-decides
