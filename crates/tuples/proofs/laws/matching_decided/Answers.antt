use Rattle.tuples.proofs.Places.{matching_decided_lem}
use Rattle.tuples.proofs.laws.matching_decided.Goals as goal

pub returns : goal.returns
returns c = matching_decided_lem
