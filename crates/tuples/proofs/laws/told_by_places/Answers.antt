use Rattle.tuples.proofs.Padding.{tuple_told, template_told}
use Rattle.tuples.proofs.laws.told_by_places.Goals as goal

pub returns : goal.returns
returns c = (tuple_told, template_told)
