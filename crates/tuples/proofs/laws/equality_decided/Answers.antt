use Rattle.tuples.proofs.Equality.{fields_tested, places_tested, tuples_tested, templates_tested}
use Rattle.tuples.proofs.laws.equality_decided.Goals as goal

pub returns : goal.returns
returns c = record { fields = fields_tested; places = places_tested; tuples = tuples_tested; templates = templates_tested }
