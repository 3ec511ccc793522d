use Rattle.std.proofs.Common.{rules}
use Rattle.rows.proofs.Searching.{visited_by}
use Rattle.rows.proofs.search.visits.Goals as goal

pub returns : goal.returns
returns g c = visited_by (λ x. g.R.Row.hit x c.args.question.now) c.first.result c.args.rows.now c.map_or.result c.first.ensures.place (search rules)
