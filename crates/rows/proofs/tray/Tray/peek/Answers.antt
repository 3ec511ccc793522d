use Rattle.std.proofs.Common.{◌∙◌, ap, rules}
use Rattle.rows.specs.Searches.{found}
use Rattle.rows.proofs.Searching.{found_by}
use Rattle.rows.proofs.tray.Tray.peek.Goals as goal

pub returns : goal.returns
returns g c = found_by (λ x. g.R.Row.hit x c.args.question.now) c.first.result c.in_use-rows.result.now c.map.result c.first.ensures.place (search rules) ∙ ap (found (λ x. g.R.Row.hit x c.args.question.now)) c.in_use-rows.ensures
