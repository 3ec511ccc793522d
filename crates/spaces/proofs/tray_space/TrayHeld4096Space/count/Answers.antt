use Rattle.std.proofs.Common.{sym, ◌∙◌}
use Rattle.spaces.specs.TraySpaces.{tray_bounded}
use Rattle.spaces.proofs.Bagging.{nothing_beyond}
use Rattle.spaces.proofs.Holding.{told_count}
use Rattle.spaces.proofs.tray_space.TrayHeld4096Space.count.Goals as goal

pub returns-in_default : goal.returns-in_default
returns-in_default c = sym (nothing_beyond c.args.site c.args.template.now _ _ (tray_bounded c.args.self.now) c.in_default.ensures)

pub returns : goal.returns
returns c = c.count.ensures ∙ told_count c.in-Some.question c.args.site c.args.template.now c.in-Some.ensures _
