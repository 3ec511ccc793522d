use Rattle.std.proofs.Common.{◌≡◌, option_map, arith}
use Rattle.std.proofs.lemmas.Grind.{common_steps}
use Rattle.spaces.specs.TraySpaces.{tray_bounded}
use Rattle.spaces.proofs.Bagging.{nothing_beyond}
use Rattle.spaces.proofs.Holding.{told_seen}
use Rattle.spaces.proofs.tray_space.TrayHeld4096Space.peek.Goals as goal

pub returns-in_err-wanted : goal.returns-in_err-wanted
returns-in_err-wanted c = rw c.from_residual.ensures (nothing_beyond c.args.site c.args.template.now _ _ (tray_bounded c.args.self.now) c.in_err-wanted.ensures)

pub returns : goal.returns
returns c =
    let told : c.map.result ≡ option_map (λ y. y.tuple) c.peek.result = grind (arith, common_steps, c.map.ensures) in
    rw told (told_seen c.in_ok-wanted.field-0 c.args.site c.args.template.now c.in_ok-wanted.ensures _ c.peek.result c.peek.ensures)
