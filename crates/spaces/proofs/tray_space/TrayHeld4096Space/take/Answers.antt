use Rattle.std.proofs.Common.{◌≡◌, option_map, refl, arith}
use Rattle.std.proofs.lemmas.Grind.{common_steps}
use Rattle.spaces.specs.TraySpaces.{tray_bounded}
use Rattle.spaces.proofs.Bagging.{nothing_beyond}
use Rattle.spaces.proofs.Holding.{told_found}
use Rattle.spaces.proofs.tray_space.TrayHeld4096Space.take.Goals as goal

pub returns-in_err-wanted-clause-after : goal.returns-in_err-wanted-clause-after
returns-in_err-wanted-clause-after c = rw c.from_residual.ensures (nothing_beyond c.args.site c.args.template.now _ _ (tray_bounded c.args.self.now) c.in_err-wanted.ensures, λ p. refl)

pub returns-clause-after : goal.returns-clause-after
returns-clause-after c =
    let told : c.map.result ≡ option_map (λ y. y.tuple) c.take.result = grind (arith, common_steps, c.map.ensures) in
    rw told (told_found c.in_ok-wanted.field-0 c.args.site c.args.template.now c.in_ok-wanted.ensures _ _ c.take.result c.take.ensures.got c.take.ensures.after)
