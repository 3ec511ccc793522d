use Rattle.std.proofs.Common.{◌≡◌, ◌+◌, ◌-◌, ◌++◌, take, drop, sym, ap, ◌∙◌, arith}
use Rattle.rings.specs.Rings.{room}
use Rattle.rings.proofs.Ringing.{take-circle}
use Rattle.rings.proofs.ring.Ring.in_use.Goals as goal

pub returns : goal.returns
returns g c =
    let r = c.args.self.now in
    let older = c.min-older.result in
    let cut : (r.first + c.min-older.result) - r.first ≡ c.min-older.result = omega arith in
    ap (λ n. take n (drop r.first r.rows.now) ++ take (r.used - older) r.rows.now) cut
    ∙ sym (take-circle (room r) r.first r.used older r.rows.now (omega arith) (omega (arith, r.begins)) (omega (arith, r.fits)) (omega (arith, c.min-older.ensures, c.limit.ensures)))
