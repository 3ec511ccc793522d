use Rattle.std.proofs.Common.{◌+◌, min, take, set, ap, ◌∙◌, arith, length-set}
use Rattle.rings.specs.Circles.{turned}
use Rattle.rings.specs.Rings.{room}
use Rattle.rings.proofs.Ringing.{ring_added}
use Rattle.rings.proofs.ring.methods.RingStore.add.Goals as goal

pub returns-clause-after : goal.returns-clause-after
returns-clause-after g c =
    let r = c.args.self.now in
    let xs = r.rows.now in
    let at = c.place-at.ensures in
    ap (λ n. take (r.used + 1) (turned r.first (take (min n g.row.MOST) (set xs c.place-at.result c.args.row)))) (length-set xs c.place-at.result c.args.row)
    ∙ ap (λ k. take (r.used + 1) (turned r.first (take (room r) (set xs k c.args.row)))) at.is
    ∙ ring_added (room r) r.first r.used xs (omega arith) (omega (arith, r.begins, at.within)) c.args.row (omega (arith, r.fits, c.limit.ensures, c.if-self-limit.false)) (omega (arith, at.is, at.within))
