use Rattle.std.proofs.Common.{◌≡◌, ◌+◌, ◌-◌, ◌<◌, min, get_or, refl, ap, ◌∙◌, arith, length-set}
use Rattle.std.proofs.lemmas.List.{drop-set-lt}
use Rattle.rings.specs.Circles.{spot}
use Rattle.rings.specs.Rings.{room, circle}
use Rattle.rings.proofs.Turning.{get_or-circle}
use Rattle.rings.proofs.Raising.{raised_from, raised_none}
use Rattle.rings.proofs.Ringing.{ring_raised}
use Rattle.rings.proofs.ring.Ring.raise.Goals as goal

pub loop-i-init : goal.loop-i-init
loop-i-init g c = record { first = refl; used = refl; wide = refl; left = raised_none (circle c.args.self.now c.args.self.now.rows.now) c.args.at; lent = refl; behind = refl }

pub loop-i-preserved : goal.loop-i-preserved
loop-i-preserved g c =
    let r = c.args.self.now in
    let now = c.loop-i.self in
    let inv = c.loop-i.invariant in
    let i = c.loop-i.i - 1 in
    let from = c.place-in-loop-i in
    let to = c.place-to in
    let x = get_or now.rows.now from.result c.index-self-place-in-loop-i.result in
    let up : c.loop-i.i ≡ i + 1 = omega arith in
    let same : room now ≡ room r = ap (λ n. min n g.row.MOST) inv.wide in
    let low : r.first < room r = omega (arith, r.begins, c.requires) in
    record {
      first = inv.first;
      used = inv.used;
      wide = length-set now.rows.now to.result x ∙ inv.wide;
      left = ring_raised (room r) r.first r.used r.rows.now (omega arith) low c.args.at i from.result to.result x now.rows.now (omega (arith, inv.wide)) (omega arith) c.requires (from.ensures.is ∙ (λ j. spot (same j) (inv.first j) i)) (to.ensures.is ∙ (λ j. spot (same j) (inv.first j) (i + 1))) (omega (arith, from.ensures.within, same)) (omega (arith, to.ensures.within, same)) (ap (get_or now.rows.now from.result) c.index-self-place-in-loop-i.is) (inv.left ∙ ap (raised_from (circle r r.rows.now) c.args.at) up);
      lent = inv.lent;
      behind = drop-set-lt (room r) now.rows.now to.result x (omega (arith, to.ensures.within, same)) ∙ inv.behind;
    }

pub returns-clause-value : goal.returns-clause-value
returns-clause-value g c =
    let r = c.args.self.now in
    let x = get_or r.rows.now c.place.result c.index-self-place.result in
    ap (get_or r.rows.now c.place.result) c.index-self-place.is
    ∙ ap (λ k. get_or r.rows.now k x) c.place.ensures.is
    ∙ get_or-circle (room r) r.first r.rows.now (omega arith) (omega (arith, r.begins, c.requires)) c.args.at x c.requires (omega (arith, c.place.ensures.is, c.place.ensures.within))
