use Rattle.std.proofs.Common.{◌≡◌, Bool, ap, ◌∙◌, length, ◌<◌, ◌++◌, arith, rules}
use Rattle.rows.specs.Searches.{place_from}
use Rattle.rings.specs.Rings.{listed, circle}
use Rattle.rings.proofs.Seeking.{place_front, place_back}
use Rattle.std.proofs.lemmas.List.{length-take, length-append}
use Rattle.rings.proofs.ring.Ring.seek.Goals as goal

pub returns-in-Some : goal.returns-in-Some
returns-in-Some g c =
    let hit : g.row.R.Denot → Bool = λ x. g.R.Row.hit x c.args.question.now in
    place_front hit c.in_use.result.0.now c.in_use.result.1.now c.in-Some.i c.in-Some.ensures.place ∙ ap (place_from 0 hit) c.in_use.ensures

pub map-requires : goal.map-requires
map-requires g c = λ x e _ _ _ _ _.
    let r = c.args.self.now in
    let within : x < length c.in_use.result.1.now = rw e at c.first-2.ensures.within in
    let all : length (c.in_use.result.0.now ++ c.in_use.result.1.now) ≡ length (listed r) = ap length c.in_use.ensures in
    omega (arith, length-append c.in_use.result.0.now c.in_use.result.1.now, length-take r.used (circle r r.rows.now), r.fits, g.MOST.fits)

pub returns : goal.returns
returns g c =
    let hit : g.row.R.Denot → Bool = λ x. g.R.Row.hit x c.args.question.now in
    place_back hit c.in_use.result.0.now c.in_use.result.1.now c.first-2.result c.map.result c.in_default.ensures.place c.first-2.ensures.place (search rules) ∙ ap (place_from 0 hit) c.in_use.ensures
