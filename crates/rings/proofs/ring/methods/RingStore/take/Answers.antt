use Rattle.std.proofs.Common.{rules, ◌≡◌, ◌-◌, Bool, Some, None, take, lit<, sym, ◌∙◌, arith}
use Rattle.std.proofs.lemmas.List.{length-take}
use Rattle.rows.specs.Searches.{place_from}
use Rattle.rows.proofs.Searching.{first-at, missed}
use Rattle.rings.specs.Circles.{turned, next}
use Rattle.rings.specs.Rings.{room, circle, listed}
use Rattle.rings.proofs.Ringing.{ring_taken}
use Rattle.rings.proofs.ring.methods.RingStore.take.Goals as goal

pub returns-in_err-at-clause-got : goal.returns-in_err-at-clause-got
returns-in_err-at-clause-got g c =
    let hit : g.row.R.Denot → Bool = λ x. g.R.Row.hit x c.args.question.now in
    let place : None ≡ place_from 0 hit (listed c.args.self.now) = sym c.in_err-at.was ∙ c.seek.ensures in
    c.from_residual.ensures ∙ sym (missed hit 0 (listed c.args.self.now) (sym place)).none

pub returns-in_err-at-clause-after : goal.returns-in_err-at-clause-after
returns-in_err-at-clause-after g c =
    let hit : g.row.R.Denot → Bool = λ x. g.R.Row.hit x c.args.question.now in
    let place : None ≡ place_from 0 hit (listed c.args.self.now) = sym c.in_err-at.was ∙ c.seek.ensures in
    sym (missed hit 0 (listed c.args.self.now) (sym place)).kept

pub raise-row-requires : goal.raise-row-requires
raise-row-requires g c =
    let r = c.args.self.now in
    let hit : g.row.R.Denot → Bool = λ x. g.R.Row.hit x c.args.question.now in
    let place : Some c.in_ok-at.at ≡ place_from 0 hit (listed r) = sym c.in_ok-at.was ∙ c.seek.ensures in
    let one = first-at hit c.in_ok-at.at (listed r) (sym place) in
    (lit< tt, omega (arith, one.within, length-take r.used (circle r r.rows.now), r.fits))

pub returns : goal.returns
returns g c =
    let r = c.args.self.now in
    let up = c.raise-row.ensures in
    let zs = c.raise-row.new.self.rows.now in
    let hit : g.row.R.Denot → Bool = λ x. g.R.Row.hit x c.args.question.now in
    let place : Some c.in_ok-at.at ≡ place_from 0 hit (listed r) = sym c.in_ok-at.was ∙ c.seek.ensures in
    let one = first-at hit c.in_ok-at.at (listed r) (sym place) in
    let begin : c.after-self.result ≡ next (room r) r.first = c.after-self.ensures ∙ (λ j. next (up.fixed j) (up.first j)) in
    let out = ring_taken (room r) r.first r.used r.rows.now (omega arith) (omega (arith, r.begins, r.fits, one.within, length-take r.used (circle r r.rows.now))) hit (omega (arith, r.fits)) c.in_ok-at.at c.raise-row.result zs (omega (arith, up.fixed)) place up.value up.left in
    record {
      got = out.got;
      after = (λ j. take (up.used j - 1) (turned (begin j) (take (up.fixed j) zs))) ∙ out.after;
      memory = search rules;
      lent = up.lent;
      fixed = up.fixed;
    }
