use Rattle.std.proofs.Common.{◌≡◌, ◌-◌, ◌≤◌, length, min, Bool, Some, None, refl, sym, ap, ◌∙◌, arith}
use borrow.Rule.Slice.PartMut.{put_mid, same_len_mid}
use Rattle.rows.specs.Searches.{place_from}
use Rattle.rows.specs.Trays.{listed}
use Rattle.rows.proofs.Closing.{part_closed, taken_closed, untaken}
use Rattle.rows.proofs.tray.methods.TrayStore.take.Goals as goal

pub returns-in_err-at : goal.returns-in_err-at
returns-in_err-at g c =
    let t = c.args.self.now in
    let hit : g.row.R.Denot → Bool = λ x. g.R.Row.hit x c.args.question.now in
    let place : None ≡ place_from 0 hit (listed t) = sym c.in_err-at.was ∙ c.first.ensures.place ∙ ap (place_from 0 hit) c.in_use.ensures in
    let out = untaken hit t.used t.rows.now place in
    record { got = c.from_residual.ensures ∙ out.got; after = out.after; memory = out.memory; lent = refl; fixed = refl }

pub returns : goal.returns
returns g c =
    let t = c.args.self.now in
    let hit : g.row.R.Denot → Bool = λ x. g.R.Row.hit x c.args.question.now in
    let place : Some c.in_ok-at.at ≡ place_from 0 hit (listed t) = sym c.in_ok-at.was ∙ c.first.ensures.place ∙ ap (place_from 0 hit) c.in_use.ensures in
    let within : t.used ≤ length t.rows.now = omega (arith, t.fits) in
    let rows = put_mid c.in_ok-at.at (t.used - c.in_ok-at.at) t.rows.now c.copy_within.new.self in
    let out = taken_closed hit t.used t.rows.now c.in_ok-at.at c.index-self-at.result rows within place c.index-self-at.is (λ here. part_closed t.rows.now c.in_ok-at.at t.used here c.copy_within.new.self within c.copy_within.ensures.after) in
    record { got = ap Some (sym c.index-self-at.is) ∙ out.got; after = out.after; memory = out.memory; lent = refl; fixed = ap (λ n. min n g.row.MOST) (same_len_mid c.in_ok-at.at (t.used - c.in_ok-at.at) t.rows.now c.copy_within.new.self c.copy_within.ensures.len) }
