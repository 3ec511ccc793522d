use Rattle.std.proofs.Common.{◌≡◌, ℕ, ◌<◌, cond, eqb, get_or, List, sym, refl, ap, ◌∙◌, eq-eqb, arith}
use Rattle.std.proofs.lemmas.Option.{slice_get-get_or}
use Rattle.std.proofs.lemmas.Bool.{ne_eqb, cond-true, cond-false}
use Rattle.chained.specs.declared.row.ChainRow.{ChainRow}
use Rattle.chained.specs.declared.ends.Ends.{Ends}
use Rattle.chained.specs.Links.{next_in, prev_in, next_of, prev_of, forward}
use Rattle.chained.specs.Steps.{SoundChain}
use Rattle.chained.proofs.Trails.{times}
use Rattle.chained.proofs.Writing.{Relinked, unlinked, relinked}
use Rattle.chained.proofs.Linking.{prev_inside, next_inside, taken_out}
use Rattle.chained.proofs.links.detach.Goals as goal
use Rattle.chained.proofs.links.detach.Goals.{then-at-ends, else-at-ends, then-at-ends-2, else-at-ends-2}

-- the links of the row that is taken out, as the code reads them
module _ (rows : List ChainRow) (e : Ends) (at : ℕ) (chain : SoundChain rows e) (here : 0 < times at (forward rows e)) (d : ChainRow) where
  next-is : (get_or rows at d).next ≡ next_of rows at
  next-is = sym (ap next_in (slice_get-get_or rows at d (omega (arith, chain.inside at here))))

  prev_is : (get_or rows at d).prev ≡ prev_of rows at
  prev_is = sym (ap prev_in (slice_get-get_or rows at d (omega (arith, chain.inside at here))))

pub bounds-rows-prev : goal.bounds-rows-prev
bounds-rows-prev c =
    let rows = c.args.rows.now in
    omega (arith, prev_is rows c.args.ends c.args.at c.requires.chain c.requires.here c.index-rows-at-2.result, prev_inside rows c.args.ends c.args.at c.requires.chain.both c.requires.here c.requires.chain.inside c.if-at-ends.false)

pub bounds-rows-prev-else-at-ends : goal.bounds-rows-prev-else-at-ends
bounds-rows-prev-else-at-ends c =
    let rows = c.args.rows.now in
    omega (arith, prev_is rows c.args.ends c.args.at c.requires.chain c.requires.here c.index-rows-at-2.result, prev_inside rows c.args.ends c.args.at c.requires.chain.both c.requires.here c.requires.chain.inside c.if-at-ends.false)

pub bounds-rows-next : goal.bounds-rows-next
bounds-rows-next c =
    let rows = c.args.rows.now in
    omega (arith, next-is rows c.args.ends c.args.at c.requires.chain c.requires.here c.index-rows-at.result, next_inside rows c.args.ends c.args.at c.requires.chain.both c.requires.here c.requires.chain.inside c.if-at-ends-2.false)

pub bounds-rows-next-else-at-ends-2 : goal.bounds-rows-next-else-at-ends-2
bounds-rows-next-else-at-ends-2 c =
    let rows = c.args.rows.now in
    omega (arith, next-is rows c.args.ends c.args.at c.requires.chain c.requires.here c.index-rows-at.result, next_inside rows c.args.ends c.args.at c.requires.chain.both c.requires.here c.requires.chain.inside c.if-at-ends-2.false)

pub returns : goal.returns
returns c =
    let rows = c.args.rows.now in
    let e = c.args.ends in
    let next-read = next-is rows e c.args.at c.requires.chain c.requires.here c.index-rows-at.result in
    let prev_read = prev_is rows e c.args.at c.requires.chain c.requires.here c.index-rows-at-2.result in
    let on : Relinked next_in prev_in (eqb c.args.at e.first) (prev_of rows c.args.at) (next_of rows c.args.at) rows c.if-at-ends.rows = elim c.if-at-ends.branch [
      | then-at-ends w ↦ unlinked (eq-eqb c.args.at e.first w.if-at-ends.true) w.rows-is
      | else-at-ends w ↦ relinked (ne_eqb c.args.at e.first w.if-at-ends.false) _ _ w.index-rows-prev.result prev_read (omega (arith, prev_read, prev_inside rows e c.args.at c.requires.chain.both c.requires.here c.requires.chain.inside w.if-at-ends.false)) w.rows-is next-read refl refl
    ] in
    let is-first : c.if-at-ends.first ≡ cond (eqb c.args.at e.first) (next_of rows c.args.at) e.first = elim c.if-at-ends.branch [
      | then-at-ends w ↦ w.first-is ∙ next-read ∙ sym (cond-true (eqb c.args.at e.first) _ _ (eq-eqb c.args.at e.first w.if-at-ends.true))
      | else-at-ends w ↦ w.first-is ∙ sym (cond-false (eqb c.args.at e.first) _ _ (ne_eqb c.args.at e.first w.if-at-ends.false))
    ] in
    let back : Relinked prev_in next_in (eqb c.args.at e.last) (next_of rows c.args.at) (prev_of rows c.args.at) c.if-at-ends.rows c.if-at-ends-2.rows = elim c.if-at-ends-2.branch [
      | then-at-ends-2 w ↦ unlinked (eq-eqb c.args.at e.last w.if-at-ends-2.true) w.rows-is
      | else-at-ends-2 w ↦ relinked (ne_eqb c.args.at e.last w.if-at-ends-2.false) _ _ w.index-rows-next.result next-read (omega (arith, next-read, next_inside rows e c.args.at c.requires.chain.both c.requires.here c.requires.chain.inside w.if-at-ends-2.false)) w.rows-is prev_read refl refl
    ] in
    let is_last : c.if-at-ends-2.last ≡ cond (eqb c.args.at e.last) (prev_of rows c.args.at) e.last = elim c.if-at-ends-2.branch [
      | then-at-ends-2 w ↦ w.last-is ∙ prev_read ∙ sym (cond-true (eqb c.args.at e.last) _ _ (eq-eqb c.args.at e.last w.if-at-ends-2.true))
      | else-at-ends-2 w ↦ w.last-is ∙ sym (cond-false (eqb c.args.at e.last) _ _ (ne_eqb c.args.at e.last w.if-at-ends-2.false))
    ] in
    let out = taken_out rows e c.args.at c.requires.chain.both c.requires.here c.requires.chain.single c.if-at-ends.rows c.if-at-ends-2.rows c.if-at-ends.first c.if-at-ends-2.last is-first is_last on back in
    record { gone = out.gone; both = out.two_way; fewer = out.fewer; rest = out.rest; kept = out.kept }
