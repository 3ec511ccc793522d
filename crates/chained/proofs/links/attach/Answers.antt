use Rattle.std.proofs.Common.{◌≡◌, false, cond, eqb, set, sym, refl, ◌∙◌, eq-eqb, arith}
use Rattle.std.proofs.lemmas.Bool.{ne_eqb, cond-true, cond-false}
use Rattle.chained.specs.Links.{next_in, prev_in}
use Rattle.chained.proofs.Writing.{Relinked, unlinked, relinked}
use Rattle.chained.proofs.Linking.{last_inside, put_behind}
use Rattle.chained.proofs.links.attach.Goals as goal
use Rattle.chained.proofs.links.attach.Goals.{then-ends-eq0, else-ends-eq0}

pub bounds-rows-ends : goal.bounds-rows-ends
bounds-rows-ends c = omega (arith, last_inside c.args.rows.now c.args.ends c.args.at c.requires.chain.both c.requires.chain.inside (omega (arith, c.if-ends-eq0.false)))

pub bounds-rows-ends-else-ends-eq0 : goal.bounds-rows-ends-else-ends-eq0
bounds-rows-ends-else-ends-eq0 c = omega (arith, last_inside c.args.rows.now c.args.ends c.args.at c.requires.chain.both c.requires.chain.inside (omega (arith, c.if-ends-eq0.false)))

pub returns : goal.returns
returns c =
    let rows = c.args.rows.now in
    let e = c.args.ends in
    let mid = c.if-ends-eq0.rows in
    let on : Relinked next_in prev_in (eqb e.many 0) e.last c.args.at rows mid = elim c.if-ends-eq0.branch [
      | then-ends-eq0 w ↦ unlinked (eq-eqb e.many 0 w.if-ends-eq0.true) w.rows-is
      | else-ends-eq0 w ↦ relinked (ne_eqb e.many 0 w.if-ends-eq0.false) _ _ w.index-rows-ends.result refl (last_inside rows e c.args.at c.requires.chain.both c.requires.chain.inside (omega (arith, w.if-ends-eq0.false))) w.rows-is refl refl refl
    ] in
    let is-first : c.if-ends-eq0.first ≡ cond (eqb e.many 0) c.args.at e.first = elim c.if-ends-eq0.branch [
      | then-ends-eq0 w ↦ w.first-is ∙ sym (cond-true (eqb e.many 0) _ _ (eq-eqb e.many 0 w.if-ends-eq0.true))
      | else-ends-eq0 w ↦ w.first-is ∙ sym (cond-false (eqb e.many 0) _ _ (ne_eqb e.many 0 w.if-ends-eq0.false))
    ] in
    let back : Relinked prev_in next_in false c.args.at e.last mid (set mid c.args.at _) = relinked refl _ _ c.index-rows-at.result refl (omega (arith, c.if-ends-eq0.auto.rows)) refl refl refl refl in
    let put = put_behind rows e c.args.at c.requires.chain.both c.requires.chain.single c.requires.alone mid _ c.if-ends-eq0.first is-first on back in
    record { come = put.come; both = put.two_way; more = refl; rest = put.rest; kept = put.kept }
