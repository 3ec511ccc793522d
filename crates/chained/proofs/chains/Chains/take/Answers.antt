use Rattle.std.proofs.Common.{min, sym, refl, ap, arith}
use Rattle.rows.proofs.Counting.{none_without}
use Rattle.chained.specs.Links.{rows_of}
use Rattle.chained.specs.Steps.{matches_at}
use Rattle.chained.proofs.Holding.{found_in}
use Rattle.chained.proofs.Keeping.{count_some, taken_from}
use Rattle.chained.proofs.chains.Chains.take.Goals as goal

pub returns-in_err-at : goal.returns-in_err-at
returns-in_err-at c =
    let none = c.in_err-at.ensures.tuple in
    rw c.from_residual.ensures (record { got = none; here = sym (none_without _ _ (sym none)); rest = λ d l n. refl; kept = record { tuples = λ i. refl; beyond = λ i h. refl }; memory = record { lent = refl; fixed = refl } })

pub transfer-requires-clause-here : goal.transfer-requires-clause-here
transfer-requires-clause-here c =
    let s = c.args.self.now in
    rw c.number.ensures (found_in (matches_at s.rows.now c.args.template.now) c.in_ok-at.at (rows_of s.rows.now s.ends c.args.site.number) (sym c.in_ok-at.ensures.place))

pub overflow_sub-used : goal.overflow_sub-used
overflow_sub-used c =
    let s = c.args.self.now in
    let here = found_in (matches_at s.rows.now c.args.template.now) c.in_ok-at.at (rows_of s.rows.now s.ends c.args.site.number) (sym c.in_ok-at.ensures.place) in
    omega (arith, s.size, count_some s.rows.now s.ends s.sound c.args.site.number c.in_ok-at.at c.args.site.below here)

pub invariant_of-self : goal.invariant_of-self
invariant_of-self c =
    let s = c.args.self.now in
    let moved = rw c.number.ensures at c.transfer.ensures in
    let done = taken_from s.rows.now c.transfer.new.rows s.ends c.transfer.new.ends c.args.site.number c.in_ok-at.at c.args.template.now c.args.site.below c.in_ok-at.ensures.place moved in
    record { sound = c.transfer.ensures.sound; size = omega (arith, s.size, done.count) }

pub returns : goal.returns
returns c =
    let s = c.args.self.now in
    let moved = rw c.number.ensures at c.transfer.ensures in
    let done = taken_from s.rows.now c.transfer.new.rows s.ends c.transfer.new.ends c.args.site.number c.in_ok-at.at c.args.template.now c.args.site.below c.in_ok-at.ensures.place moved in
    record {
      got = c.in_ok-at.ensures.tuple;
      here = done.here;
      rest = done.rest;
      kept = c.transfer.ensures.kept;
      memory = record { lent = refl; fixed = ap (λ n. min n 4096) c.transfer.auto.rows };
    }
