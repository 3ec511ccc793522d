use Rattle.std.proofs.Common.{◌<◌, min, refl, ap, ◌∙◌, arith}
use Rattle.chained.specs.Links.{ends_of}
use Rattle.chained.proofs.Writing.{stored}
use Rattle.chained.proofs.Keeping.{full, not_full, first-free, free-within, count_small, put_in}
use Rattle.chained.proofs.chains.Chains.put.Goals as goal

pub returns-then-free-eq0-clause-took : goal.returns-then-free-eq0-clause-took
returns-then-free-eq0-clause-took c =
    let s = c.args.self.now in
    full s.rows.now s.ends s.sound c.if-free-eq0.true

pub transfer-requires-clause-here : goal.transfer-requires-clause-here
transfer-requires-clause-here c =
    let s = c.args.self.now in
    first-free s.rows.now s.ends s.sound (omega (arith, c.if-free-eq0.false))

pub bounds-rows-free : goal.bounds-rows-free
bounds-rows-free c =
    let s = c.args.self.now in
    omega (arith, free-within s.rows.now s.ends s.sound (omega (arith, c.if-free-eq0.false)), c.transfer.auto.rows)

pub bounds-rows-free-else-free-eq0 : goal.bounds-rows-free-else-free-eq0
bounds-rows-free-else-free-eq0 c =
    let s = c.args.self.now in
    omega (arith, free-within s.rows.now s.ends s.sound (omega (arith, c.if-free-eq0.false)), c.transfer.auto.rows)

pub overflow_add-used : goal.overflow_add-used
overflow_add-used c =
    let s = c.args.self.now in
    omega (arith, s.size, count_small s.rows.now s.ends s.sound)

pub invariant_of-self : goal.invariant_of-self
invariant_of-self c =
    let s = c.args.self.now in
    let some : 0 < (ends_of s.ends 32).many = omega (arith, c.if-free-eq0.false) in
    let write = stored c.transfer.new.rows (ends_of s.ends 32).first c.args.tuple c.index-rows-free.result (omega (arith, free-within s.rows.now s.ends s.sound some, c.transfer.auto.rows)) in
    let done = put_in s.rows.now c.transfer.new.rows _ s.ends c.transfer.new.ends c.number.result (ends_of s.ends 32).first c.args.tuple s.sound (omega arith) (first-free s.rows.now s.ends s.sound some) c.transfer.ensures write in
    record { sound = done.sound; size = omega (arith, s.size, done.count) }

pub returns : goal.returns
returns c =
    let s = c.args.self.now in
    let some : 0 < (ends_of s.ends 32).many = omega (arith, c.if-free-eq0.false) in
    let write = stored c.transfer.new.rows (ends_of s.ends 32).first c.args.tuple c.index-rows-free.result (omega (arith, free-within s.rows.now s.ends s.sound some, c.transfer.auto.rows)) in
    let moved = rw c.number.ensures at c.transfer.ensures in
    let done = put_in s.rows.now c.transfer.new.rows _ s.ends c.transfer.new.ends c.args.site.number (ends_of s.ends 32).first c.args.tuple s.sound c.args.site.below (first-free s.rows.now s.ends s.sound some) moved write in
    record {
      took = not_full s.rows.now s.ends s.sound some;
      here = done.here;
      rest = done.rest;
      tuples = done.stored;
      beyond = done.beyond;
      memory = record { lent = refl; fixed = ap (λ n. min n 4096) (write.as_long ∙ c.transfer.auto.rows) };
    }
