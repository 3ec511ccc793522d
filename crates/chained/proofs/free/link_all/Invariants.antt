use Rattle.std.proofs.Common.{◌≡◌, ℕ, ◌+◌, ◌-◌, ◌<◌}
use Rattle.chained.specs.Links.{next_of, prev_of, Kept}
use Rattle.chained.proofs.free.link_all.Given as goal

abbrev pub invariant-loop-i : goal.invariant-loop-i
invariant-loop-i l = record { nexts : (k : ℕ) → k < l.i → next_of l.rows k ≡ k + 1; prevs : (k : ℕ) → k < l.i → prev_of l.rows k ≡ k - 1; kept : Kept l.initial.rows l.rows }
