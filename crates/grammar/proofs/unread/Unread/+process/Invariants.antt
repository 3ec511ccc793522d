use Rattle.std.proofs.Common.{◌≡◌, ◌+◌, ◌*◌, List, ◌∷◌}
use Rattle.syntax.specs.Machine.{Sym, proc, item, many, bars, opens, run}
use Rattle.grammar.specs.Reads.{unread, left, Onward}
use Rattle.grammar.proofs.unread.Unread.+process.Given as goal

abbrev pub decreases-bracket : goal.decreases-bracket
decreases-bracket l = 4 * left l.self

abbrev pub decreases-item : goal.decreases-item
decreases-item l = 4 * left l.self + 1

abbrev pub decreases-eval : goal.decreases-eval
decreases-eval l = 4 * left l.self + 1

abbrev pub decreases-action : goal.decreases-action
decreases-action l = 4 * left l.self + 2

abbrev pub decreases-process : goal.decreases-process
decreases-process l = 4 * left l.self + 2

abbrev pub decreases-prefix : goal.decreases-prefix
decreases-prefix l = 4 * left l.self + 3

abbrev pub invariant-process-loop-rest : goal.invariant-process-loop-rest
invariant-process-loop-rest l = Onward l.self l.here × ((k : List Sym) → opens k ≡ l.depth → run (proc ∷ k) (unread l.self) ≡ run (many bars ∷ k) (unread l.here))

abbrev pub decreases-process-loop-rest : goal.decreases-process-loop-rest
decreases-process-loop-rest l = left l.here

abbrev pub invariant-item-loop-token : goal.invariant-item-loop-token
invariant-item-loop-token l = Onward l.self l.here × ((k : List Sym) → opens k ≡ l.depth → run (item ∷ k) (unread l.self) ≡ run (item ∷ k) (unread l.here))

abbrev pub decreases-item-loop-token : goal.decreases-item-loop-token
decreases-item-loop-token l = left l.here
