use Rattle.std.proofs.Common.{◌≡◌, ◌-◌, List, ◌∷◌}
use Rattle.syntax.specs.Machine.{Sym, more, run}
use Rattle.grammar.specs.Reads.{unread, Onward}
use Rattle.grammar.proofs.unread.Unread.more.Given as goal

abbrev pub invariant-loop : goal.invariant-loop
invariant-loop l = Onward l.self l.here × ((k : List Sym) → run (more l.entries 3 ∷ k) (unread l.self) ≡ run (more l.entries (3 - l.counter) ∷ k) (unread l.here))
