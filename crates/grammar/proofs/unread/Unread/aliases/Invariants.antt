use Rattle.std.proofs.Common.{◌≡◌, List, ◌∷◌}
use Rattle.syntax.specs.Machine.{Sym, many, aliases, run}
use Rattle.grammar.specs.Reads.{unread, left, Onward}
use Rattle.grammar.proofs.unread.Unread.aliases.Given as goal

abbrev pub invariant-loop-rest : goal.invariant-loop-rest
invariant-loop-rest l = Onward l.self l.here × ((k : List Sym) → run (many aliases ∷ k) (unread l.self) ≡ run (many aliases ∷ k) (unread l.here))

abbrev pub decreases-loop-rest : goal.decreases-loop-rest
decreases-loop-rest l = left l.here
