use Rattle.std.proofs.Common.{◌≡◌, List, ◌∷◌}
use Rattle.syntax.specs.Machine.{Sym, many, lines, opens, run}
use Rattle.grammar.specs.Reads.{unread, left, Onward}
use Rattle.grammar.proofs.unread.Unread.lines.Given as goal

abbrev pub invariant-loop-rest : goal.invariant-loop-rest
invariant-loop-rest l = Onward l.self l.here × ((k : List Sym) → opens k ≡ 0 → run (many (lines l.which) ∷ k) (unread l.self) ≡ run (many (lines l.which) ∷ k) (unread l.here))

abbrev pub decreases-loop-rest : goal.decreases-loop-rest
decreases-loop-rest l = left l.here
