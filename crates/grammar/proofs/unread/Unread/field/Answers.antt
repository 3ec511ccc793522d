use Rattle.std.proofs.Common.{◌∷◌, arith}
use Rattle.syntax.specs.Machine.{entry, unexpected, outside}
use Rattle.syntax.specs.declared.Entries.TheVariants.{Fields}
use Rattle.grammar.proofs.Walk.{alone, refuses}
use Rattle.grammar.proofs.unread.Unread.field.Goals as goal
use Rattle.grammar.proofs.unread.Unread.field.Goals.{in-Name-1, in-Number+in-Some-1}

pub returns-in-Number-None : goal.returns-in-Number-None
returns-in-Number-None c = λ k. refuses c.in_ok-token.ensures (entry Fields ∷ k) outside (grind arith)

pub returns-in-End : goal.returns-in-End
returns-in-End c = let s = c.in-End in λ k. refuses c.in_ok-token.ensures (entry Fields ∷ k) unexpected (grind arith)

pub returns-in-Name : goal.returns-in-Name
returns-in-Name c = alone c.in_ok-token.ensures (entry Fields) (λ k. elim c.in-Name-1.branch [ in-Name-1 w ↦ grind arith | in-Number+in-Some-1 w ↦ grind arith ])
