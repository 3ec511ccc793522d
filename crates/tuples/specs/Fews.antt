-- What one to four items in fixed memory list. Assumes nothing.
use Rattle.std.specs.Prelude.{List, take}
use Rattle.tuples.specs.declared.blank.Blank.{Ghosts}
use Rattle.tuples.specs.declared.few.Few.{Few}

-- the items, in order
abbrev pub items_of : {X : Type 0} {g : Ghosts X} → Few X g → List X
items_of f = take f.len f.items
