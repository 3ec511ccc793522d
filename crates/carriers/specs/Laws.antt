-- The laws of letters and carriers that contracts name. Assumes nothing.
use Rattle.std.specs.Prelude.{◌≡◌, List, Decides}
use Rattle.rows.specs.Bags.{Same}
use Rattle.carriers.specs.declared.letter.Letter.{Letter}
use Rattle.carriers.specs.Letters.{same_letter}
use Rattle.carriers.specs.Carriers.{copies}

-- letters that agree in destination, kind, row and places are equal
abbrev pub ToldByParts : Type 0
ToldByParts = (a b : Letter) → Decides (same_letter a b) (a ≡ b)

-- bags agree in every test exactly if they have as many copies of each letter
abbrev pub ToldByCopies : Type 0
ToldByCopies = (xs ys : List Letter) → (((l : Letter) → copies ys l ≡ copies xs l) → Same xs ys) × (Same xs ys → (l : Letter) → copies ys l ≡ copies xs l)
