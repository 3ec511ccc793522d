-- The laws of spaces that contracts name. Assumes nothing.
use Rattle.std.specs.Prelude.{◌≡◌, ℕ, List}
use Rattle.tuples.specs.Tuples.{Tuple}
use Rattle.rows.specs.Bags.{Same}
use Rattle.spaces.specs.Spaces.{Located, copies}

-- bags agree in every test exactly if they have as many copies of each tuple at each site
abbrev pub ToldByCopies : Type 0
ToldByCopies = (xs ys : List Located) → (((s : ℕ) (t : Tuple) → copies ys s t ≡ copies xs s t) → Same xs ys) × (Same xs ys → (s : ℕ) (t : Tuple) → copies ys s t ≡ copies xs s t)
