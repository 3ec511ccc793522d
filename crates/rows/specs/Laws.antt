-- The laws of bags that contracts name. Assumes nothing.
use Rattle.std.specs.Prelude.{◌≡◌, Bool, List, length, Decides}
use Rattle.rows.specs.Bags.{many, Same}

-- bags that agree in every test have equal sizes
abbrev pub SameSizes : Type 0 → Type 0
SameSizes X = (xs ys : List X) → Same xs ys → length ys ≡ length xs

-- where a test tells whether two elements are the same, bags with as many copies of each element agree in every test
abbrev pub ToldByCopies : Type 0 → Type 0
ToldByCopies X = (same : X → X → Bool) → ((x y : X) → Decides (same x y) (x ≡ y)) → (xs ys : List X) → ((x : X) → many (same x) ys ≡ many (same x) xs) → Same xs ys
