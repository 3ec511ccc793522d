-- Lists as bags: how many of their elements pass a test, whatever the order. Assumes nothing.
use Rattle.std.specs.Prelude.{◌≡◌, ℕ, ◌+◌, Bool, cond, List, [], ◌∷◌}

-- 1 where the test passes, else 0
abbrev pub once : Bool → ℕ
once b = cond b 1 0

-- how many pass
abbrev pub many : {X : Type 0} → (X → Bool) → List X → ℕ
many p [] = 0
many p (x ∷ xs) = once (p x) + many p xs

-- ys holds what xs holds: of every test as many pass
abbrev pub Same : {X : Type 0} → List X → List X → Type 0
Same {X} xs ys = (p : X → Bool) → many p ys ≡ many p xs

-- ys holds what xs holds and x once more: of every test as many pass, and one more if x does
abbrev pub Gains : {X : Type 0} → X → List X → List X → Type 0
Gains {X} x xs ys = (p : X → Bool) → many p ys ≡ once (p x) + many p xs
