-- The first element that passes a test, its place, and the list without it. Assumes nothing.
use Rattle.std.specs.Prelude.{ℕ, ◌+◌, Bool, cond, List, [], ◌∷◌, find, Option}
use Rattle.std.specs.List.{position_from}

-- the place of the first that passes, where the list begins at place n
abbrev pub place_from : {X : Type 0} → ℕ → (X → Bool) → List X → Option ℕ
place_from n p xs = position_from p n xs

-- the first that passes
abbrev pub found : {X : Type 0} → (X → Bool) → List X → Option X
found p xs = find p xs

-- all but the first that passes, in order
abbrev pub without : {X : Type 0} → (X → Bool) → List X → List X
without p [] = []
without p (x ∷ xs) = cond (p x) xs (x ∷ without p xs)

-- how many are looked at, from the front up to the first that passes, or all
abbrev pub visited : {X : Type 0} → (X → Bool) → List X → ℕ
visited p [] = 0
visited p (x ∷ xs) = 1 + cond (p x) 0 (visited p xs)
