-- A list as a circle that is read from some place on. Assumes nothing.
use Rattle.std.specs.Prelude.{ℕ, ◌+◌, ◌-◌, cond, List, ◌++◌, take, drop, nat_lt}
use Rattle.std.specs.List.{remove}

-- the list from a place on, and then from its front
abbrev pub turned : {X : Type 0} → ℕ → List X → List X
turned s xs = drop s xs ++ take s xs

-- where element i of the turned list lies, of n
abbrev pub spot : ℕ → ℕ → ℕ → ℕ
spot n s i = cond (nat_lt i (n - s)) (s + i) (i - (n - s))

-- the place after a place, of n
abbrev pub next : ℕ → ℕ → ℕ
next n s = cond (nat_lt s (n - 1)) (s + 1) 0

-- the element at a place is gone, those before it have moved up by one, and the first stands where it stood
abbrev pub raised_up : {X : Type 0} → ℕ → List X → List X
raised_up at xs = take 1 xs ++ remove xs at
