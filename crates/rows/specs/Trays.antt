-- What a tray lists, how much it can hold, and what its memory holds once a row is taken out. Assumes nothing.
use Rattle.std.specs.Prelude.{ℕ, ◌-◌, min, Bool, List, ◌++◌, length, take, drop, Some, None, Option}
use Rattle.std.specs.List.{remove}
use Rattle.rows.specs.declared.tray.Tray.{Tray}
use Rattle.rows.specs.Searches.{place_from}

-- how many rows a tray can use
abbrev pub room : {X : Type 0} {most : ℕ} → Tray X most → ℕ
room {most = most} t = min (length t.rows.now) most

-- how many rows are in use
abbrev pub filled : {X : Type 0} {most : ℕ} → Tray X most → ℕ
filled t = t.used

-- the rows in use, in order
abbrev pub listed : {X : Type 0} {most : ℕ} → Tray X most → List X
listed t = take (filled t) t.rows.now

-- the first n without the one at a place, and the others from the last of these on as they were
abbrev pub closed_up : {X : Type 0} → ℕ → ℕ → List X → List X
closed_up at n xs = remove (take n xs) at ++ drop (n - 1) xs

abbrev pub closed_at : {X : Type 0} → Option ℕ → ℕ → List X → List X
closed_at None n xs = xs
closed_at (Some at) n xs = closed_up at n xs

-- the memory once the first of n rows that passes has been taken out
abbrev pub after_take : {X : Type 0} → (X → Bool) → ℕ → List X → List X
after_take p n xs = closed_at (place_from 0 p (take n xs)) n xs
