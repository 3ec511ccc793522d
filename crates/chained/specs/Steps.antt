-- The steps by which a row goes from one chain to another, and a search along a chain. Assumes nothing.
use Rattle.std.specs.Prelude.{◌≡◌, ℕ, ◌+◌, ◌<◌, ◌≤◌, Bool, false, cond, List, [], ◌∷◌, ◌++◌, length, Some, None, Option, ◌==◌, ◌≢◌, nat_eq}
use Rattle.tuples.specs.Tuples.{Tuple, Template}
use Rattle.tuples.specs.Matching.{matches}
use Rattle.rows.specs.Bags.{many}
use Rattle.rows.specs.Searches.{without}
use Rattle.chained.specs.declared.row.ChainRow.{ChainRow}
use Rattle.chained.specs.declared.ends.Ends.{Ends}
use Rattle.chained.specs.Links.{next_of, prev_of, tuple_of, forward, ends_of, rows_of, room_for, EachOnce, AllCounted, BothWays, Kept}

-- f, but that i leads to j
abbrev pub led : (ℕ → ℕ) → ℕ → ℕ → ℕ → ℕ
led f i j k = cond (k == i) j (f k)

-- whether there is a tuple and the template matches it
abbrev pub matches_in : Template → Option Tuple → Bool
matches_in m None = false
matches_in m (Some t) = matches m t

-- whether the template matches the tuple of row i
abbrev pub matches_at : List ChainRow → Template → ℕ → Bool
matches_at rows m i = matches_in m (tuple_of rows i)

-- no row lies in a chain twice
abbrev pub Single : List ChainRow → Ends → Type 0
Single rows e = (k : ℕ) → many (nat_eq k) (forward rows e) ≤ 1

-- a chain has linked rows only
abbrev pub Inside : List ChainRow → Ends → Type 0
Inside rows e = (k : ℕ) → 0 < many (nat_eq k) (forward rows e) → k < room_for rows

-- a chain of linked rows, none of them twice, that can be read both ways
pub record SoundChain (rows : List ChainRow) (e : Ends) : Type 0 where
  pub both : BothWays rows e
  pub single : Single rows e
  pub inside : Inside rows e

-- the 33 chains of a memory are in order
pub record Sound (rows : List ChainRow) (ends : List Ends) : Type 0 where
  pub count : length ends ≡ 33
  pub each : EachOnce rows ends
  pub all : AllCounted rows ends
  pub both : (c : ℕ) → c < 33 → BothWays rows (ends_of ends c)

-- the 33 chains of a memory are in order, and all linked rows lie in the last of them
pub record Fresh (rows : List ChainRow) (ends : List Ends) : Type 0 where
  pub sound : Sound rows ends
  pub empty : (c : ℕ) → c < 32 → (ends_of ends c).many ≡ 0

-- two memories agree in the links of row i
abbrev pub LinksKept : List ChainRow → List ChainRow → ℕ → Type 0
LinksKept old new i = (next_of new i ≡ next_of old i) × (prev_of new i ≡ prev_of old i)

-- row `at` has gone out of chain `from` and to the end of chain `to`
pub record Moved (old : List ChainRow) (old_ends : List Ends) (new : List ChainRow) (new_ends : List Ends) (from at to : ℕ) : Type 0 where
  pub sound : Sound new new_ends
  pub gone : rows_of new new_ends from ≡ without (nat_eq at) (rows_of old old_ends from)
  pub come : rows_of new new_ends to ≡ rows_of old old_ends to ++ (at ∷ [])
  pub rest : (c : ℕ) → c < 33 → (c ≢ from) → (c ≢ to) → rows_of new new_ends c ≡ rows_of old old_ends c
  pub fewer : (ends_of new_ends from).many + 1 ≡ (ends_of old_ends from).many
  pub more : (ends_of new_ends to).many ≡ (ends_of old_ends to).many + 1
  pub others : (c : ℕ) → (c ≢ from) → (c ≢ to) → ends_of new_ends c ≡ ends_of old_ends c
  pub kept : Kept old new
