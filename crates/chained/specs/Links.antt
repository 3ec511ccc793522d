-- Rows that lead to one another, and the chains that they make. Assumes nothing.
use Rattle.std.specs.Prelude.{◌≡◌, ℕ, zero, suc, ◌+◌, ◌≤◌, min, cond, List, [], ◌∷◌, ◌++◌, reverse, length, Some, None, Option, ◌==◌, nat_eq, nat_lt, slice_index_or}
use Rattle.std.specs.List.{slice_get, filter_map}
use Rattle.std.specs.Option.{option_to_list, option_map}
use denote.Ref.{Bor}
use Rattle.tuples.specs.Tuples.{Tuple}
use Rattle.rows.specs.Bags.{once, many}
use Rattle.chained.specs.declared.row.ChainRow.{ChainRow}
use Rattle.chained.specs.declared.ends.Ends.{Ends}

-- what a row says of the row behind it, of the row before it, and of its tuple
abbrev pub next_in : Option ChainRow → ℕ
next_in None = 0
next_in (Some x) = x.next

abbrev pub prev_in : Option ChainRow → ℕ
prev_in None = 0
prev_in (Some x) = x.prev

abbrev pub tuple_in : Option ChainRow → Option Tuple
tuple_in None = None
tuple_in (Some x) = Some x.tuple

-- the same of row i of the memory
abbrev pub next_of : List ChainRow → ℕ → ℕ
next_of rows i = next_in (slice_get rows i)

abbrev pub prev_of : List ChainRow → ℕ → ℕ
prev_of rows i = prev_in (slice_get rows i)

abbrev pub tuple_of : List ChainRow → ℕ → Option Tuple
tuple_of rows i = tuple_in (slice_get rows i)

-- n places, the first of them i, each leading to the one behind it
abbrev pub trail : (ℕ → ℕ) → ℕ → ℕ → List ℕ
trail f zero i = []
trail f (suc n) i = i ∷ trail f n (f i)

-- the rows of a chain, read from its first row on
abbrev pub forward : List ChainRow → Ends → List ℕ
forward rows e = trail (next_of rows) e.many e.first

-- the rows of a chain, read from its last row back
abbrev pub backward : List ChainRow → Ends → List ℕ
backward rows e = trail (prev_of rows) e.many e.last

-- the tuples of some rows, in order
abbrev pub tuples_at : List ChainRow → List ℕ → List Tuple
tuples_at rows [] = []
tuples_at rows (i ∷ is) = option_to_list (tuple_of rows i) ++ tuples_at rows is

-- some rows, each told by its number and its tuple
abbrev pub numbered : List ChainRow → List ℕ → List (ℕ × Tuple)
numbered rows is = filter_map (λ i. option_map (λ t. (i, t)) (tuple_of rows i)) is

-- what a number and a lent tuple tell
abbrev pub told : ℕ × Bor Tuple → ℕ × Tuple
told x = (x.0, x.1.now)

-- the ends of chain c; a chain that there is not has no rows
abbrev pub ends_of : List Ends → ℕ → Ends
ends_of ends c = slice_index_or ends c (record { first = 0; last = 0; many = 0 })

-- the rows of chain c
abbrev pub rows_of : List ChainRow → List Ends → ℕ → List ℕ
rows_of rows ends c = forward rows (ends_of ends c)

-- the first n of some lists, one behind the other
unfoldable pub upto : {X : Type 0} → ℕ → (ℕ → List X) → List X
upto zero f = []
upto (suc n) f = upto n f ++ f n

-- the sum of the first n of some numbers
unfoldable pub total : ℕ → (ℕ → ℕ) → ℕ
total zero f = 0
total (suc n) f = total n f + f n

-- how many rows of a memory are linked: all, but at most 4096
abbrev pub room_for : List ChainRow → ℕ
room_for rows = min (length rows) 4096

-- each linked row lies at one place of one of the 33 chains, and no other row lies in any
abbrev pub EachOnce : List ChainRow → List Ends → Type 0
EachOnce rows ends = (k : ℕ) → many (nat_eq k) (upto 33 (rows_of rows ends)) ≡ once (nat_lt k (room_for rows))

-- the chains have as many rows as are linked
abbrev pub AllCounted : List ChainRow → List Ends → Type 0
AllCounted rows ends = total 33 (λ c. (ends_of ends c).many) ≡ room_for rows

-- read from its last row back, a chain gives the same rows in reverse
abbrev pub BothWays : List ChainRow → Ends → Type 0
BothWays rows e = backward rows e ≡ reverse (forward rows e)

-- two memories hold the same tuples
abbrev pub TuplesKept : List ChainRow → List ChainRow → Type 0
TuplesKept old new = (i : ℕ) → tuple_of new i ≡ tuple_of old i

-- two memories hold the same tuples, but that row `at` of the new one holds t
abbrev pub TupleStored : List ChainRow → List ChainRow → ℕ → Tuple → Type 0
TupleStored old new at t = (i : ℕ) → tuple_of new i ≡ cond (i == at) (Some t) (tuple_of old i)

-- two memories agree in every row from row 4096 on
abbrev pub BeyondKept : List ChainRow → List ChainRow → Type 0
BeyondKept old new = (i : ℕ) → 4096 ≤ i → slice_get new i ≡ slice_get old i

-- two memories hold the same tuples, and agree in every row from row 4096 on
pub record Kept (old new : List ChainRow) : Type 0 where
  pub tuples : TuplesKept old new
  pub beyond : BeyondKept old new
