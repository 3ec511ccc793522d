-- What the chains of a memory hold. Assumes nothing.
use Rattle.std.specs.Prelude.{◌≡◌, ℕ, cond, List, [], map, nat_lt}
use Rattle.tuples.specs.Tuples.{Tuple}
use Rattle.spaces.specs.Spaces.{Located, at}
use Rattle.chained.specs.declared.row.ChainRow.{ChainRow}
use Rattle.chained.specs.declared.chains.Chains.{Chains}
use Rattle.chained.specs.Links.{tuples_at, ends_of, rows_of, room_for, upto}

-- the memory
abbrev pub memory : Chains → List ChainRow
memory s = s.rows.now

-- how many rows of the memory are linked
abbrev pub rows_in : Chains → ℕ
rows_in s = room_for (memory s)

-- the first row of the chain of free rows
abbrev pub first_free : Chains → ℕ
first_free s = (ends_of s.ends 32).first

-- the tuples in the rows of chain c, in order
abbrev pub chain_in : Chains → ℕ → List Tuple
chain_in s c = tuples_at (memory s) (rows_of (memory s) s.ends c)

-- what lies at site c, oldest put first; nothing where there is no such site
abbrev pub tuples_of : Chains → ℕ → List Tuple
tuples_of s c = cond (nat_lt c 32) (chain_in s c) []

-- the copies of tuples at the 32 sites
abbrev pub bag : Chains → List Located
bag s = upto 32 (λ c. map (at c) (tuples_of s c))

-- the same memory is lent, and as many of its rows are linked
pub record SameMemory (old new : Chains) : Type 0 where
  pub lent : new.rows.ghost_name ≡ old.rows.ghost_name
  pub fixed : rows_in new ≡ rows_in old
