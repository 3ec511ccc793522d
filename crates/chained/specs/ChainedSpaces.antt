-- What a chained space holds as a space. Assumes nothing.
use Rattle.std.specs.Prelude.{ℕ, List}
use Rattle.tuples.specs.Tuples.{Tuple}
use Rattle.spaces.specs.Spaces.{Located}
use Rattle.chained.specs.declared.row.ChainRow.{ChainRow}
use Rattle.chained.specs.declared.chains.Chains.{Chains}
use Rattle.chained.specs.declared.space.ChainedSpace.{ChainedSpace}
use Rattle.chained.specs.Chains.{memory, tuples_of, bag, rows_in}

-- the chains of a space
abbrev pub chains_of : ChainedSpace → Chains
chains_of s = s.chains

-- what lies at site c of a space, oldest put first; nothing where there is no such site
abbrev pub chain_of : ChainedSpace → ℕ → List Tuple
chain_of s c = tuples_of (chains_of s) c

-- the rows of memory that a space was given
abbrev pub memory_of : ChainedSpace → List ChainRow
memory_of s = memory (chains_of s)

-- the copies that a space holds
abbrev pub held_in : ChainedSpace → List Located
held_in s = bag (chains_of s)

-- how many copies a space can hold
abbrev pub room_in : ChainedSpace → ℕ
room_in s = rows_in (chains_of s)
