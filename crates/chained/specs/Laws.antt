-- The laws of chains that contracts name. Assumes nothing.
use Rattle.std.specs.Prelude.{◌≡◌, ℕ, ◌+◌, ◌<◌, length, slice_index}
use Rattle.chained.specs.declared.chains.Chains.{Chains}
use Rattle.chained.specs.Links.{ends_of, rows_of, EachOnce, BothWays}
use Rattle.chained.specs.Chains.{memory, rows_in}

-- a row stands at one place of one chain only: where two places hold the same row they are the same place of the same chain
abbrev pub NoRowShared : Chains → Type 0
NoRowShared s = (c d i j : ℕ) → c < 33 → d < 33 → i < length (rows_of (memory s) s.ends c) → j < length (rows_of (memory s) s.ends d) → slice_index (rows_of (memory s) s.ends c) i ≡ slice_index (rows_of (memory s) s.ends d) j → (c ≡ d) × (i ≡ j)

-- the chains of the sites and the chain of free rows have as many rows as are linked
abbrev pub AllRowsCounted : Chains → Type 0
AllRowsCounted s = s.used + (ends_of s.ends 32).many ≡ rows_in s

-- of any chains: each ends after as many rows as it counts and can be read both ways, no two share a row, and together they have each linked row once and no other
abbrev pub ChainsInOrder : Type 0
ChainsInOrder = (s : Chains) → ((c : ℕ) → length (rows_of (memory s) s.ends c) ≡ (ends_of s.ends c).many) × ((c : ℕ) → c < 33 → BothWays (memory s) (ends_of s.ends c)) × NoRowShared s × EachOnce (memory s) s.ends × AllRowsCounted s
