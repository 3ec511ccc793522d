-- A chained space keeps its limit, and holds copies at the 32 sites only. Assumes nothing.
use Rattle.std.specs.Prelude.{◌≡◌, ℕ, zero, suc, ◌<◌, ◌≤◌, Bool, true, false, cond, List, [], ◌∷◌, map, length, Some, None, Option, nat_le, nat_lt, refl}
use Rattle.std.proofs.Common.{ap, arith, length-append}
use Rattle.std.specs.Option.{option_to_list}
use Rattle.std.proofs.lemmas.List.{length-map}
use Rattle.std.proofs.lemmas.Bool.{lt-leb}
use Rattle.tuples.specs.Tuples.{Tuple}
use Rattle.rows.specs.Bags.{once, many}
use Rattle.rows.proofs.Counting.{many-append}
use Rattle.spaces.specs.Spaces.{Bounded, at}
use Rattle.chained.specs.declared.row.ChainRow.{ChainRow}
use Rattle.chained.specs.declared.chains.Chains.{Chains}
use Rattle.chained.specs.declared.space.ChainedSpace.{ChainedSpace}
use Rattle.chained.specs.Links.{tuple_of, tuples_at, trail, next_of, ends_of, upto, total}
use Rattle.chained.specs.Chains.{chain_in, tuples_of}
use Rattle.chained.specs.ChainedSpaces.{chains_of, held_in, room_in}

one_at_most : (o : Option Tuple) → length (option_to_list o) ≤ 1
one_at_most None = omega arith
one_at_most (Some t) = omega arith

tuples-at-most : (rows : List ChainRow) (f : ℕ → ℕ) (n i : ℕ) → length (tuples_at rows (trail f n i)) ≤ n
tuples-at-most rows f zero i = omega arith
tuples-at-most rows f (suc n) i = omega (arith, length-append (option_to_list (tuple_of rows i)) (tuples_at rows (trail f n (f i))), one_at_most (tuple_of rows i), tuples-at-most rows f n (f i))

cond-at-most : (b : Bool) (ts : List Tuple) → length (cond b ts []) ≤ length ts
cond-at-most true ts = omega arith
cond-at-most false ts = omega arith

bag-at-most : (s : Chains) (n : ℕ) → length (upto n (λ c. map (at c) (tuples_of s c))) ≤ total n (λ c. (ends_of s.ends c).many)
unfolding upto total
bag-at-most s zero = omega arith
bag-at-most s (suc n) = omega (arith, length-append (upto n (λ c. map (at c) (tuples_of s c))) (map (at n) (tuples_of s n)), bag-at-most s n, length-map (tuples_of s n) (at n), cond-at-most (nat_lt n 32) (chain_in s n), tuples-at-most s.rows.now (next_of s.rows.now) (ends_of s.ends n).many (ends_of s.ends n).first)

all-at : (c : ℕ) → c < 32 → (ts : List Tuple) → many (λ x. nat_le 32 x.site) (map (at c) ts) ≡ 0
all-at c l [] = refl
all-at c l (t ∷ ts) = let low : once (nat_le 32 c) ≡ 0 = ap once (lt-leb 32 c l) in omega (arith, low, all-at c l ts)

bag-sited : (s : Chains) (n : ℕ) → n ≤ 32 → many (λ x. nat_le 32 x.site) (upto n (λ c. map (at c) (tuples_of s c))) ≡ 0
unfolding upto
bag-sited s zero h = refl
bag-sited s (suc n) h = omega (arith, many-append (λ x. nat_le 32 x.site) (upto n (λ c. map (at c) (tuples_of s c))) (map (at n) (tuples_of s n)), bag-sited s n (omega arith), all-at n (omega arith) (tuples_of s n))

more : (g : ℕ → ℕ) (n : ℕ) → total n g ≤ total (suc n) g
unfolding total
more g n = omega arith

pub chained_bounded : (s : ChainedSpace) → Bounded (held_in s) (room_in s)
chained_bounded s = record {
  fits = omega (arith, bag-at-most (chains_of s) 32, more (λ c. (ends_of (chains_of s).ends c).many) 32, (chains_of s).sound.all);
  most = omega arith;
  sited = bag-sited (chains_of s) 32 (omega arith);
}
