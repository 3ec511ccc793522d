-- What a number is worth.
use Rattle.std.specs.Prelude.{ℕ, ◌+◌, ◌-◌, ◌*◌, Bool, cond, List, ℤ, pos, neg_ℤ, Some, None, fold, Option, nat_le}

-- the value of digits in base ten
abbrev pub value : List ℕ → ℕ
value ds = fold (λ n b. n * 10 + (b - 48)) 0 ds

-- the number of that magnitude, if it has 32 bits
abbrev pub signed : Bool → ℕ → Option ℤ
signed minus n = cond minus (cond (nat_le n 2147483648) (Some (neg_ℤ (pos n))) None) (cond (nat_le n 2147483647) (Some (pos n)) None)
