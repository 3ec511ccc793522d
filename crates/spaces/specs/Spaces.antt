-- A space as a bag: the copies of each tuple at each site. Assumes nothing.
use Rattle.std.specs.Prelude.{◌≡◌, ℕ, ◌≤◌, Bool, ◌&&◌, List, length, ◌==◌, nat_le}
use Rattle.tuples.specs.Tuples.{Tuple, Template, same_tuple}
use Rattle.tuples.specs.Matching.{matches}
use Rattle.rows.specs.Bags.{many}

-- a copy of a tuple at a site
pub record Located : Type 0 where
  pub site : ℕ
  pub tuple : Tuple

-- a tuple at a site
abbrev pub at : ℕ → Tuple → Located
at s t = record { site = s; tuple = t }

-- whether it lies at the site and the template matches it
abbrev pub hits : ℕ → Template → Located → Bool
hits s m x = x.site == s && matches m x.tuple

-- whether it is this tuple at this site
abbrev pub is : ℕ → Tuple → Located → Bool
is s t x = x.site == s && same_tuple x.tuple t

-- the number of copies of a tuple at a site
abbrev pub copies : List Located → ℕ → Tuple → ℕ
copies xs s t = many (is s t) xs

-- a limit of at most 4096 that is kept, and no copy anywhere but at the 32 sites
pub record Bounded (xs : List Located) (limit : ℕ) : Type 0 where
  pub fits : length xs ≤ limit
  pub most : limit ≤ 4096
  pub sited : many (λ x. nat_le 32 x.site) xs ≡ 0
