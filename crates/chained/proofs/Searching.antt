-- A search along what a function makes of a list. Assumes nothing.
use Rattle.std.proofs.Common.{◌≡◌, ℕ, suc, ◌+◌, Bool, true, false, cond, not, ltb, List, [], ◌∷◌, map, length, Some, None, Option, sym, refl, ap, ◌∙◌, inl, inr, arith, MatchOption}
use Rattle.std.specs.List.{find, filter, position, position_or_len}
use Rattle.std.specs.Option.{option_map}
use Rattle.std.proofs.lemmas.Bool.{cases_lt, lt-ltb, le-ltb, cond-true, cond-false}
use Rattle.rows.specs.Bags.{once, many}
use Rattle.rows.specs.Searches.{found, visited}

module _ {X Y : Type 0} (f : X → Y) where
  pub found_step : (b : Bool) (x : X) (o : Option X) (q : Option Y) → option_map f o ≡ q → option_map f (cond b (Some x) o) ≡ cond b (Some (f x)) q
  found_step true x o q e = refl
  found_step false x o q e = e

  pub found-map : (p : Y → Bool) (xs : List X) → option_map f (found (λ x. p (f x)) xs) ≡ found p (map f xs)
  found-map p [] = refl
  found-map p (x ∷ xs) = found_step (p (f x)) x (found (λ x. p (f x)) xs) (found p (map f xs)) (found-map p xs)

  pub visited-map : (p : Y → Bool) (xs : List X) → visited (λ x. p (f x)) xs ≡ visited p (map f xs)
  visited-map p [] = refl
  visited-map p (x ∷ xs) = ap (λ n. 1 + cond (p (f x)) 0 n) (visited-map p xs)
