-- A search through two lists, one behind the other. Assumes nothing.
use Rattle.std.proofs.Common.{◌≡◌, ℕ, ◌+◌, Bool, true, false, cond, List, [], ◌∷◌, ◌++◌, length, Some, None, Option, MatchOption, sym, refl, ap, ◌∙◌, arith}
use Rattle.rows.specs.Searches.{place_from}

module _ {X : Type 0} (p : X → Bool) where
  some_step : (n i : ℕ) (x : X) (xs ys : List X) (b : Bool) → (Some i ≡ place_from (n + 1) p xs → Some i ≡ place_from (n + 1) p (xs ++ ys)) → Some i ≡ cond b (Some n) (place_from (n + 1) p xs) → Some i ≡ cond b (Some n) (place_from (n + 1) p (xs ++ ys))
  some_step n i x xs ys true more e = e
  some_step n i x xs ys false more e = more e

  -- found in the first of two lists
  pub place_left : (n i : ℕ) (xs ys : List X) → Some i ≡ place_from n p xs → Some i ≡ place_from n p (xs ++ ys)
  place_left n i [] ys e = absurd (let z : ◌≡◌ {A = ℕ} 0 1 = cc in omega arith)
  place_left n i (x ∷ xs) ys e = some_step n i x xs ys (p x) (place_left (n + 1) i xs ys) e

  none_step : (n m : ℕ) (x : X) (xs ys : List X) (b : Bool) → (None ≡ place_from (n + 1) p xs → place_from (n + 1) p (xs ++ ys) ≡ place_from m p ys) → None ≡ cond b (Some n) (place_from (n + 1) p xs) → cond b (Some n) (place_from (n + 1) p (xs ++ ys)) ≡ place_from m p ys
  none_step n m x xs ys true more e = absurd (let z : ◌≡◌ {A = ℕ} 0 1 = cc in omega arith)
  none_step n m x xs ys false more e = more e

  -- not found in the first of two lists
  pub place_right : (n m : ℕ) (xs ys : List X) → m ≡ n + length xs → None ≡ place_from n p xs → place_from n p (xs ++ ys) ≡ place_from m p ys
  place_right n m [] ys e f = ap (λ k. place_from k p ys) (let same : n ≡ m = omega arith in same)
  place_right n m (x ∷ xs) ys e f = none_step n m x xs ys (p x) (place_right (n + 1) m xs ys (omega arith)) f

  shift_step : (k m i : ℕ) (x : X) (ys : List X) (b : Bool) → (Some i ≡ place_from (m + 1) p ys → Some (k + i) ≡ place_from (k + m + 1) p ys) → Some i ≡ cond b (Some m) (place_from (m + 1) p ys) → Some (k + i) ≡ cond b (Some (k + m)) (place_from (k + m + 1) p ys)
  shift_step k m i x ys true more e = let same : i ≡ m = cc in ap (λ j. Some (k + j)) same
  shift_step k m i x ys false more e = more e

  -- the same place, where the list begins k further on
  pub place_shift : (k m i : ℕ) (ys : List X) → Some i ≡ place_from m p ys → Some (k + i) ≡ place_from (k + m) p ys
  place_shift k m i [] e = absurd (let z : ◌≡◌ {A = ℕ} 0 1 = cc in omega arith)
  place_shift k m i (y ∷ ys) e =
      let assoc : k + (m + 1) ≡ k + m + 1 = omega arith in
      shift_step k m i y ys (p y) (λ f. place_shift k (m + 1) i ys f ∙ ap (λ j. place_from j p ys) assoc) e

  none_shift_step : (k m : ℕ) (x : X) (ys : List X) (b : Bool) → (None ≡ place_from (m + 1) p ys → None ≡ place_from (k + 1) p ys) → None ≡ cond b (Some m) (place_from (m + 1) p ys) → None ≡ cond b (Some k) (place_from (k + 1) p ys)
  none_shift_step k m x ys true more e = absurd (let z : ◌≡◌ {A = ℕ} 0 1 = cc in omega arith)
  none_shift_step k m x ys false more e = more e

  pub none_shift : (k m : ℕ) (ys : List X) → None ≡ place_from m p ys → None ≡ place_from k p ys
  none_shift k m [] e = refl
  none_shift k m (y ∷ ys) e = none_shift_step k m y ys (p y) (none_shift (k + 1) (m + 1) ys) e

  -- two lists that are searched from the first place on
  module _ (xs ys : List X) where
    pub place_front : (i : ℕ) → Some i ≡ place_from 0 p xs → Some i ≡ place_from 0 p (xs ++ ys)
    place_front i e = place_left 0 i xs ys e

    second : None ≡ place_from 0 p xs → place_from (length xs) p ys ≡ place_from 0 p (xs ++ ys)
    second e = sym (place_right 0 (length xs) xs ys (omega arith) e)

    -- looked for in the second of them, where the first has none
    pub place_back : (o r : Option ℕ) → None ≡ place_from 0 p xs → o ≡ place_from 0 p ys → MatchOption o (r ≡ None) (λ i. r ≡ Some (length xs + i)) → r ≡ place_from 0 p (xs ++ ys)
    place_back None r e f h = h ∙ none_shift (length xs) 0 ys f ∙ second e
    place_back (Some i) r e f h =
        let zero_more : length xs + 0 ≡ length xs = omega arith in
        h ∙ place_shift (length xs) 0 i ys f ∙ ap (λ k. place_from k p ys) zero_more ∙ second e
