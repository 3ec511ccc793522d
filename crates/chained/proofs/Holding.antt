-- The tuples of a list of rows, and what a search finds among them. Assumes nothing.
use Rattle.std.proofs.Common.{◌≡◌, ℕ, ◌+◌, ◌<◌, Bool, true, false, cond, eqb, List, [], ◌∷◌, ◌++◌, map, length, Some, None, Option, sym, refl, ap, ◌∙◌, inl, inr, append_assoc, arith, length-append, Bor, MatchOption}
use Rattle.std.specs.List.{cons_option, find, filter, position, slice_get}
use Rattle.std.specs.Option.{option_to_list, option_map}
use Rattle.std.proofs.lemmas.List.{length-map}
use Rattle.std.proofs.lemmas.Option.{slice_get_cases}
use Rattle.std.proofs.lemmas.Bool.{eq-eqb, ne_eqb, cond-true, cond-false, both_ways}
use Rattle.tuples.specs.Tuples.{Tuple, Template}
use Rattle.tuples.specs.Matching.{matches}
use Rattle.rows.specs.Bags.{once, many}
use Rattle.rows.specs.Searches.{found, without, visited}
use Rattle.rows.proofs.Counting.{found-passes, many-map}
use Rattle.chained.specs.declared.row.ChainRow.{ChainRow}
use Rattle.chained.specs.Links.{tuple_in, tuple_of, tuples_at, numbered, told}
use Rattle.chained.specs.Steps.{matches_in, matches_at}
use Rattle.chained.proofs.Trails.{times, once-self}
use Rattle.std.proofs.lemmas.List.Sums.{length-filter}
use Rattle.std.proofs.lemmas.Iterator.Adapters.{position_from-zero}
use Rattle.rows.proofs.Searching.{visited_by}
use Rattle.rows.proofs.Counting.{many_counts}
use Rattle.chained.proofs.Searching.{found_step, found-map, visited-map}

-- the search for the first that passes finds an element of the list
module _ (p : ℕ → Bool) where
  in_step : (x y : ℕ) (ys : List ℕ) (b : Bool) → cond b (Some y) (found p ys) ≡ Some x → (found p ys ≡ Some x → 0 < times x ys) → 0 < times x (y ∷ ys)
  in_step x y ys true e more = let same : y ≡ x = cc in omega (arith, once-self x y same)
  in_step x y ys false e more = omega (arith, more e)

  pub found_in : (x : ℕ) (xs : List ℕ) → found p xs ≡ Some x → 0 < times x xs
  found_in x [] e = absurd (let z : ◌≡◌ {A = ℕ} 0 1 = cc in omega arith)
  found_in x (y ∷ ys) e = in_step x y ys (p y) e (found_in x ys)

  out_step : (x y : ℕ) (ys : List ℕ) (b : Bool) → p y ≡ b → p x ≡ true → cond b (Some y) (found p ys) ≡ Some x → (found p ys ≡ Some x → without (eqb x) ys ≡ without p ys) → without (eqb x) (y ∷ ys) ≡ cond b ys (y ∷ without p ys)
  out_step x y ys true is passes e more = let same : y ≡ x = cc in cond-true (eqb x y) ys _ (eq-eqb x y (sym same))
  out_step x y ys false is passes e more = cond-false (eqb x y) ys (y ∷ without (eqb x) ys) (ne_eqb x y (λ z. both_ways (p y) is (ap p (sym z) ∙ passes))) ∙ ap (λ zs. y ∷ zs) (more e)

  -- without the first that passes, or without the element that it is
  pub without-found : (x : ℕ) (xs : List ℕ) → found p xs ≡ Some x → without (eqb x) xs ≡ without p xs
  without-found x [] e = refl
  without-found x (y ∷ ys) e = out_step x y ys (p y) refl (found-passes p (y ∷ ys) x e) e (without-found x ys)

module _ (rows : List ChainRow) where
  pub tuples-append : (is js : List ℕ) → tuples_at rows (is ++ js) ≡ tuples_at rows is ++ tuples_at rows js
  tuples-append [] js = refl
  tuples-append (i ∷ is) js = ap (λ ts. option_to_list (tuple_of rows i) ++ ts) (tuples-append is js) ∙ sym (append_assoc (option_to_list (tuple_of rows i)) (tuples_at rows is) (tuples_at rows js))

  pub tuples-length : (is : List ℕ) → ((j : ℕ) → 0 < times j is → j < length rows) → length (tuples_at rows is) ≡ length is
  tuples-length [] h = refl
  tuples-length (i ∷ is) h =
      let there : length (option_to_list (tuple_of rows i)) ≡ 1 = elim (slice_get_cases rows i).1 [
        | inl x ↦ ap (λ o. length (option_to_list (tuple_in o))) x.2
        | inr x ↦ absurd (omega (arith, x.0, h i (omega (arith, once-self i i refl))))
      ] in
      omega (arith, length-append (option_to_list (tuple_of rows i)) (tuples_at rows is), there, tuples-length is (λ j b. h j (omega (arith, b))))

  -- numbered rows without their numbers
  tuples_step : (o : Option Tuple) (i : ℕ) (is : List ℕ) → map (λ x. x.1) (numbered rows is) ≡ tuples_at rows is → map (λ x. x.1) (cons_option (option_map (λ t. (i, t)) o) (numbered rows is)) ≡ option_to_list o ++ tuples_at rows is
  tuples_step None i is more = more
  tuples_step (Some t) i is more = ap (λ ts. t ∷ ts) more

  pub numbered-tuples : (is : List ℕ) → map (λ x. x.1) (numbered rows is) ≡ tuples_at rows is
  numbered-tuples [] = refl
  numbered-tuples (i ∷ is) = tuples_step (tuple_of rows i) i is (numbered-tuples is)

  pub numbered-length : (is : List ℕ) → ((j : ℕ) → 0 < times j is → j < length rows) → length (numbered rows is) ≡ length is
  numbered-length is h = sym (length-map (numbered rows is) (λ x. x.1)) ∙ ap length (numbered-tuples is) ∙ tuples-length is h

  module _ (m : Template) where
    -- the tuple of the row that was found
    abbrev pub tuple_found : Option ℕ → Option Tuple
    tuple_found None = None
    tuple_found (Some i) = tuple_of rows i

    found_tests : (o : Option Tuple) (i : ℕ) (is : List ℕ) (b : Bool) → tuple_of rows i ≡ o → matches_in m o ≡ b → found (matches m) (tuples_at rows is) ≡ tuple_found (found (matches_at rows m) is) → found (matches m) (option_to_list o ++ tuples_at rows is) ≡ tuple_found (cond b (Some i) (found (matches_at rows m) is))
    found_tests None i is true e t more = absurd (let z : ◌≡◌ {A = ℕ} 0 1 = ap once t in omega arith)
    found_tests None i is false e t more = more
    found_tests (Some x) i is true e t more = cond-true (matches m x) (Some x) _ t ∙ sym e
    found_tests (Some x) i is false e t more = cond-false (matches m x) (Some x) _ t ∙ more

    pub tuples-found : (is : List ℕ) → found (matches m) (tuples_at rows is) ≡ tuple_found (found (matches_at rows m) is)
    tuples-found [] = refl
    tuples-found (i ∷ is) = found_tests (tuple_of rows i) i is (matches_at rows m i) refl refl (tuples-found is)

    numbered_found : (o : Option Tuple) (i : ℕ) (is : List ℕ) → option_map (λ x. x.0) (found (λ x. matches m x.1) (numbered rows is)) ≡ found (matches_at rows m) is → option_map (λ x. x.0) (found (λ x. matches m x.1) (cons_option (option_map (λ t. (i, t)) o) (numbered rows is))) ≡ cond (matches_in m o) (Some i) (found (matches_at rows m) is)
    numbered_found None i is more = more
    numbered_found (Some t) i is more = found_step (λ x. x.0) (matches m t) (i, t) (found (λ x. matches m x.1) (numbered rows is)) (found (matches_at rows m) is) more

    -- the row that a search of numbered rows finds
    pub numbered-found : (is : List ℕ) → option_map (λ x. x.0) (found (λ x. matches m x.1) (numbered rows is)) ≡ found (matches_at rows m) is
    numbered-found [] = refl
    numbered-found (i ∷ is) = numbered_found (tuple_of rows i) i is (numbered-found is)

    -- what the library's words for finding, counting and telling the place say of numbered rows
    pub find_numbered : (is : List ℕ) (o : Option (ℕ × Bor Tuple)) → option_map told o ≡ find (λ x. matches m x.1) (numbered rows is) → (option_map (λ x. x.0) o ≡ found (matches_at rows m) is) × (option_map (λ x. x.1.now) o ≡ found (matches m) (tuples_at rows is))
    find_numbered is o e =
        let all : option_map told o ≡ found (λ x. matches m x.1) (numbered rows is) = e in
        (parts o ∙ ap (option_map (λ x. x.0)) all ∙ numbered-found is, tuple_part o ∙ ap (option_map (λ x. x.1)) all ∙ found-map (λ x. x.1) (matches m) (numbered rows is) ∙ ap (found (matches m)) (numbered-tuples is))
      where
        parts : (o : Option (ℕ × Bor Tuple)) → option_map (λ x. x.0) o ≡ option_map (λ x. x.0) (option_map told o)
        parts None = refl
        parts (Some x) = refl

        tuple_part : (o : Option (ℕ × Bor Tuple)) → option_map (λ x. x.1.now) o ≡ option_map (λ x. x.1) (option_map told o)
        tuple_part None = refl
        tuple_part (Some x) = refl

    pub count_numbered : (is : List ℕ) → length (filter (λ x. matches m x.1) (numbered rows is)) ≡ many (matches m) (tuples_at rows is)
    count_numbered is = length-filter (λ x. matches m x.1) (numbered rows is) ∙ sym (many_counts (λ x. matches m x.1) (numbered rows is)) ∙ sym (many-map (λ x. x.1) (matches m) (numbered rows is)) ∙ ap (many (matches m)) (numbered-tuples is)

    pub visits_numbered : (is : List ℕ) (o : Option ℕ) (r : ℕ) → o ≡ position (λ x. matches m x.1) (numbered rows is) → MatchOption o (r ≡ length (numbered rows is)) (λ i. r ≡ i + 1) → r ≡ visited (matches m) (tuples_at rows is)
    visits_numbered is o r e h = visited_by (λ x. matches m x.1) o (numbered rows is) r (e ∙ position_from-zero (λ x. matches m x.1) (numbered rows is)) h ∙ visited-map (λ x. x.1) (matches m) (numbered rows is) ∙ ap (visited (matches m)) (numbered-tuples is)

    without_tests : (o : Option Tuple) (i : ℕ) (is : List ℕ) (b : Bool) → tuple_of rows i ≡ o → matches_in m o ≡ b → tuples_at rows (without (matches_at rows m) is) ≡ without (matches m) (tuples_at rows is) → tuples_at rows (cond b is (i ∷ without (matches_at rows m) is)) ≡ without (matches m) (option_to_list o ++ tuples_at rows is)
    without_tests None i is true e t more = absurd (let z : ◌≡◌ {A = ℕ} 0 1 = ap once t in omega arith)
    without_tests None i is false e t more = ap (λ o. option_to_list o ++ tuples_at rows (without (matches_at rows m) is)) e ∙ more
    without_tests (Some x) i is true e t more = sym (cond-true (matches m x) (tuples_at rows is) _ t)
    without_tests (Some x) i is false e t more = ap (λ o. option_to_list o ++ tuples_at rows (without (matches_at rows m) is)) e ∙ ap (λ ts. x ∷ ts) more ∙ sym (cond-false (matches m x) (tuples_at rows is) _ t)

    pub tuples-without : (is : List ℕ) → tuples_at rows (without (matches_at rows m) is) ≡ without (matches m) (tuples_at rows is)
    tuples-without [] = refl
    tuples-without (i ∷ is) = without_tests (tuple_of rows i) i is (matches_at rows m i) refl refl (tuples-without is)

    many_tests : (o : Option Tuple) (n : ℕ) (ts : List Tuple) → n ≡ many (matches m) ts → once (matches_in m o) + n ≡ many (matches m) (option_to_list o ++ ts)
    many_tests None n ts e = omega (arith, e)
    many_tests (Some x) n ts e = omega (arith, e)

    pub tuples-many : (is : List ℕ) → many (matches_at rows m) is ≡ many (matches m) (tuples_at rows is)
    tuples-many [] = refl
    tuples-many (i ∷ is) = many_tests (tuple_of rows i) (many (matches_at rows m) is) (tuples_at rows is) (tuples-many is)

    visited_tests : (o : Option ChainRow) (x : ChainRow) (n : ℕ) (ts : List Tuple) → o ≡ Some x → n ≡ visited (matches m) ts → 1 + cond (matches_in m (tuple_in o)) 0 n ≡ visited (matches m) (option_to_list (tuple_in o) ++ ts)
    visited_tests None x n ts is e = absurd (let z : ◌≡◌ {A = ℕ} 0 1 = cc in omega arith)
    visited_tests (Some y) x n ts is e = ap (λ k. 1 + cond (matches m y.tuple) 0 k) e

    pub tuples-visited : (is : List ℕ) → ((j : ℕ) → 0 < times j is → j < length rows) → visited (matches_at rows m) is ≡ visited (matches m) (tuples_at rows is)
    tuples-visited [] h = refl
    tuples-visited (i ∷ is) h = elim (slice_get_cases rows i).1 [
      | inl x ↦ visited_tests (slice_get rows i) x.0 (visited (matches_at rows m) is) (tuples_at rows is) x.2 (tuples-visited is (λ j b. h j (omega (arith, b))))
      | inr x ↦ absurd (omega (arith, x.0, h i (omega (arith, once-self i i refl))))
    ]

-- rows whose tuples are kept
pub tuples-same : (rows new : List ChainRow) (is : List ℕ) → ((j : ℕ) → 0 < times j is → tuple_of new j ≡ tuple_of rows j) → tuples_at new is ≡ tuples_at rows is
tuples-same rows new [] h = refl
tuples-same rows new (i ∷ is) h =
    ap (λ o. option_to_list o ++ tuples_at new is) (h i (omega (arith, once-self i i refl))) ∙ ap (λ ts. option_to_list (tuple_of rows i) ++ ts) (tuples-same rows new is (λ j b. h j (omega (arith, b))))
