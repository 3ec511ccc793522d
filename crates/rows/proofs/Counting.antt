-- How many of a list pass a test. Assumes nothing.
use Rattle.std.proofs.Common.{◌≡◌, ℕ, ◌+◌, ◌<◌, ◌≤◌, Bool, true, false, cond, List, [], ◌∷◌, ◌++◌, map, length, get_or, take, is_ok, Some, None, Ok, Err, Decides, Option, Result, sym, refl, ap, ◌∙◌, arith, MatchOption, MatchResult}
use Rattle.std.specs.List.{count_by}
use Rattle.std.proofs.lemmas.List.{take_more}
use Rattle.std.proofs.lemmas.List.Recursion.{is_sum_by}
use Rattle.rows.specs.Bags.{once, many, Same, Gains}
use Rattle.rows.specs.Searches.{found, without}

once_le : (b : Bool) → once b ≤ 1
once_le true = omega arith
once_le false = omega arith

module _ {X : Type 0} (p : X → Bool) where
  pub many-append : (xs ys : List X) → many p (xs ++ ys) ≡ many p xs + many p ys
  many-append [] ys = omega arith
  many-append (x ∷ xs) ys = omega (arith, many-append xs ys)

  pub many_le : (xs : List X) → many p xs ≤ length xs
  many_le [] = omega arith
  many_le (x ∷ xs) = omega (arith, many_le xs, once_le (p x))

  -- x stands at place i, and passes or does not
  pub many_more : (xs : List X) (i : ℕ) (x : X) (b : Bool) → i < length xs → x ≡ get_or xs i x → p x ≡ b → many p (take (i + 1) xs) ≡ many p (take i xs) + once b
  many_more xs i x b h read e =
      let step : many p (take (i + 1) xs) ≡ many p (take i xs ++ (get_or xs i x ∷ [])) = ap (many p) (take_more xs i x h) in
      let parts : many p (take i xs ++ (get_or xs i x ∷ [])) ≡ many p (take i xs) + (once (p (get_or xs i x)) + 0) = many-append (take i xs) (get_or xs i x ∷ []) in
      let same : once (p (get_or xs i x)) ≡ once b = ap (λ y. once (p y)) (sym read) ∙ ap once e in
      omega (arith, step, parts, same)

  pub many_counts : (xs : List X) → many p xs ≡ count_by p xs
  many_counts = is_sum_by (many p) (λ x. once (p x)) refl (λ x xs. refl)

-- the same row at both ends of a bag: what a search finds is what the bag loses
module _ {X : Type 0} where
  some_is : {P : Type 0} (x : X) → None ≡ Some x → P
  some_is x e = absurd (let z : ◌≡◌ {A = ℕ} 0 1 = cc in omega arith)

  passes-step : (p : X → Bool) (x y : X) (xs : List X) (b : Bool) → p x ≡ b → (found p xs ≡ Some y → p y ≡ true) → cond b (Some x) (found p xs) ≡ Some y → p y ≡ true
  passes-step p x y xs true hit more e = let same : x ≡ y = cc in rw same at hit
  passes-step p x y xs false miss more e = more e

  pub found-passes : (p : X → Bool) (xs : List X) (y : X) → found p xs ≡ Some y → p y ≡ true
  found-passes p [] y e = some_is y e
  found-passes p (x ∷ xs) y e = passes-step p x y xs (p x) refl (found-passes p xs y) e

  gains_step : (p q : X → Bool) (x y : X) (xs : List X) (b : Bool) → (found p xs ≡ Some y → many q xs ≡ once (q y) + many q (without p xs)) → cond b (Some x) (found p xs) ≡ Some y → once (q x) + many q xs ≡ once (q y) + many q (cond b xs (x ∷ without p xs))
  gains_step p q x y xs true more e = let same : x ≡ y = cc in ap (λ z. once (q z) + many q xs) same
  gains_step p q x y xs false more e = omega (arith, more e)

  -- what is found is what the list has and the list without it lacks
  pub found_gains : (p : X → Bool) (xs : List X) (y : X) → found p xs ≡ Some y → Gains y (without p xs) xs
  found_gains p [] y e q = some_is y e
  found_gains p (x ∷ xs) y e q = gains_step p q x y xs (p x) (λ f. found_gains p xs y f q) e

  record NoneIn (p : X → Bool) (xs : List X) : Type 0 where
    pub count : many p xs ≡ 0
    pub kept : without p xs ≡ xs

  none_step : (p : X → Bool) (x : X) (xs : List X) (b : Bool) → p x ≡ b → (found p xs ≡ None → NoneIn p xs) → cond b (Some x) (found p xs) ≡ None → NoneIn p (x ∷ xs)
  none_step p x xs true hit more e = some_is x (sym e)
  none_step p x xs false miss more e =
      let rest = more e in
      record { count = rw miss (omega (arith, rest.count)); kept = rw miss (ap (λ ys. x ∷ ys) rest.kept) }

  none_in : (p : X → Bool) (xs : List X) → found p xs ≡ None → NoneIn p xs
  none_in p [] e = record { count = refl; kept = refl }
  none_in p (x ∷ xs) e = none_step p x xs (p x) refl (none_in p xs) e

  pub none_many : (p : X → Bool) (xs : List X) → found p xs ≡ None → many p xs ≡ 0
  none_many p xs e = (none_in p xs e).count

  pub none_without : (p : X → Bool) (xs : List X) → found p xs ≡ None → without p xs ≡ xs
  none_without p xs e = (none_in p xs e).kept

  -- a list with one element more, at its end
  pub gains_last : (x : X) (xs : List X) → Gains x xs (xs ++ (x ∷ []))
  gains_last x xs p = omega (arith, many-append p xs (x ∷ []))

  pub many-all : (xs : List X) → many (λ _. true) xs ≡ length xs
  many-all [] = refl
  many-all (x ∷ xs) = omega (arith, many-all xs)

  -- equal counts mean equal sizes
  pub same_length : (xs ys : List X) → Same xs ys → length ys ≡ length xs
  same_length xs ys s = sym (many-all ys) ∙ s (λ _. true) ∙ many-all xs

  -- one element more
  pub gains_length : (x : X) (xs ys : List X) → Gains x xs ys → length ys ≡ length xs + 1
  gains_length x xs ys s = omega (arith, s (λ _. true), many-all xs, many-all ys)

  found_some_step : (p : X → Bool) (x : X) (xs : List X) (b : Bool) → (0 < many p xs → (y : X) × (found p xs ≡ Some y)) → 0 < once b + many p xs → (y : X) × (cond b (Some x) (found p xs) ≡ Some y)
  found_some_step p x xs true more h = (x, refl)
  found_some_step p x xs false more h = more (omega arith)

  -- where some pass, one is found
  pub found_some : (p : X → Bool) (xs : List X) → 0 < many p xs → (y : X) × (found p xs ≡ Some y)
  found_some p [] h = absurd (omega arith)
  found_some p (x ∷ xs) h = found_some_step p x xs (p x) (found_some p xs) h

  -- bags that hold as many copies of each element hold as many elements that pass any test
  module _ (same : X → X → Bool) (tells : (x y : X) → Decides (same x y) (x ≡ y)) where
    none_left : (ys : List X) → ((x : X) → many (same x) ys ≡ 0) → (p : X → Bool) → many p ys ≡ 0
    none_left [] h p = refl
    none_left (y ∷ ys) h p = absurd (let self : same y y ≡ true = (tells y y).1 refl in let one : once (same y y) ≡ 1 = ap once self in omega (arith, h y, one))

    pub same-from-copies : (xs ys : List X) → ((x : X) → many (same x) ys ≡ many (same x) xs) → Same xs ys
    same-from-copies [] ys h p = none_left ys h p
    same-from-copies (x ∷ xs) ys h p =
        let self : once (same x x) ≡ 1 = ap once ((tells x x).1 refl) in
        let has = found_some (same x) ys (omega (arith, h x, self)) in
        let is : x ≡ has.0 = (tells x has.0).0 (found-passes (same x) ys has.0 has.1) in
        let gain : Gains x (without (same x) ys) ys = λ q. found_gains (same x) ys has.0 has.1 q ∙ ap (λ z. once (q z) + many q (without (same x) ys)) (sym is) in
        let rest : (z : X) → many (same z) (without (same x) ys) ≡ many (same z) xs = λ z. omega (arith, gain (same z), h z) in
        omega (arith, gain p, same-from-copies xs (without (same x) ys) rest p)

module _ {X Y : Type 0} (f : X → Y) (p : Y → Bool) where
  pub many-map : (xs : List X) → many p (map f xs) ≡ many (λ x. p (f x)) xs
  many-map [] = refl
  many-map (x ∷ xs) = omega (arith, many-map xs)

-- a test that passes less often
module _ {X : Type 0} (p q : X → Bool) (weaker : (x : X) → p x ≡ true → q x ≡ true) where
  once_implied : (b c : Bool) → (b ≡ true → c ≡ true) → once b ≤ once c
  once_implied true c h = let e : once c ≡ 1 = ap once (h refl) in omega (arith, e)
  once_implied false c h = omega arith

  pub many_implied : (xs : List X) → many p xs ≤ many q xs
  many_implied [] = omega arith
  many_implied (x ∷ xs) = omega (arith, many_implied xs, once_implied (p x) (q x) (weaker x))

-- what a bag becomes, by the answer of a call that adds or takes out
module _ {X : Type 0} where
  pub added_bag : {E : Type 0} (r : Result (Unit {0}) E) (x : X) (xs ys : List X) → ys ≡ cond (is_ok r) (xs ++ (x ∷ [])) xs → MatchResult r (λ _. Gains x xs ys) (λ _. Same xs ys)
  added_bag (Ok u) x xs ys e = λ p. ap (many p) e ∙ gains_last x xs p
  added_bag (Err z) x xs ys e = λ p. ap (many p) e

  pub taken_bag : (p : X → Bool) (o : Option X) (xs ys : List X) → o ≡ found p xs → ys ≡ without p xs → MatchOption o ((many p xs ≡ 0) × Same xs ys) (λ x. (p x ≡ true) × Gains x ys xs)
  taken_bag p None xs ys e w = (none_many p xs (sym e), λ q. ap (many q) (w ∙ none_without p xs (sym e)))
  taken_bag p (Some x) xs ys e w = (found-passes p xs x (sym e), λ q. found_gains p xs x (sym e) q ∙ ap (λ zs. once (q x) + many q zs) (sym w))

  -- a test that nothing passes
  module _ (p : X → Bool) (fails : (x : X) → p x ≡ false) where
    pub nothing_found : (xs : List X) → found p xs ≡ None
    nothing_found [] = refl
    nothing_found (x ∷ xs) = rw (fails x) (nothing_found xs)
