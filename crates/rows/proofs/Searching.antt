-- What the searches through a list find, place by place, and by the place that std's `position` counts. Assumes nothing.
use Rattle.std.proofs.Common.{◌≡◌, ℕ, suc, ◌+◌, ◌<◌, ◌≤◌, min, Bool, true, false, not, cond, ltb, List, [], ◌∷◌, length, get_or, drop, Some, None, Option, MatchOption, sym, refl, ap, ◌∙◌, arith}
use Rattle.std.specs.List.{remove, position_or_len}
use Rattle.std.proofs.lemmas.Bool.{ltb-true}
use Rattle.std.proofs.lemmas.List.{drop_more, drop_all}
use Rattle.std.proofs.lemmas.List.Folds.{find_at}
use Rattle.std.proofs.lemmas.Option.{cond_some, slice_get-get_or}
use Rattle.std.proofs.lemmas.Iterator.Adapters.{position_from-zero}
use Rattle.rows.specs.Searches.{place_from, found, without, visited}

-- a variant of Option is not the other
some_none : {X P : Type 0} (x : X) → Some x ≡ None → P
some_none x e = absurd (let z : ◌≡◌ {A = ℕ} 0 1 = cc in omega arith)

module _ {X : Type 0} (p : X → Bool) where
  -- x stands at place i and passes
  pub place_here : (xs : List X) (i : ℕ) (x : X) → i < length xs → x ≡ get_or xs i x → p x ≡ true → place_from i p (drop i xs) ≡ Some i
  place_here xs i x h read hit =
      let e : p (get_or xs i x) ≡ true = rw read at hit in
      rw (drop_more xs i x h, e)

  -- x stands at place i and does not pass
  pub place-next : (xs : List X) (i : ℕ) (x : X) → i < length xs → x ≡ get_or xs i x → p x ≡ false → place_from i p (drop i xs) ≡ place_from (i + 1) p (drop (i + 1) xs)
  place-next xs i x h read miss =
      let e : p (get_or xs i x) ≡ false = rw read at miss in
      rw (drop_more xs i x h, e)

  pub place_end : (xs : List X) (i : ℕ) → length xs ≤ i → place_from i p (drop i xs) ≡ None
  place_end xs i h = rw (drop_all i xs h)

  visited-step : (b : Bool) (k m v : ℕ) → v ≡ min (k + 1) m → 1 + cond b 0 v ≡ min (cond (not b) (1 + k) 0 + 1) (suc m)
  visited-step true k m v e = omega arith
  visited-step false k m v e = omega arith

  pub visited-position : (xs : List X) → visited p xs ≡ min (position_or_len p xs + 1) (length xs)
  visited-position [] = omega arith
  visited-position (x ∷ xs) = visited-step (p x) _ _ _ (visited-position xs)

  without-step : (b : Bool) (x : X) (k : ℕ) (xs ys : List X) → ys ≡ remove xs k → cond b xs (x ∷ ys) ≡ remove (x ∷ xs) (cond (not b) (1 + k) 0)
  without-step true x k xs ys e = refl
  without-step false x k xs ys e = grind arith

  pub without-remove : (xs : List X) → without p xs ≡ remove xs (position_or_len p xs)
  without-remove [] = refl
  without-remove (x ∷ xs) = without-step (p x) x _ xs _ (without-remove xs)

  -- the element at place k is the first that passes
  pub record First (xs : List X) (k : ℕ) : Type 0 where
    pub within : k < length xs
    pub is_found : (d : X) → found p xs ≡ Some (get_or xs k d)
    pub is-out : without p xs ≡ remove xs k

  pub first-at : (i : ℕ) (xs : List X) → place_from 0 p xs ≡ Some i → First xs i
  first-at i xs e =
      let at = cond_some (ltb (position_or_len p xs) (length xs)) (position_or_len p xs) i (position_from-zero p xs ∙ e) in
      let here : position_or_len p xs < length xs = ltb-true _ _ at.0 in
      record {
        within = omega (arith, here, at.1);
        is_found = λ d. find_at p xs ∙ slice_get-get_or xs (position_or_len p xs) d here ∙ ap (λ k. Some (get_or xs k d)) at.1;
        is-out = without-remove xs ∙ ap (remove xs) at.1;
      }

  -- what stands at place i, in a list that begins at place n
  pub record Reached (n : ℕ) (xs : List X) (i : ℕ) : Type 0 where
    pub behind : ℕ
    pub place : i ≡ n + behind
    pub first : First xs behind

  reached_step : (n i : ℕ) (x : X) (xs : List X) (b : Bool) → p x ≡ b → (place_from (n + 1) p xs ≡ Some i → Reached (n + 1) xs i) → cond b (Some n) (place_from (n + 1) p xs) ≡ Some i → Reached n (x ∷ xs) i
  reached_step n i x xs true hit more e = record {
    behind = 0;
    place = (let same : n ≡ i = cc in omega arith);
    first = record { within = omega arith; is_found = λ d. rw hit; is-out = rw hit };
  }
  reached_step n i x xs false miss more e =
      let r = more e in
      record {
        behind = suc r.behind;
        place = omega (arith, r.place);
        first = record {
          within = omega (arith, r.first.within);
          is_found = λ d. rw miss (r.first.is_found d);
          is-out = rw miss (ap (λ ys. x ∷ ys) r.first.is-out);
        };
      }

  pub reached : (n i : ℕ) (xs : List X) → place_from n p xs ≡ Some i → Reached n xs i
  reached n i [] e = some_none i (sym e)
  reached n i (x ∷ xs) e = reached_step n i x xs (p x) refl (reached (n + 1) i xs) e

  -- none passes
  pub record Missed (xs : List X) : Type 0 where
    pub none : found p xs ≡ None
    pub kept : without p xs ≡ xs

  missed_step : (n : ℕ) (x : X) (xs : List X) (b : Bool) → p x ≡ b → (place_from (n + 1) p xs ≡ None → Missed xs) → cond b (Some n) (place_from (n + 1) p xs) ≡ None → Missed (x ∷ xs)
  missed_step n x xs true hit more e = some_none n e
  missed_step n x xs false miss more e =
      let m = more e in
      record { none = rw miss m.none; kept = rw miss (ap (λ ys. x ∷ ys) m.kept) }

  pub missed : (n : ℕ) (xs : List X) → place_from n p xs ≡ None → Missed xs
  missed n [] e = record { none = refl; kept = refl }
  missed n (x ∷ xs) e = missed_step n x xs (p x) refl (missed (n + 1) xs) e

  visited-here-step : (n i : ℕ) (x : X) (xs : List X) (b : Bool) → (place_from (n + 1) p xs ≡ Some i → n + 1 + visited p xs ≡ i + 1) → cond b (Some n) (place_from (n + 1) p xs) ≡ Some i → n + (1 + cond b 0 (visited p xs)) ≡ i + 1
  visited-here-step n i x xs true more e = let same : n ≡ i = cc in omega arith
  visited-here-step n i x xs false more e = omega (arith, more e)

  -- a search that finds something has looked at all up to it
  pub visited-here : (n i : ℕ) (xs : List X) → place_from n p xs ≡ Some i → n + visited p xs ≡ i + 1
  visited-here n i [] e = some_none i (sym e)
  visited-here n i (x ∷ xs) e = visited-here-step n i x xs (p x) (visited-here (n + 1) i xs) e

  visited-all-step : (n : ℕ) (x : X) (xs : List X) (b : Bool) → (place_from (n + 1) p xs ≡ None → visited p xs ≡ length xs) → cond b (Some n) (place_from (n + 1) p xs) ≡ None → 1 + cond b 0 (visited p xs) ≡ suc (length xs)
  visited-all-step n x xs true more e = some_none n e
  visited-all-step n x xs false more e = omega (arith, more e)

  -- a search that finds nothing has looked at all
  pub visited-all : (n : ℕ) (xs : List X) → place_from n p xs ≡ None → visited p xs ≡ length xs
  visited-all n [] e = refl
  visited-all n (x ∷ xs) e = visited-all-step n x xs (p x) (visited-all (n + 1) xs) e

  -- how many are looked at, by the answer of the search
  pub visited_by : (o : Option ℕ) (xs : List X) (n : ℕ) → o ≡ place_from 0 p xs → MatchOption o (n ≡ length xs) (λ i. n ≡ i + 1) → n ≡ visited p xs
  visited_by None xs n e h = let none = position_from-zero p xs ∙ sym e in let v = visited-position xs in grind arith
  visited_by (Some i) xs n e h =
      let at = cond_some (ltb (position_or_len p xs) (length xs)) (position_or_len p xs) i (position_from-zero p xs ∙ sym e) in
      omega (arith, ltb-true _ _ at.0, at.1, visited-position xs, h)

  -- what is found, by the answer of the search
  pub found_by : (o : Option ℕ) (xs : List X) (r : Option X) → o ≡ place_from 0 p xs → MatchOption o (r ≡ None) (λ i. (x : X) × (r ≡ Some x) × (x ≡ get_or xs i x)) → r ≡ found p xs
  found_by None xs r e h = h ∙ sym (missed 0 xs (sym e)).none
  found_by (Some i) xs r e h = h.1 ∙ ap Some h.2 ∙ sym ((first-at i xs (sym e)).is_found h.0)
