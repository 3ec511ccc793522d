-- Trails of places that lead to one another: what a changed step leaves of a trail, shortens and lengthens. Assumes nothing.
use Rattle.std.proofs.Common.{◌≡◌, ℕ, zero, suc, ◌<◌, eqb, List, [], ◌∷◌, ◌++◌, length, sym, refl, ap, ◌∙◌, arith, length-append}
use Rattle.std.proofs.lemmas.Bool.{eq-eqb, ne_eqb, cond-true, cond-false}
use Rattle.rows.specs.Bags.{once, many}
use Rattle.chained.specs.Links.{trail}
use Rattle.chained.specs.Steps.{led}

-- how often k stands in a list
abbrev pub times : ℕ → List ℕ → ℕ
times k xs = many (eqb k) xs

pub once-self : (k x : ℕ) → x ≡ k → once (eqb k x) ≡ 1
once-self k x e = ap once (eq-eqb k x (sym e))

pub once_other : (k x : ℕ) → (x ≡ k → ⊥) → once (eqb k x) ≡ 0
once_other k x n = ap once (ne_eqb k x (λ e. n (sym e)))

-- what stands first in a list is not what does not stand in it
pub head_apart : (k x : ℕ) (xs : List ℕ) → times k (x ∷ xs) ≡ 0 → x ≡ k → ⊥
head_apart k x xs none e = omega (arith, none, once-self k x e)

pub in_apart : (j k : ℕ) (xs : List ℕ) → times k xs ≡ 0 → 0 < times j xs → j ≡ k → ⊥
in_apart j k xs none some e = let same : times j xs ≡ times k xs = ap (λ z. times z xs) e in omega arith

pub led-here : (f : ℕ → ℕ) (i j k : ℕ) → k ≡ i → led f i j k ≡ j
led-here f i j k e = cond-true (eqb k i) j (f k) (eq-eqb k i e)

pub led_off : (f : ℕ → ℕ) (i j k : ℕ) → (k ≡ i → ⊥) → led f i j k ≡ f k
led_off f i j k n = cond-false (eqb k i) j (f k) (ne_eqb k i n)

pub nonempty : {P : Type 0} (xs : List ℕ) (y : ℕ) (ys : List ℕ) → [] ≡ xs ++ (y ∷ ys) → P
nonempty xs y ys e = absurd (let z : ◌≡◌ {A = ℕ} 0 (length (xs ++ (y ∷ ys))) = ap length e in omega (arith, length-append xs (y ∷ ys)))

module _ (f : ℕ → ℕ) where
  pub trail-length : (n i : ℕ) → length (trail f n i) ≡ n
  trail-length zero i = refl
  trail-length (suc n) i = ap suc (trail-length n (f i))

  -- each place of a trail leads to the next
  pub trail-next : (xs : List ℕ) (n i x y : ℕ) (ys : List ℕ) → trail f n i ≡ xs ++ (x ∷ (y ∷ ys)) → f x ≡ y
  trail-next xs zero i x y ys e = nonempty xs x (y ∷ ys) e
  trail-next [] (suc zero) i x y ys e = absurd (let z : ◌≡◌ {A = ℕ} 1 (length (x ∷ (y ∷ ys))) = ap length e in omega arith)
  trail-next [] (suc (suc n)) i x y ys e =
      let a : i ≡ x = cc in
      let b : f i ≡ y = cc in
      sym (ap f a) ∙ b
  trail-next (a ∷ xs) (suc n) i x y ys e =
      let tail : trail f n (f i) ≡ xs ++ (x ∷ (y ∷ ys)) = cc in
      trail-next xs n (f i) x y ys tail

  pub trail-first : (n i x : ℕ) (xs : List ℕ) → trail f n i ≡ x ∷ xs → i ≡ x
  trail-first zero i x xs e = nonempty [] x xs e
  trail-first (suc n) i x xs e = cc

  pub trail-rest : (m i x : ℕ) (xs : List ℕ) → trail f (suc m) i ≡ x ∷ xs → trail f m (f x) ≡ xs
  trail-rest m i x xs e =
      let a : i ≡ x = cc in
      let b : trail f m (f i) ≡ xs = cc in
      ap (λ z. trail f m (f z)) (sym a) ∙ b

-- another step, the same at the places of the trail
module _ (f g : ℕ → ℕ) where
  pub trail_kept : (n i : ℕ) → ((j : ℕ) → 0 < times j (trail f n i) → g j ≡ f j) → trail g n i ≡ trail f n i
  trail_kept zero i h = refl
  trail_kept (suc n) i h =
      let here : g i ≡ f i = h i (omega (arith, once-self i i refl)) in
      ap (λ z. i ∷ trail g n z) here ∙ ap (λ xs. i ∷ xs) (trail_kept n (f i) (λ j b. h j (omega (arith, b))))

  -- p leads past x, which stood behind it
  pub trail_past : (xs : List ℕ) (m i p x : ℕ) (ys : List ℕ) → trail f (suc m) i ≡ xs ++ (p ∷ (x ∷ ys)) → times p xs ≡ 0 → times p ys ≡ 0 → ((j : ℕ) → g j ≡ led f p (f x) j) → trail g m i ≡ xs ++ (p ∷ ys)
  trail_past [] zero i p x ys e before behind is = absurd (let z : ◌≡◌ {A = ℕ} 1 (length (p ∷ (x ∷ ys))) = ap length e in omega arith)
  trail_past [] (suc m) i p x ys e before behind is =
      let a : i ≡ p = cc in
      let b : f i ≡ x = cc in
      let rest : trail f m (f (f i)) ≡ ys = cc in
      let on : g i ≡ f (f i) = is i ∙ led-here f p (f x) i a ∙ ap f (sym b) in
      let same : trail g m (f (f i)) ≡ trail f m (f (f i)) = trail_kept m (f (f i)) (λ j t. is j ∙ led_off f p (f x) j (in_apart j p ys behind (let s : times j (trail f m (f (f i))) ≡ times j ys = ap (times j) rest in omega arith))) in
      ap (λ z. i ∷ trail g m z) on ∙ ap (λ zs. i ∷ zs) (same ∙ rest) ∙ ap (λ z. z ∷ ys) a
  trail_past (a ∷ xs) zero i p x ys e before behind is = nonempty xs p (x ∷ ys) (let tail : [] ≡ xs ++ (p ∷ (x ∷ ys)) = cc in tail)
  trail_past (a ∷ xs) (suc m) i p x ys e before behind is =
      let b : i ≡ a = cc in
      let tail : trail f (suc m) (f i) ≡ xs ++ (p ∷ (x ∷ ys)) = cc in
      let off : g i ≡ f i = is i ∙ led_off f p (f x) i (λ z. head_apart p a xs before (sym b ∙ z)) in
      let none : times p xs ≡ 0 = omega (arith, before) in
      let more = trail_past xs m (f i) p x ys tail none behind is in
      ap (λ z. i ∷ trail g m z) off ∙ ap (λ zs. i ∷ zs) more ∙ ap (λ z. z ∷ (xs ++ (p ∷ ys))) b

  -- the last place leads on to x
  pub trail_on : (xs : List ℕ) (m i z x : ℕ) → trail f m i ≡ xs ++ (z ∷ []) → times z xs ≡ 0 → ((j : ℕ) → g j ≡ led f z x j) → trail g (suc m) i ≡ xs ++ (z ∷ (x ∷ []))
  trail_on xs zero i z x e before is = nonempty xs z [] e
  trail_on [] (suc zero) i z x e before is =
      let a : i ≡ z = cc in
      let on : g i ≡ x = is i ∙ led-here f z x i a in
      ap (λ k. i ∷ (k ∷ [])) on ∙ ap (λ k. k ∷ (x ∷ [])) a
  trail_on [] (suc (suc m)) i z x e before is = absurd (let w : ◌≡◌ {A = ℕ} (length (i ∷ (f i ∷ trail f m (f (f i))))) 1 = ap length e in omega arith)
  trail_on (a ∷ xs) (suc m) i z x e before is =
      let b : i ≡ a = cc in
      let tail : trail f m (f i) ≡ xs ++ (z ∷ []) = cc in
      let off : g i ≡ f i = is i ∙ led_off f z x i (λ k. head_apart z a xs before (sym b ∙ k)) in
      let none : times z xs ≡ 0 = omega (arith, before) in
      let more = trail_on xs m (f i) z x tail none is in
      ap (λ k. i ∷ trail g (suc m) k) off ∙ ap (λ zs. i ∷ zs) more ∙ ap (λ k. k ∷ (xs ++ (z ∷ (x ∷ [])))) b
