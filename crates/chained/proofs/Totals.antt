-- Sums and joined lists over the first n of some numbers or lists. Assumes nothing.
use Rattle.std.proofs.Common.{◌≡◌, ℕ, zero, suc, ◌+◌, ◌<◌, ◌≤◌, Bool, cond, eqb, List, length, sym, refl, ap, ◌∙◌, inl, inr, arith, length-append}
use Rattle.std.proofs.lemmas.Bool.{cases_eq, eq-eqb, ne_eqb, cond-true, cond-false}
use Rattle.rows.specs.Bags.{many}
use Rattle.rows.proofs.Counting.{many-append}
use Rattle.chained.specs.Links.{upto, total}

pub total-same : (n : ℕ) (g h : ℕ → ℕ) → ((c : ℕ) → c < n → h c ≡ g c) → total n h ≡ total n g
unfolding total
total-same zero g h same = refl
total-same (suc n) g h same = omega (arith, total-same n g h (λ c l. same c (omega arith)), same n (omega arith))

pub total-one : (n k : ℕ) (g h : ℕ → ℕ) → k < n → ((c : ℕ) → c < n → (c ≡ k → ⊥) → h c ≡ g c) → total n h + g k ≡ total n g + h k
unfolding total
total-one zero k g h l same = absurd (omega arith)
total-one (suc n) k g h l same = elim (cases_eq n k) [
  | inl e ↦
      let rest : total n h ≡ total n g = total-same n g h (λ c b. same c (omega arith) (λ z. omega arith)) in
      omega (arith, rest, ap g e, ap h e)
  | inr d ↦
      let ne : k ≡ n → ⊥ = λ z. d (sym z) in
      let lt : k < n = omega arith in
      omega (arith, total-one n k g h lt (λ c b. same c (omega arith)), same n (omega arith) d)
]

-- the numbers of all but one
abbrev lacking : ℕ → (ℕ → ℕ) → ℕ → ℕ
lacking k g c = cond (eqb c k) 0 (g c)

lacking_here : (k : ℕ) (g : ℕ → ℕ) → lacking k g k ≡ 0
lacking_here k g = cond-true (eqb k k) 0 (g k) (eq-eqb k k refl)

lacking_off : (k : ℕ) (g : ℕ → ℕ) (c : ℕ) → (c ≡ k → ⊥) → lacking k g c ≡ g c
lacking_off k g c n = cond-false (eqb c k) 0 (g c) (ne_eqb c k n)

pub total_le : (n k : ℕ) (g : ℕ → ℕ) → k < n → g k ≤ total n g
total_le n k g l = omega (arith, total-one n k g (lacking k g) l (λ c b d. lacking_off k g c d), lacking_here k g)

pub total_two : (n a b : ℕ) (g : ℕ → ℕ) → a < n → b < n → (b ≡ a → ⊥) → g a + g b ≤ total n g
total_two n a b g la lb d = omega (arith, total-one n a g (lacking a g) la (λ c l e. lacking_off a g c e), lacking_here a g, total_le n b (lacking a g) lb, lacking_off a g b d)

-- so much goes from one of the numbers to another
pub total_moved : (n a b : ℕ) (g h : ℕ → ℕ) (x : ℕ) → a < n → b < n → (b ≡ a → ⊥) → ((c : ℕ) → c < n → (c ≡ a → ⊥) → (c ≡ b → ⊥) → h c ≡ g c) → h a + x ≡ g a → h b ≡ g b + x → total n h ≡ total n g
total_moved n a b g h x la lb d same less more =
    let mid : ℕ → ℕ = λ c. cond (eqb c a) (h c) (g c) in
    let at_a : mid a ≡ h a = cond-true (eqb a a) (h a) (g a) (eq-eqb a a refl) in
    let off-a : (c : ℕ) → (c ≡ a → ⊥) → mid c ≡ g c = λ c e. cond-false (eqb c a) (h c) (g c) (ne_eqb c a e) in
    let to-mid : total n mid + g a ≡ total n g + mid a = total-one n a g mid la (λ c l e. off-a c e) in
    let from-mid : total n h + mid b ≡ total n mid + h b = total-one n b mid h lb (λ c l e. elim (cases_eq c a) [
      | inl f ↦ sym (cond-true (eqb c a) (h c) (g c) (eq-eqb c a f))
      | inr f ↦ same c l f e ∙ sym (off-a c f)
    ]) in
    omega (arith, to-mid, from-mid, at_a, off-a b d, less, more)

module _ {X : Type 0} where
  pub many-upto : (p : X → Bool) (n : ℕ) (f : ℕ → List X) → many p (upto n f) ≡ total n (λ c. many p (f c))
  unfolding upto total
  many-upto p zero f = refl
  many-upto p (suc n) f = omega (arith, many-append p (upto n f) (f n), many-upto p n f)

  pub length-upto : (n : ℕ) (f : ℕ → List X) → length (upto n f) ≡ total n (λ c. length (f c))
  unfolding upto total
  length-upto zero f = refl
  length-upto (suc n) f = omega (arith, length-append (upto n f) (f n), length-upto n f)

pub total-more : (n : ℕ) (g : ℕ → ℕ) → total (suc n) g ≡ total n g + g n
unfolding total
total-more n g = refl

pub total_none : (n : ℕ) → total n (λ _. 0) ≡ 0
unfolding total
total_none zero = refl
total_none (suc n) = omega (arith, total_none n)
