-- Chains as a bag of tuples at sites. Assumes nothing.
use Rattle.std.proofs.Common.{◌≡◌, ℕ, zero, suc, ◌+◌, ◌<◌, ◌≤◌, Bool, true, cond, ◌&&◌, eqb, ltb, List, [], ◌∷◌, ◌++◌, map, length, Some, None, Option, sym, refl, ap, ◌∙◌, inl, inr, arith, MatchOption}
use Rattle.std.proofs.lemmas.List.{length-map}
use Rattle.std.proofs.lemmas.Bool.{cases_lt, lt-ltb, le-ltb, eq-eqb, ne_eqb, cond-true, cond-false}
use Rattle.tuples.specs.Tuples.{Tuple, Template}
use Rattle.tuples.specs.Matching.{matches}
use Rattle.rows.specs.Bags.{once, many, Same, Gains}
use Rattle.rows.specs.Searches.{found, without}
use Rattle.rows.proofs.Counting.{many-append, many-map, found-passes, found_gains, none_many, none_without}
use Rattle.spaces.specs.Spaces.{Located, at, hits, is, copies}
use Rattle.spaces.proofs.Bagging.{is-decides}
use Rattle.chained.specs.Links.{upto, total}
use Rattle.chained.proofs.Totals.{total_le, total-one, total-same, total_none, many-upto, length-upto}

-- the lists of the 32 sites
abbrev pub sited : (ℕ → List Tuple) → ℕ → List Tuple
sited f c = cond (ltb c 32) (f c) []

abbrev pub bag_of : (ℕ → List Tuple) → List Located
bag_of f = upto 32 (λ c. map (at c) (sited f c))

pub sited_low : (f : ℕ → List Tuple) (c : ℕ) → c < 32 → sited f c ≡ f c
sited_low f c l = cond-true (ltb c 32) (f c) [] (lt-ltb c 32 l)

pub sited_high : (f : ℕ → List Tuple) (c : ℕ) → 32 ≤ c → sited f c ≡ []
sited_high f c h = cond-false (ltb c 32) (f c) [] (le-ltb c 32 h)

-- lists that agree below 32 agree as lists of sites
pub sited-same : (f g : ℕ → List Tuple) (site : ℕ) → ((c : ℕ) → c < 32 → (c ≡ site → ⊥) → g c ≡ f c) → (c : ℕ) → (c ≡ site → ⊥) → sited g c ≡ sited f c
sited-same f g site same c d = elim (cases_lt c 32) [
  | inl l ↦ sited_low g c l ∙ same c l d ∙ sym (sited_low f c l)
  | inr h ↦ sited_high g c h ∙ sym (sited_high f c h)
]

pub sited_none : (f : ℕ → List Tuple) → ((c : ℕ) → c < 32 → f c ≡ []) → (c : ℕ) → sited f c ≡ []
sited_none f none c = elim (cases_lt c 32) [
  | inl l ↦ sited_low f c l ∙ none c l
  | inr h ↦ sited_high f c h
]

upto_none : (n : ℕ) (f : ℕ → List Located) → ((c : ℕ) → f c ≡ []) → upto n f ≡ []
unfolding upto
upto_none zero f none = refl
upto_none (suc n) f none = ap (λ xs. xs ++ f n) (upto_none n f none) ∙ none n

pub bag_none : (f : ℕ → List Tuple) → ((c : ℕ) → c < 32 → f c ≡ []) → bag_of f ≡ []
bag_none f none = upto_none 32 (λ c. map (at c) (sited f c)) (λ c. ap (map (at c)) (sited_none f none c))

pub bag-length : (f : ℕ → List Tuple) → total 32 (λ c. length (f c)) ≡ length (bag_of f)
bag-length f = sym (length-upto 32 (λ c. map (at c) (sited f c)) ∙ total-same 32 (λ c. length (f c)) (λ c. length (map (at c) (sited f c))) (λ c l. length-map (sited f c) (at c) ∙ ap length (sited_low f c l)))

module _ (p : Located → Bool) where
  -- how many pass at each site
  bag-many : (f : ℕ → List Tuple) → many p (bag_of f) ≡ total 32 (λ c. many (λ t. p (at c t)) (f c))
  bag-many f = many-upto p 32 (λ c. map (at c) (sited f c)) ∙ total-same 32 (λ c. many (λ t. p (at c t)) (f c)) (λ c. many p (map (at c) (sited f c))) (λ c l. many-map (at c) p (sited f c) ∙ ap (many (λ t. p (at c t))) (sited_low f c l))

  -- one site changes
  bag-one : (f g : ℕ → List Tuple) (site : ℕ) → site < 32 → ((c : ℕ) → c < 32 → (c ≡ site → ⊥) → g c ≡ f c) → many p (bag_of g) + many (λ t. p (at site t)) (f site) ≡ many p (bag_of f) + many (λ t. p (at site t)) (g site)
  bag-one f g site low same = omega (arith, bag-many f, bag-many g, total-one 32 site (λ c. many (λ t. p (at c t)) (f c)) (λ c. many (λ t. p (at c t)) (g c)) low (λ c l d. ap (many (λ t. p (at c t))) (same c l d)))

module _ (f g : ℕ → List Tuple) (site : ℕ) (low : site < 32) (same : (c : ℕ) → c < 32 → (c ≡ site → ⊥) → g c ≡ f c) where
  pub bag_gains : (t : Tuple) → g site ≡ f site ++ (t ∷ []) → Gains (at site t) (bag_of f) (bag_of g)
  bag_gains t e p =
      let here : many (λ u. p (at site u)) (g site) ≡ many (λ u. p (at site u)) (f site ++ (t ∷ [])) = ap (many (λ u. p (at site u))) e in
      omega (arith, bag-one p f g site low same, here, many-append (λ u. p (at site u)) (f site) (t ∷ []))

  pub bag-same : g site ≡ f site → Same (bag_of f) (bag_of g)
  bag-same e p = let here : many (λ u. p (at site u)) (g site) ≡ many (λ u. p (at site u)) (f site) = ap (many (λ u. p (at site u))) e in omega (arith, bag-one p f g site low same, here)

  pub bag_loses : (m : Template) (t : Tuple) → Some t ≡ found (matches m) (f site) → g site ≡ without (matches m) (f site) → Gains (at site t) (bag_of g) (bag_of f)
  bag_loses m t e w p =
      let here : many (λ u. p (at site u)) (g site) ≡ many (λ u. p (at site u)) (without (matches m) (f site)) = ap (many (λ u. p (at site u))) w in
      omega (arith, bag-one p f g site low same, here, found_gains (matches m) (f site) t (sym e) (λ u. p (at site u)))

off_site : (m : Template) (c site : ℕ) → (c ≡ site → ⊥) → (ts : List Tuple) → many (λ t. hits site m (at c t)) ts ≡ 0
off_site m c site d [] = refl
off_site m c site d (t ∷ ts) = let miss : once (eqb c site && matches m t) ≡ 0 = ap (λ b. once (b && matches m t)) (ne_eqb c site d) in omega (arith, miss, off_site m c site d ts)

on_site : (m : Template) (site : ℕ) (ts : List Tuple) → many (λ t. hits site m (at site t)) ts ≡ many (matches m) ts
on_site m site [] = refl
on_site m site (t ∷ ts) = let hit : once (eqb site site && matches m t) ≡ once (matches m t) = ap (λ b. once (b && matches m t)) (eq-eqb site site refl) in omega (arith, hit, on_site m site ts)

module _ (f : ℕ → List Tuple) (site : ℕ) (low : site < 32) (m : Template) where
  pub bag-count : many (matches m) (f site) ≡ many (hits site m) (bag_of f)
  bag-count = omega (arith, bag-many (hits site m) f, total-one 32 site (λ _. 0) (λ c. many (λ t. hits site m (at c t)) (f c)) low (λ c l d. off_site m c site d (f c)), total_none 32, on_site m site (f site))

  pub bag_nothing : None ≡ found (matches m) (f site) → many (hits site m) (bag_of f) ≡ 0
  bag_nothing e = sym bag-count ∙ none_many (matches m) (f site) (sym e)

  pub bag-copies : (t : Tuple) → Some t ≡ found (matches m) (f site) → 0 < copies (bag_of f) site t
  bag-copies t e =
      let one : once (is site t (at site t)) ≡ 1 = ap once ((is-decides site t (at site t)).1 refl) in
      omega (arith, bag-many (is site t) f, total_le 32 site (λ c. many (λ u. is site t (at c u)) (f c)) low, found_gains (matches m) (f site) t (sym e) (λ u. is site t (at site u)), one)

  -- what a take answers and leaves, and what a peek answers
  pub bag_taken : (g : ℕ → List Tuple) → ((c : ℕ) → c < 32 → (c ≡ site → ⊥) → g c ≡ f c) → g site ≡ without (matches m) (f site) → (r : Option Tuple) → r ≡ found (matches m) (f site) → MatchOption r ((many (hits site m) (bag_of f) ≡ 0) × Same (bag_of f) (bag_of g)) (λ t. (matches m t ≡ true) × Gains (at site t) (bag_of g) (bag_of f))
  bag_taken g same w None e = (bag_nothing e, bag-same f g site low same (w ∙ none_without (matches m) (f site) (sym e)))
  bag_taken g same w (Some t) e = (found-passes (matches m) (f site) t (sym e), bag_loses f g site low same m t e w)

  pub bag_peeked : (r : Option Tuple) → r ≡ found (matches m) (f site) → MatchOption r (many (hits site m) (bag_of f) ≡ 0) (λ t. (matches m t ≡ true) × (0 < copies (bag_of f) site t))
  bag_peeked None e = bag_nothing e
  bag_peeked (Some t) e = (found-passes (matches m) (f site) t (sym e), bag-copies t e)
