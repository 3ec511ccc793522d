-- A number that stands in lists at most once in all stands at one place of one list. Assumes nothing.
use Rattle.std.proofs.Common.{◌≡◌, ℕ, zero, suc, ◌<◌, List, [], ◌∷◌, length, get_or, sym, refl, ap, ◌∙◌, inl, inr, arith}
use Rattle.std.proofs.lemmas.Bool.{cases_eq, cases_order}
use Rattle.chained.specs.declared.row.ChainRow.{ChainRow}
use Rattle.chained.specs.declared.ends.Ends.{Ends}
use Rattle.chained.specs.Links.{rows_of}
use Rattle.chained.specs.Steps.{Sound}
use Rattle.chained.proofs.Trails.{times, once-self}
use Rattle.chained.proofs.Moving.{chain_single, chains_apart}

pub there : (xs : List ℕ) (i : ℕ) → i < length xs → 0 < times (get_or xs i 0) xs
there [] i h = absurd (omega arith)
there (x ∷ xs) zero h = omega (arith, once-self x x refl)
there (x ∷ xs) (suc i) h = omega (arith, there xs i (omega arith))

twice_step : (x k : ℕ) (xs : List ℕ) → x ≡ k → 0 < times k xs → 1 < times k (x ∷ xs)
twice_step x k xs e h = omega (arith, h, once-self k x e)

twice : (xs : List ℕ) (i j : ℕ) → i < j → j < length xs → get_or xs i 0 ≡ get_or xs j 0 → 1 < times (get_or xs j 0) xs
twice [] i j l h e = absurd (omega arith)
twice (x ∷ xs) i zero l h e = absurd (omega arith)
twice (x ∷ xs) zero (suc j) l h e = twice_step x (get_or xs j 0) xs e (there xs j (omega arith))
twice (x ∷ xs) (suc i) (suc j) l h e = omega (arith, twice xs i j (omega arith) (omega arith) e)

module _ (rows : List ChainRow) (ends : List Ends) (sound : Sound rows ends) where
  same_index : (c i j : ℕ) → c < 33 → i < length (rows_of rows ends c) → j < length (rows_of rows ends c) → get_or (rows_of rows ends c) i 0 ≡ get_or (rows_of rows ends c) j 0 → i ≡ j
  same_index c i j l hi hj e = elim (cases_order i j) [
    | inl z ↦ z
    | inr o ↦ elim o [
      | inl lt ↦ absurd (omega (arith, twice (rows_of rows ends c) i j lt hj e, chain_single rows ends sound c l (get_or (rows_of rows ends c) j 0)))
      | inr gt ↦ absurd (omega (arith, twice (rows_of rows ends c) j i gt hi (sym e), chain_single rows ends sound c l (get_or (rows_of rows ends c) i 0)))
    ]
  ]

  pub one_place : (c d i j : ℕ) → c < 33 → d < 33 → i < length (rows_of rows ends c) → j < length (rows_of rows ends d) → get_or (rows_of rows ends c) i 0 ≡ get_or (rows_of rows ends d) j 0 → (c ≡ d) × (i ≡ j)
  one_place c d i j lc ld hi hj e = elim (cases_eq d c) [
    | inl z ↦
        let e' : get_or (rows_of rows ends c) i 0 ≡ get_or (rows_of rows ends c) j 0 = e ∙ ap (λ k. get_or (rows_of rows ends k) j 0) z in
        let hj' : j < length (rows_of rows ends c) = (let w : length (rows_of rows ends d) ≡ length (rows_of rows ends c) = ap (λ k. length (rows_of rows ends k)) z in omega (arith, w)) in
        (sym z, same_index c i j lc hi hj' e')
    | inr n ↦
        let none = chains_apart rows ends sound c d lc ld n (get_or (rows_of rows ends c) i 0) (there (rows_of rows ends c) i hi) in
        let w : times (get_or (rows_of rows ends c) i 0) (rows_of rows ends d) ≡ times (get_or (rows_of rows ends d) j 0) (rows_of rows ends d) = ap (λ k. times k (rows_of rows ends d)) e in
        absurd (omega (arith, none, w, there (rows_of rows ends d) j hj))
  ]
