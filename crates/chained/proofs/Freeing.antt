-- Rows that are linked in the order in which they lie, and the chains when all rows are free. Assumes nothing.
use Rattle.std.proofs.Common.{◌≡◌, ℕ, zero, suc, ◌+◌, ◌-◌, ◌<◌, ◌≤◌, eqb, ltb, List, [], ◌∷◌, ◌++◌, reverse, set, replicate, sym, refl, ap, ◌∙◌, subst, inl, inr, arith, length-set, get_or-set_other, get_or-set_same, below_more, length, Some, Option}
use mathlib.Core.List.{reverse-append}
use Rattle.std.specs.List.{slice_get}
use Rattle.std.proofs.lemmas.List.{get_or-replicate}
use Rattle.std.proofs.lemmas.Option.{slice_get-get_or}
use Rattle.std.proofs.lemmas.Bool.{cases_eq, cases_lt, le-ltb, lt-ltb}
use Rattle.rows.specs.Bags.{once, many}
use Rattle.chained.specs.declared.row.ChainRow.{ChainRow}
use Rattle.chained.specs.declared.ends.Ends.{Ends}
use Rattle.chained.specs.Links.{next_of, prev_of, trail, forward, ends_of, rows_of, room_for, total, BothWays}
use Rattle.chained.specs.Steps.{led, Fresh}
use Rattle.chained.proofs.Trails.{times, once-self, once_other, led-here, led_off, trail_kept}
use Rattle.chained.proofs.Writing.{nth_set_same, nth_set_other}
use Rattle.chained.proofs.Chaining.{times_reverse}
use Rattle.chained.proofs.Totals.{total-one, total_none, many-upto}

-- the next number and the one before
abbrev up : ℕ → ℕ
up k = k + 1

abbrev down : ℕ → ℕ
down k = k - 1

up_below : (n i k : ℕ) → k < i → times k (trail up n i) ≡ 0
up_below zero i k h = refl
up_below (suc n) i k h = omega (arith, once_other k i (λ e. omega arith), up_below n (i + 1) k (omega arith))

up_above : (n i k : ℕ) → i + n ≤ k → times k (trail up n i) ≡ 0
up_above zero i k h = refl
up_above (suc n) i k h = omega (arith, once_other k i (λ e. omega arith), up_above n (i + 1) k (omega arith))

up_within : (n i k : ℕ) → i ≤ k → k < i + n → times k (trail up n i) ≡ 1
up_within zero i k l h = absurd (omega arith)
up_within (suc n) i k l h = elim (cases_eq i k) [
  | inl e ↦ omega (arith, once-self k i e, up_below n (i + 1) k (omega arith))
  | inr d ↦
      let ne : (k ≡ i) → ⊥ = λ z. d (sym z) in
      omega (arith, once_other k i d, up_within n (i + 1) k (omega arith) (omega arith))
]

pub up_times : (n k : ℕ) → times k (trail up n 0) ≡ once (ltb k n)
up_times n k = elim (cases_lt k n) [
  | inl h ↦ up_within n 0 k (omega arith) (omega arith) ∙ sym (ap once (lt-ltb k n h))
  | inr h ↦ up_above n 0 k (omega arith) ∙ sym (ap once (le-ltb k n h))
]

up_in : (n k : ℕ) → 0 < times k (trail up n 0) → k < n
up_in n k h = elim (cases_lt k n) [
  | inl b ↦ b
  | inr b ↦ absurd (omega (arith, h, up_above n 0 k (omega arith)))
]

up_last : (n i : ℕ) → trail up (suc n) i ≡ trail up n i ++ ((i + n) ∷ [])
up_last zero i = let e : i ≡ i + 0 = omega arith in ap (λ k. k ∷ []) e
up_last (suc n) i = let e : i + 1 + n ≡ i + suc n = omega arith in ap (λ xs. i ∷ xs) (up_last n (i + 1)) ∙ ap (λ k. i ∷ (trail up n (i + 1) ++ (k ∷ []))) e

down_up : (n : ℕ) → trail down n (n - 1) ≡ reverse (trail up n 0)
down_up zero = refl
down_up (suc n) =
    let a : suc n - 1 ≡ n = omega arith in
    let b : 0 + n ≡ n = omega arith in
    ap (trail down (suc n)) a ∙ ap (λ xs. n ∷ xs) (down_up n) ∙ sym (ap reverse (up_last n 0 ∙ ap (λ k. trail up n 0 ++ (k ∷ [])) b) ∙ reverse-append (trail up n 0) (n ∷ []))

module _ (rows : List ChainRow) (n : ℕ) (nexts : (i : ℕ) → i < n → next_of rows i ≡ i + 1) (prevs : (i : ℕ) → i < n → prev_of rows i ≡ i - 1) where
  forward-all : trail (next_of rows) n 0 ≡ trail up n 0
  forward-all = trail_kept up (next_of rows) n 0 (λ j h. nexts j (up_in n j h))

  backward-all : trail (prev_of rows) n (n - 1) ≡ reverse (trail (next_of rows) n 0)
  backward-all =
      trail_kept down (prev_of rows) n (n - 1) (λ j h. prevs j (up_in n j (let e : times j (trail down n (n - 1)) ≡ times j (reverse (trail up n 0)) = ap (times j) (down_up n) in omega (arith, h, e, times_reverse j (trail up n 0)))))
      ∙ down_up n ∙ ap reverse (sym forward-all)

abbrev pub none : Ends
none = record { first = 0; last = 0; many = 0 }

module _ (e : Ends) where
  at_last : ends_of (set (replicate 33 none) 32 e) 32 ≡ e
  at_last = get_or-set_same (replicate 33 none) 32 e none (omega arith)

  at-site : (c : ℕ) → c < 33 → (c ≡ 32 → ⊥) → ends_of (set (replicate 33 none) 32 e) c ≡ none
  at-site c l d = get_or-set_other (replicate 33 none) 32 c e none d ∙ get_or-replicate 33 c none none l

  -- of numbers that are 0 but at the last chain
  only_last : (g : ℕ → ℕ) (x : ℕ) → g 32 ≡ x → ((c : ℕ) → c < 33 → (c ≡ 32 → ⊥) → g c ≡ 0) → total 33 g ≡ x
  only_last g x here off = omega (arith, total-one 33 32 (λ _. 0) g (omega arith) off, total_none 33, here)

-- all rows lie in the chain of free rows, in the order in which they lie in memory
pub fresh : (rows : List ChainRow) (e : Ends) → e.many ≡ room_for rows → e.first ≡ 0 → e.last ≡ e.many - 1 → ((i : ℕ) → i < e.many → next_of rows i ≡ i + 1) → ((i : ℕ) → i < e.many → prev_of rows i ≡ i - 1) → Fresh rows (set (replicate 33 none) 32 e)
fresh rows e many first last nexts prevs =
    let forth : forward rows e ≡ trail up e.many 0 = ap (trail (next_of rows) e.many) first ∙ forward-all rows e.many nexts prevs in
    let back : BothWays rows e = ap (trail (prev_of rows) e.many) last ∙ backward-all rows e.many nexts prevs ∙ ap (λ i. reverse (trail (next_of rows) e.many i)) (sym first) in
    let ends : List Ends = set (replicate 33 none) 32 e in
    record {
      sound = record {
        count = length-set (replicate 33 none) 32 e;
        each = λ k. many-upto (eqb k) 33 (rows_of rows (set (replicate 33 none) 32 e)) ∙ only_last e (λ c. times k (rows_of rows (set (replicate 33 none) 32 e) c)) (once (ltb k (room_for rows))) (ap (λ d. times k (forward rows d)) (at_last e) ∙ ap (times k) forth ∙ up_times e.many k ∙ ap (λ n. once (ltb k n)) many) (λ c l d. ap (λ x. times k (forward rows x)) (at-site e c l d));
        all = only_last e (λ c. (ends_of (set (replicate 33 none) 32 e) c).many) (room_for rows) (ap (λ x. x.many) (at_last e) ∙ many) (λ c l d. ap (λ x. x.many) (at-site e c l d));
        both = λ c l. elim (cases_eq c 32) [
          | inl z ↦ let q : e ≡ ends_of (set (replicate 33 none) 32 e) c = sym (ap (ends_of (set (replicate 33 none) 32 e)) z ∙ at_last e) in subst (BothWays rows) q back
          | inr d ↦ let q : none ≡ ends_of (set (replicate 33 none) 32 e) c = sym (at-site e c l d) in let flat : BothWays rows none = refl in subst (BothWays rows) q flat
        ];
      };
      empty = λ c l. ap (λ x. x.many) (at-site e c (omega arith) (λ z. omega arith));
    }

-- one row more is linked
pub linked_more : (seen : Option ChainRow → ℕ) (f : ℕ → ℕ) (rows : List ChainRow) (i : ℕ) (v : ChainRow) → i < length rows → ((k : ℕ) → k < i → seen (slice_get rows k) ≡ f k) → seen (Some v) ≡ f i → (k : ℕ) → k < i + 1 → seen (slice_get (set rows i v) k) ≡ f k
linked_more seen f rows i v within before is = below_more _ i (λ k h. ap seen (nth_set_other rows i k v (λ z. omega arith)) ∙ before k h) (ap seen (nth_set_same rows i _ v (slice_get-get_or rows i v within)) ∙ is)

-- the same, where one link is written and then the other
pub nexts_more : (old mid new : List ChainRow) (i j : ℕ) → ((k : ℕ) → k < i → next_of old k ≡ k + 1) → j ≡ i + 1 → ((k : ℕ) → next_of mid k ≡ led (next_of old) i j k) → ((k : ℕ) → next_of new k ≡ next_of mid k) → (k : ℕ) → k < i + 1 → next_of new k ≡ k + 1
nexts_more old mid new i j before e is same k h = elim (cases_eq k i) [
  | inl z ↦ let w : i + 1 ≡ k + 1 = omega arith in same k ∙ is k ∙ led-here (next_of old) i j k z ∙ e ∙ w
  | inr d ↦ same k ∙ is k ∙ led_off (next_of old) i j k d ∙ before k (omega arith)
]

pub prevs_more : (old mid new : List ChainRow) (i j : ℕ) → ((k : ℕ) → k < i → prev_of old k ≡ k - 1) → j ≡ i - 1 → ((k : ℕ) → prev_of mid k ≡ prev_of old k) → ((k : ℕ) → prev_of new k ≡ led (prev_of mid) i j k) → (k : ℕ) → k < i + 1 → prev_of new k ≡ k - 1
prevs_more old mid new i j before e same is k h = elim (cases_eq k i) [
  | inl z ↦ let w : i - 1 ≡ k - 1 = omega arith in is k ∙ led-here (prev_of mid) i j k z ∙ e ∙ w
  | inr d ↦ is k ∙ led_off (prev_of mid) i j k d ∙ same k ∙ before k (omega arith)
]
