-- A trail that can be read both ways, as a place goes out of it or comes behind it. Assumes nothing.
use Rattle.std.proofs.Common.{◌≡◌, ℕ, zero, suc, ◌+◌, ◌<◌, ◌≤◌, true, false, cond, eqb, ◌⊎◌, List, [], ◌∷◌, ◌++◌, reverse, length, sym, refl, ap, ◌∙◌, subst, inl, inr, append_assoc, arith}
use mathlib.Core.List.{reverse-cons, reverse-append, reverse-reverse}
use Rattle.std.proofs.lemmas.Bool.{cases_eq, eq-eqb, ne_eqb, cond-true, cond-false}
use Rattle.rows.specs.Bags.{once}
use Rattle.rows.specs.Searches.{without}
use Rattle.rows.proofs.Counting.{many-append}
use Rattle.chained.specs.Links.{trail}
use Rattle.chained.specs.Steps.{led}
use Rattle.chained.proofs.Trails.{times, once-self, once_other, in_apart, led-here, led_off, trail-next, trail-first, trail-rest, trail_kept, trail_past, trail_on}

-- a list that is parted at x
record Parted (x : ℕ) (xs : List ℕ) : Type 0 where
  pub before : List ℕ
  pub behind : List ℕ
  pub is : xs ≡ before ++ (x ∷ behind)
  pub none : times x before ≡ 0
  pub out : without (eqb x) xs ≡ before ++ behind

parted : (x : ℕ) (xs : List ℕ) → 0 < times x xs → Parted x xs
parted x [] h = absurd (omega arith)
parted x (y ∷ ys) h = elim (cases_eq y x) [
  | inl e ↦ record {
    before = [];
    behind = ys;
    is = ap (λ z. z ∷ ys) e;
    none = refl;
    out = cond-true (eqb x y) ys (y ∷ without (eqb x) ys) (eq-eqb x y (sym e));
  }
  | inr n ↦
      let more = parted x ys (omega (arith, once_other x y n)) in
      record {
        before = y ∷ more.before;
        behind = more.behind;
        is = ap (λ zs. y ∷ zs) more.is;
        none = omega (arith, more.none, once_other x y n);
        out = cond-false (eqb x y) ys (y ∷ without (eqb x) ys) (ne_eqb x y (λ e. n (sym e))) ∙ ap (λ zs. y ∷ zs) more.out;
      }
]

-- how often k stands in a list, and in the list without x
pub times_without : (x : ℕ) (xs : List ℕ) → 0 < times x xs → (k : ℕ) → times k (without (eqb x) xs) + once (eqb k x) ≡ times k xs
times_without x xs h k =
    let s = parted x xs h in
    let whole : times k xs ≡ times k (s.before ++ (x ∷ s.behind)) = ap (times k) s.is in
    let less : times k (without (eqb x) xs) ≡ times k (s.before ++ s.behind) = ap (times k) s.out in
    omega (arith, whole, less, many-append (eqb k) s.before (x ∷ s.behind), many-append (eqb k) s.before s.behind)

-- a list is empty or has a last element
record Last (xs : List ℕ) : Type 0 where
  pub front : List ℕ
  pub last : ℕ
  pub is : xs ≡ front ++ (last ∷ [])

last_of : (xs : List ℕ) → (xs ≡ []) ⊎ Last xs
last_of [] = inl refl
last_of (x ∷ xs) = inr (elim (last_of xs) [
  | inl e ↦ record { front = []; last = x; is = ap (λ zs. x ∷ zs) e }
  | inr s ↦ record { front = x ∷ s.front; last = s.last; is = ap (λ zs. x ∷ zs) s.is }
])

pub times_reverse : (k : ℕ) (xs : List ℕ) → times k (reverse xs) ≡ times k xs
times_reverse k [] = refl
times_reverse k (x ∷ xs) =
    let e : times k (reverse (x ∷ xs)) ≡ times k (reverse xs ++ (x ∷ [])) = ap (times k) (reverse-cons x xs) in
    omega (arith, e, many-append (eqb k) (reverse xs) (x ∷ []), times_reverse k xs)

reverse_parted : (xs : List ℕ) (x : ℕ) (ys : List ℕ) → reverse (xs ++ (x ∷ ys)) ≡ reverse ys ++ (x ∷ reverse xs)
reverse_parted xs x ys = reverse-append xs (x ∷ ys) ∙ ap (λ zs. zs ++ reverse xs) (reverse-cons x ys) ∙ append_assoc (reverse ys) (x ∷ []) (reverse xs)

first_in : (i : ℕ) (is xs : List ℕ) (p : ℕ) (ys : List ℕ) → i ∷ is ≡ xs ++ (p ∷ ys) → 0 < times i (xs ++ (p ∷ []))
first_in i is [] p ys e = let a : p ≡ i = cc in omega (arith, once-self i p a)
first_in i is (a ∷ xs) p ys e = let b : a ≡ i = cc in omega (arith, once-self i a b)

-- one way: x goes out of the trail
shorter : (f f' : ℕ → ℕ) (b m i x : ℕ) (xs ys : List ℕ) → trail f (suc m) i ≡ xs ++ (x ∷ ys) → times x xs ≡ 0 → ((k : ℕ) → times k (xs ++ (x ∷ ys)) ≤ 1) → ((zs : List ℕ) (p : ℕ) → xs ≡ zs ++ (p ∷ []) → b ≡ p) → ((j : ℕ) → f' j ≡ cond (eqb x i) (f j) (led f b (f x) j)) → trail f' m (cond (eqb x i) (f x) i) ≡ xs ++ ys
shorter f f' b m i x xs ys e none single back is = elim (last_of xs) [
  | inl z ↦
      let e' : trail f (suc m) i ≡ x ∷ ys = e ∙ ap (λ zs. zs ++ (x ∷ ys)) z in
      let hit : eqb x i ≡ true = eq-eqb x i (sym (trail-first f (suc m) i x ys e')) in
      ap (trail f' m) (cond-true (eqb x i) (f x) i hit) ∙ trail_kept f f' m (f x) (λ j t. is j ∙ cond-true (eqb x i) (f j) (led f b (f x) j) hit) ∙ trail-rest f m i x ys e' ∙ sym (ap (λ zs. zs ++ ys) z)
  | inr s ↦
      let joined : xs ++ (x ∷ ys) ≡ s.front ++ (s.last ∷ (x ∷ ys)) = ap (λ zs. zs ++ (x ∷ ys)) s.is ∙ append_assoc s.front (s.last ∷ []) (x ∷ ys) in
      let e' : trail f (suc m) i ≡ s.front ++ (s.last ∷ (x ∷ ys)) = e ∙ joined in
      let has : 0 < times i (s.front ++ (s.last ∷ [])) = first_in i (trail f m (f i)) s.front s.last (x ∷ ys) e' in
      let none' : times x (s.front ++ (s.last ∷ [])) ≡ 0 = ap (times x) (sym s.is) ∙ none in
      let miss : eqb x i ≡ false = ne_eqb x i (λ z. in_apart i x (s.front ++ (s.last ∷ [])) none' has (sym z)) in
      let one : times s.last (s.front ++ (s.last ∷ (x ∷ ys))) ≤ 1 = (let q : times s.last (xs ++ (x ∷ ys)) ≡ times s.last (s.front ++ (s.last ∷ (x ∷ ys))) = ap (times s.last) joined in omega (arith, single s.last, q)) in
      let parts = many-append (eqb s.last) s.front (s.last ∷ (x ∷ ys)) in
      let self = once-self s.last s.last refl in
      let one-before : times s.last s.front ≡ 0 = omega (arith, one, parts, self) in
      let one-behind : times s.last ys ≡ 0 = omega (arith, one, parts, self) in
      let past = trail_past f f' s.front m i s.last x ys e' one-before one-behind (λ j. is j ∙ cond-false (eqb x i) (f j) (led f b (f x) j) miss ∙ ap (λ z. led f z (f x) j) (back s.front s.last s.is)) in
      ap (trail f' m) (cond-false (eqb x i) (f x) i miss) ∙ past ∙ sym (ap (λ zs. zs ++ ys) s.is ∙ append_assoc s.front (s.last ∷ []) ys)
]

module _ (f g : ℕ → ℕ) (n i l : ℕ) (both : trail g n l ≡ reverse (trail f n i)) where
  -- the other way round
  pub turned : trail f n i ≡ reverse (trail g n l)
  turned = sym (reverse-reverse (trail f n i)) ∙ ap reverse (sym both)

  pub times_back : (k : ℕ) → times k (trail g n l) ≡ times k (trail f n i)
  times_back k = ap (times k) both ∙ times_reverse k (trail f n i)

  -- x leads back to the place that it stands behind
  leads_back : (x : ℕ) (xs ys zs : List ℕ) (p : ℕ) → trail f n i ≡ xs ++ (x ∷ ys) → xs ≡ zs ++ (p ∷ []) → g x ≡ p
  leads_back x xs ys zs p e s =
      let rev : trail g n l ≡ reverse ys ++ (x ∷ reverse xs) = both ∙ ap reverse e ∙ reverse_parted xs x ys in
      let tail : reverse xs ≡ p ∷ reverse zs = ap reverse s ∙ reverse-append zs (p ∷ []) in
      trail-next g (reverse ys) n l x p (reverse zs) (rev ∙ ap (λ ws. reverse ys ++ (x ∷ ws)) tail)

  -- a place other than the first leads back to a place of the trail
  pub before_in : (x : ℕ) → 0 < times x (trail f n i) → (x ≡ i → ⊥) → 0 < times (g x) (trail f n i)
  before_in x h off =
      let s = parted x (trail f n i) h in
      elim (last_of s.before) [
        | inl z ↦ absurd (off (sym (trail-first f n i x s.behind (s.is ∙ ap (λ zs. zs ++ (x ∷ s.behind)) z))))
        | inr q ↦
            let back : q.last ≡ g x = sym (leads_back x s.before s.behind q.front q.last s.is q.is) in
            let whole : times (g x) (trail f n i) ≡ times (g x) (s.before ++ (x ∷ s.behind)) = ap (times (g x)) s.is in
            let front : times (g x) s.before ≡ times (g x) (q.front ++ (q.last ∷ [])) = ap (times (g x)) q.is in
            omega (arith, whole, front, many-append (eqb (g x)) s.before (x ∷ s.behind), many-append (eqb (g x)) q.front (q.last ∷ []), once-self (g x) q.last back)
      ]

  pub last_in : 0 < n → 0 < times l (trail f n i)
  last_in h = omega (arith, times_back l, first_of n h)
    where
      first_of : (k : ℕ) → 0 < k → 0 < times l (trail g k l)
      first_of zero b = absurd (omega arith)
      first_of (suc k) b = omega (arith, once-self l l refl)

-- the trail and its reverse, without x
pub record Detached (f g f' g' : ℕ → ℕ) (m i l x n : ℕ) : Type 0 where
  pub forth : trail f' m (cond (eqb x i) (f x) i) ≡ without (eqb x) (trail f n i)
  pub back : trail g' m (cond (eqb x l) (g x) l) ≡ reverse (trail f' m (cond (eqb x i) (f x) i))

abbrev Detaches : (f g f' g' : ℕ → ℕ) (m i l x n : ℕ) → Type 0
Detaches f g f' g' m i l x n = trail g n l ≡ reverse (trail f n i) → ((k : ℕ) → times k (trail f n i) ≤ 1) → 0 < times x (trail f n i) → ((j : ℕ) → f' j ≡ cond (eqb x i) (f j) (led f (g x) (f x) j)) → ((j : ℕ) → g' j ≡ cond (eqb x l) (g j) (led g (f x) (g x) j)) → Detached f g f' g' m i l x n

detached_step : (f g f' g' : ℕ → ℕ) (m i l x : ℕ) → Detaches f g f' g' m i l x (suc m)
detached_step f g f' g' m i l x both single here isf isg =
    let s = parted x (trail f (suc m) i) here in
    let rev : trail g (suc m) l ≡ reverse s.behind ++ (x ∷ reverse s.before) = both ∙ ap reverse s.is ∙ reverse_parted s.before x s.behind in
    let parts = many-append (eqb x) s.before (x ∷ s.behind) in
    let whole : times x (trail f (suc m) i) ≡ times x (s.before ++ (x ∷ s.behind)) = ap (times x) s.is in
    let none : times x (reverse s.behind) ≡ 0 = omega (arith, single x, whole, parts, once-self x x refl, times_reverse x s.behind) in
    let forth : trail f' m (cond (eqb x i) (f x) i) ≡ s.before ++ s.behind = shorter f f' (g x) m i x s.before s.behind s.is s.none (λ k. let q : times k (trail f (suc m) i) ≡ times k (s.before ++ (x ∷ s.behind)) = ap (times k) s.is in omega (arith, single k, q)) (λ zs p e. leads_back f g (suc m) i l both x s.before s.behind zs p s.is e) isf in
    let back : trail g' m (cond (eqb x l) (g x) l) ≡ reverse s.behind ++ reverse s.before = shorter g g' (f x) m l x (reverse s.behind) (reverse s.before) rev none (λ k. let q : times k (trail g (suc m) l) ≡ times k (reverse s.behind ++ (x ∷ reverse s.before)) = ap (times k) rev in omega (arith, single k, q, times_back f g (suc m) i l both k)) (λ zs p e. leads_back g f (suc m) l i (turned f g (suc m) i l both) x (reverse s.behind) (reverse s.before) zs p rev e) isg in
    record {
      forth = forth ∙ sym s.out;
      back = back ∙ sym (reverse-append s.before s.behind) ∙ ap reverse (sym forth);
    }

pub detached : (f g f' g' : ℕ → ℕ) (m i l x n : ℕ) → suc m ≡ n → Detaches f g f' g' m i l x n
detached f g f' g' m i l x n e = subst (λ k. Detaches f g f' g' m i l x k) e (detached_step f g f' g' m i l x)

-- the trail and its reverse, with x behind it
pub record Attached (f g f' g' : ℕ → ℕ) (i l x n : ℕ) : Type 0 where
  pub forth : trail f' (suc n) (cond (eqb n 0) x i) ≡ trail f n i ++ (x ∷ [])
  pub back : trail g' (suc n) x ≡ reverse (trail f' (suc n) (cond (eqb n 0) x i))

longer : (f g f' : ℕ → ℕ) (i l x n : ℕ) → trail g n l ≡ reverse (trail f n i) → ((k : ℕ) → times k (trail f n i) ≤ 1) → ((j : ℕ) → f' j ≡ cond (eqb n 0) (f j) (led f l x j)) → trail f' (suc n) (cond (eqb n 0) x i) ≡ trail f n i ++ (x ∷ [])
longer f g f' i l x zero both single is = refl
longer f g f' i l x (suc m) both single is =
    let miss : eqb (suc m) 0 ≡ false = ne_eqb (suc m) 0 (λ z. omega arith) in
    elim (last_of (trail f (suc m) i)) [
      | inl z ↦ absurd (let q : ◌≡◌ {A = ℕ} (length (i ∷ trail f m (f i))) 0 = ap length z in omega arith)
      | inr s ↦
          let rev : trail g (suc m) l ≡ s.last ∷ reverse s.front = both ∙ ap reverse s.is ∙ reverse-append s.front (s.last ∷ []) in
          let end : l ≡ s.last = trail-first g (suc m) l s.last (reverse s.front) rev in
          let q : times s.last (trail f (suc m) i) ≡ times s.last (s.front ++ (s.last ∷ [])) = ap (times s.last) s.is in
          let none : times s.last s.front ≡ 0 = omega (arith, single s.last, q, many-append (eqb s.last) s.front (s.last ∷ []), once-self s.last s.last refl) in
          let on = trail_on f f' s.front (suc m) i s.last x s.is none (λ j. is j ∙ cond-false (eqb (suc m) 0) (f j) (led f l x j) miss ∙ ap (λ z. led f z x j) end) in
          ap (trail f' (suc (suc m))) (cond-false (eqb (suc m) 0) x i miss) ∙ on ∙ sym (ap (λ zs. zs ++ (x ∷ [])) s.is ∙ append_assoc s.front (s.last ∷ []) (x ∷ []))
    ]

pub attached : (f g f' g' : ℕ → ℕ) (i l x n : ℕ) → trail g n l ≡ reverse (trail f n i) → ((k : ℕ) → times k (trail f n i) ≤ 1) → times x (trail f n i) ≡ 0 → ((j : ℕ) → f' j ≡ cond (eqb n 0) (f j) (led f l x j)) → ((j : ℕ) → g' j ≡ led g x l j) → Attached f g f' g' i l x n
attached f g f' g' i l x n both single alone isf isg =
    let forth = longer f g f' i l x n both single isf in
    let none : times x (trail g n l) ≡ 0 = times_back f g n i l both x ∙ alone in
    let start : g' x ≡ l = isg x ∙ led-here g x l x refl in
    let kept : trail g' n l ≡ trail g n l = trail_kept g g' n l (λ j t. isg j ∙ led_off g x l j (in_apart j x (trail g n l) none t)) in
    record {
      forth = forth;
      back = ap (λ z. x ∷ trail g' n z) start ∙ ap (λ zs. x ∷ zs) (kept ∙ both) ∙ sym (ap reverse forth ∙ reverse-append (trail f n i) (x ∷ []));
    }
