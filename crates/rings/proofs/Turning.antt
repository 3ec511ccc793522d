-- Turned lists: their length, reads, writes, and one step on. Assumes nothing.
use Rattle.std.proofs.Common.{◌≡◌, ℕ, ◌+◌, ◌-◌, ◌<◌, ◌≤◌, ltb, List, [], ◌∷◌, ◌++◌, length, get_or, take, drop, set, sym, ap, ◌∙◌, inl, inr, arith}
use lib.Seq.{take-set-lt}
use Rattle.std.proofs.lemmas.List.{length-take, length-drop, length-append, get_or-take, get_or-drop, length-take-le, get_or_append_left, get_or-append_right, set-append_left, set-append_right, drop-set-add, drop-set-lt, take-set-le, drop_more, drop_all, take_more, take_all, append_assoc, append-nil}
use Rattle.std.proofs.lemmas.Bool.{cases_lt, lt-ltb, le-ltb, cond-true, cond-false}
use Rattle.rings.specs.Circles.{turned, spot, next}

pub spot-before : (n s i : ℕ) → i < n - s → spot n s i ≡ s + i
spot-before n s i h = cond-true (ltb i (n - s)) (s + i) (i - (n - s)) (lt-ltb i (n - s) h)

pub spot-behind : (n s i : ℕ) → n - s ≤ i → spot n s i ≡ i - (n - s)
spot-behind n s i h = cond-false (ltb i (n - s)) (s + i) (i - (n - s)) (le-ltb i (n - s) h)

pub next-within : (n s : ℕ) → s < n → next n s < n
next-within n s h = elim (cases_lt s (n - 1)) [
  | inl l ↦ omega (arith, cond-true (ltb s (n - 1)) (s + 1) 0 (lt-ltb s (n - 1) l))
  | inr l ↦ omega (arith, cond-false (ltb s (n - 1)) (s + 1) 0 (le-ltb s (n - 1) l))
]

module _ {X : Type 0} where
  pub length-turned : (s : ℕ) (xs : List X) → length (turned s xs) ≡ length xs
  length-turned s xs = omega (arith, length-append (drop s xs) (take s xs), length-drop s xs, length-take s xs)

  pub get_or-turned : (s : ℕ) (xs : List X) (i : ℕ) (d : X) → s < length xs → i < length xs → get_or (turned s xs) i d ≡ get_or xs (spot (length xs) s i) d
  get_or-turned s xs i d h l = elim (cases_lt i (length xs - s)) [
    | inl b ↦ get_or_append_left (drop s xs) (take s xs) d i (omega (arith, length-drop s xs)) ∙ get_or-drop s xs i d ∙ ap (λ k. get_or xs k d) (sym (spot-before (length xs) s i b))
    | inr b ↦ get_or-append_right (drop s xs) (take s xs) (length xs - s) i d (length-drop s xs) b ∙ get_or-take s xs (i - (length xs - s)) d (omega arith) ∙ ap (λ k. get_or xs k d) (sym (spot-behind (length xs) s i b))
  ]

  pub turned_set : (s : ℕ) (xs : List X) (i : ℕ) (x : X) → s < length xs → i < length xs → turned s (set xs (spot (length xs) s i) x) ≡ set (turned s xs) i x
  turned_set s xs i x h l = elim (cases_lt i (length xs - s)) [
    | inl b ↦
        ap (λ k. turned s (set xs k x)) (spot-before (length xs) s i b)
        ∙ (λ j. drop-set-add s xs i x j ++ take-set-le s xs (s + i) x (omega arith) j)
        ∙ sym (set-append_left (drop s xs) (take s xs) i x (omega (arith, length-drop s xs)))
    | inr b ↦
        let k = i - (length xs - s) in
        let low : k < s = omega arith in
        ap (λ j. turned s (set xs j x)) (spot-behind (length xs) s i b)
        ∙ (λ j. drop-set-lt s xs k x low j ++ take-set-lt s xs k x low j)
        ∙ sym (set-append_right (drop s xs) (take s xs) (length xs - s) i x (length-drop s xs) b)
  ]

  -- the first w of a list as a circle
  module _ (w s : ℕ) (xs : List X) (few : w ≤ length xs) (inside : s < w) where
    short : length (take w xs) ≡ w
    short = length-take-le w xs few

    pub length_circle : length (turned s (take w xs)) ≡ w
    length_circle = length-turned s (take w xs) ∙ short

    pub get_or-circle : (i : ℕ) (d : X) → i < w → spot w s i < w → get_or xs (spot w s i) d ≡ get_or (turned s (take w xs)) i d
    get_or-circle i d h l =
        sym (get_or-turned s (take w xs) i d (omega (arith, short)) (omega (arith, short)) ∙ ap (λ n. get_or (take w xs) (spot n s i) d) short ∙ get_or-take w xs (spot w s i) d l)

    pub circle_set : (i : ℕ) (x : X) → i < w → spot w s i < w → turned s (take w (set xs (spot w s i) x)) ≡ set (turned s (take w xs)) i x
    circle_set i x h l =
        ap (turned s) (take-set-lt w xs (spot w s i) x l ∙ ap (λ n. set (take w xs) (spot n s i) x) (sym short))
        ∙ turned_set s (take w xs) i x (omega (arith, short)) (omega (arith, short))

  -- one step on, the first element comes last
  pub turned-next : (s : ℕ) (xs : List X) (d : X) → s < length xs → turned (next (length xs) s) xs ≡ drop 1 (turned s xs) ++ (get_or xs s d ∷ [])
  turned-next s xs d h =
      let front : drop 1 (turned s xs) ≡ drop (s + 1) xs ++ take s xs = ap (λ zs. drop 1 (zs ++ take s xs)) (drop_more xs s d h) in
      let all : drop (s + 1) xs ++ take (s + 1) xs ≡ drop 1 (turned s xs) ++ (get_or xs s d ∷ []) =
      ap (λ zs. drop (s + 1) xs ++ zs) (take_more xs s d h) ∙ sym (append_assoc (drop (s + 1) xs) (take s xs) (get_or xs s d ∷ [])) ∙ ap (λ zs. zs ++ (get_or xs s d ∷ [])) (sym front) in
      elim (cases_lt s (length xs - 1)) [
        | inl l ↦ ap (λ k. turned k xs) (cond-true (ltb s (length xs - 1)) (s + 1) 0 (lt-ltb s (length xs - 1) l)) ∙ all
        | inr l ↦
            let round : turned (next (length xs) s) xs ≡ xs = ap (λ k. turned k xs) (cond-false (ltb s (length xs - 1)) (s + 1) 0 (le-ltb s (length xs - 1) l)) ∙ append-nil xs in
            let same : drop (s + 1) xs ++ take (s + 1) xs ≡ xs = λ j. drop_all (s + 1) xs (omega arith) j ++ take_all (s + 1) xs (omega arith) j in
            round ∙ sym same ∙ all
      ]
