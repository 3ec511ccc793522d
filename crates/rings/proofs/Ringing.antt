-- What a ring's rows in use become when a row is added, sought or taken out. Assumes nothing.
use Rattle.std.proofs.Common.{◌≡◌, ℕ, suc, ◌+◌, ◌-◌, ◌<◌, ◌≤◌, min, Bool, List, [], ◌∷◌, ◌++◌, length, get_or, take, drop, set, Some, None, Option, sym, ap, ◌∙◌, inl, inr, arith}
use lib.Seq.{take-append-add}
use Rattle.std.specs.List.{remove}
use Rattle.std.proofs.lemmas.List.{length-take, length-take-le, length-drop, get_or-take, take_all, take-take, take-append-le, take_more_set, drop-take, append-nil}
use Rattle.std.proofs.lemmas.Bool.{cases_lt}
use Rattle.rows.specs.Searches.{place_from, found, without}
use Rattle.rows.proofs.Searching.{first-at}
use Rattle.rings.specs.Circles.{turned, spot, next, raised_up}
use Rattle.rings.proofs.Seeking.{place_left, place_right, place_shift, none_shift}
use Rattle.rings.proofs.Turning.{length-turned, length_circle, get_or-circle, circle_set, turned-next}
use Rattle.rings.proofs.Raising.{raised_from, raised_more, drop_raised}

module _ {X : Type 0} where
  -- the first rows of a circle: some up to the end, the others from the front
  pub take-turned : (s used older : ℕ) (xs : List X) → s ≤ length xs → used ≤ length xs → older ≡ min used (length xs - s) → take used (turned s xs) ≡ take older (drop s xs) ++ take (used - older) xs
  take-turned s used older xs hs hu e = elim (cases_lt (length xs - s) used) [
    | inl l ↦
        let all : older ≡ length xs - s = omega arith in
        let long : length (drop s xs) ≡ older = length-drop s xs ∙ sym all in
        let sum : length (drop s xs) + (used - older) ≡ used = omega arith in
        ap (λ k. take k (turned s xs)) (sym sum) ∙ take-append-add (drop s xs) (take s xs) (used - older) ∙ (λ j. sym (take_all older (drop s xs) (omega arith)) j ++ take-take (used - older) s xs (omega arith) j)
    | inr l ↦
        let all : older ≡ used = omega arith in
        let none : used - older ≡ 0 = omega arith in
        take-append-le used (drop s xs) (take s xs) (omega (arith, length-drop s xs)) ∙ ap (λ k. take k (drop s xs)) (sym all) ∙ sym (append-nil (take older (drop s xs))) ∙ ap (λ k. take older (drop s xs) ++ take k xs) (sym none)
  ]

  -- the same of the first w of a list
  pub take-circle : (w s used older : ℕ) (xs : List X) → w ≤ length xs → s ≤ w → used ≤ w → older ≡ min used (w - s) → take used (turned s (take w xs)) ≡ take older (drop s xs) ++ take (used - older) xs
  take-circle w s used older xs few hs hu e =
      let short : length (take w xs) ≡ w = length-take-le w xs few in
      let all : s + (w - s) ≡ w = omega arith in
      let tail : drop s (take w xs) ≡ take (w - s) (drop s xs) = ap (λ n. drop s (take n xs)) (sym all) ∙ drop-take s (w - s) xs in
      take-turned s used older (take w xs) (omega (arith, short)) (omega (arith, short)) (e ∙ ap (λ n. min used (n - s)) (sym short))
      ∙ (λ j. (ap (take older) tail ∙ take-take older (w - s) (drop s xs) (omega arith)) j ++ take-take (used - older) w xs (omega arith) j)

  pub take_removed : (xs : List X) (at n : ℕ) → at < n → n ≤ length xs → take (n - 1) (remove xs at) ≡ remove (take n xs) at
  take_removed xs at n h le =
      let m = n - 1 - at in
      let front : length (take at xs) ≡ at = length-take-le at xs (omega arith) in
      let parts : length (take at xs) + (n - 1 - at) ≡ n - 1 = omega arith in
      let whole : suc at + (n - 1 - at) ≡ n = omega arith in
      ap (λ k. take k (remove xs at)) (sym parts)
      ∙ take-append-add (take at xs) (drop (suc at) xs) (n - 1 - at)
      ∙ (λ j. sym (take-take at n xs (omega arith)) j ++ (sym (drop-take (suc at) (n - 1 - at) xs) ∙ ap (λ k. drop (suc at) (take k xs)) whole) j)

  -- how many the first n of a circle are
  pub length_ringed : (w s n : ℕ) (xs : List X) → length (take n (turned s (take w xs))) ≡ min n (min w (length xs))
  length_ringed w s n xs = omega (arith, length-take n (turned s (take w xs)), length-turned s (take w xs), length-take w xs)

  module _ (w s n : ℕ) (xs : List X) (few : w ≤ length xs) (inside : s < w) where
    pub ring_added : (x : X) → n < w → spot w s n < w → take (n + 1) (turned s (take w (set xs (spot w s n) x))) ≡ take n (turned s (take w xs)) ++ (x ∷ [])
    ring_added x h l =
        ap (take (n + 1)) (circle_set w s xs few inside n x h l) ∙ take_more_set (turned s (take w xs)) n x (omega (arith, length_circle w s xs few inside))

    -- what stood at place i of the circle ys is written behind it
    pub ring_raised : (at i from to : ℕ) (x : X) (ys : List X) → w ≤ length ys → i < at → at < w → from ≡ spot w s i → to ≡ spot w s (i + 1) → from < w → to < w → x ≡ get_or ys from x → turned s (take w ys) ≡ raised_from (turned s (take w xs)) at (i + 1) → turned s (take w (set ys to x)) ≡ raised_from (turned s (take w xs)) at i
    ring_raised at i from to x ys few' h here is-from is-to low low' read left =
        let stands : x ≡ get_or (raised_from (turned s (take w xs)) at (i + 1)) i x =
        read ∙ ap (λ k. get_or ys k x) is-from ∙ get_or-circle w s ys few' inside i x (omega arith) (omega (arith, is-from)) ∙ ap (λ zs. get_or zs i x) left
        in
        ap (λ k. turned s (take w (set ys k x))) is-to
        ∙ circle_set w s ys few' inside (i + 1) x (omega arith) (omega (arith, is-to))
        ∙ ap (λ zs. set zs (i + 1) x) left
        ∙ raised_more (turned s (take w xs)) at i x h (omega (arith, length_circle w s xs few inside)) stands

    module _ (p : X → Bool) (fits : n ≤ w) where
      pub record Taken (o : Option X) (s' left : ℕ) (zs : List X) : Type 0 where
        pub got : o ≡ found p (take n (turned s (take w xs)))
        pub after : take left (turned s' (take w zs)) ≡ without p (take n (turned s (take w xs)))

      -- x, which stands at place `at`, is the first that passes, and those before it have moved up
      pub ring_taken : (at : ℕ) (x : X) (zs : List X) → w ≤ length zs → Some at ≡ place_from 0 p (take n (turned s (take w xs))) → x ≡ get_or (turned s (take w xs)) at x → turned s (take w zs) ≡ raised_up at (turned s (take w xs)) → Taken (Some x) (next w s) (n - 1) zs
      ring_taken at x zs few' e read up =
          let one = first-at p at (take n (turned s (take w xs))) (sym e) in
          let long : length (turned s (take w xs)) ≡ w = length_circle w s xs few inside in
          let here : at < n = omega (arith, one.within, length-take n (turned s (take w xs)), long) in
          let wide : length (take w zs) ≡ w = length-take-le w zs few' in
          let step : turned (next w s) (take w zs) ≡ drop 1 (turned s (take w zs)) ++ (get_or (take w zs) s x ∷ []) = ap (λ k. turned (next k s) (take w zs)) (sym wide) ∙ turned-next s (take w zs) x (omega arith) in
          let rest : drop 1 (turned s (take w zs)) ≡ remove (turned s (take w xs)) at = ap (drop 1) up ∙ drop_raised (turned s (take w xs)) at (omega arith) in
          let enough : n - 1 ≤ length (drop 1 (turned s (take w zs))) = omega (arith, length-drop 1 (turned s (take w zs)), length_circle w s zs few' inside) in
          record {
            got = ap Some (read ∙ sym (get_or-take n (turned s (take w xs)) at x here)) ∙ sym (one.is_found x);
            after =
                ap (take (n - 1)) step
                ∙ take-append-le (n - 1) (drop 1 (turned s (take w zs))) (get_or (take w zs) s x ∷ []) enough
                ∙ ap (take (n - 1)) rest
                ∙ take_removed (turned s (take w xs)) at n here (omega arith)
                ∙ sym one.is-out;
          }

-- a search up to the end of a circle's rows, and one from their front
module _ {X : Type 0} (p : X → Bool) (s used older : ℕ) (xs : List X) (inside : s ≤ length xs) (few : used ≤ length xs) (is : older ≡ min used (length xs - s)) where
  parts : take used (turned s xs) ≡ take older (drop s xs) ++ take (used - older) xs
  parts = take-turned s used older xs inside few is

  long : older ≡ 0 + length (take older (drop s xs))
  long = omega (arith, length-take older (drop s xs), length-drop s xs)

  pub seek_older : (i : ℕ) (as' : List X) → as' ≡ take older (drop s xs) → Some i ≡ place_from 0 p as' → Some i ≡ place_from 0 p (take used (turned s xs))
  seek_older i as' e f = place_left p 0 i (take older (drop s xs)) (take (used - older) xs) (f ∙ ap (place_from 0 p) e) ∙ ap (place_from 0 p) (sym parts)

  rest : (as' : List X) → as' ≡ take older (drop s xs) → None ≡ place_from 0 p as' → place_from 0 p (take used (turned s xs)) ≡ place_from older p (take (used - older) xs)
  rest as' e f = ap (place_from 0 p) parts ∙ place_right p 0 older (take older (drop s xs)) (take (used - older) xs) long (f ∙ ap (place_from 0 p) e)

  pub seek_newer : (i : ℕ) (as' bs : List X) → as' ≡ take older (drop s xs) → bs ≡ take (used - older) xs → None ≡ place_from 0 p as' → Some i ≡ place_from 0 p bs → Some (older + i) ≡ place_from 0 p (take used (turned s xs))
  seek_newer i as' bs e e' f f' =
      let zero_more : older + 0 ≡ older = omega arith in
      place_shift p older 0 i (take (used - older) xs) (f' ∙ ap (place_from 0 p) e') ∙ ap (λ k. place_from k p (take (used - older) xs)) zero_more ∙ sym (rest as' e f)

  pub seek_none : (as' bs : List X) → as' ≡ take older (drop s xs) → bs ≡ take (used - older) xs → None ≡ place_from 0 p as' → None ≡ place_from 0 p bs → None ≡ place_from 0 p (take used (turned s xs))
  seek_none as' bs e e' f f' = none_shift p older 0 (take (used - older) xs) (f' ∙ ap (place_from 0 p) e') ∙ sym (rest as' e f)
