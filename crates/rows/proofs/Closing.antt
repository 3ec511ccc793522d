-- A gap that is closed by moving the later elements down by one. Assumes nothing.
use Rattle.std.proofs.Common.{◌≡◌, ℕ, suc, ◌+◌, ◌-◌, ◌<◌, ◌≤◌, Bool, List, ◌++◌, length, get_or, take, drop, Some, None, Option, sym, ap, ◌∙◌, add-one, arith, length-append, length-drop}
use Rattle.std.specs.List.{remove, copy_within}
use Rattle.std.proofs.lemmas.List.{length-take-le, take_at, take_all, take-take, take-append-drop, drop-take, drop-drop, append_assoc, get_or-take}
use Rattle.std.proofs.lemmas.List.Edits.{length-remove}
use borrow.Rule.Slice.PartMut.{mid_of, put_mid}
use Rattle.rows.specs.Searches.{place_from, found, without}
use Rattle.rows.specs.Trays.{closed_up, closed_at, after_take}
use Rattle.rows.proofs.Searching.{first-at, missed}

module _ {X : Type 0} (xs : List X) (at used : ℕ) (here : at < used) where
  -- what `copy_within(at + 1..used, at)` makes
  pub copied_closed : copy_within xs (at + 1) used at ≡ closed_up at used xs
  copied_closed =
      let low : take at xs ≡ take at (take used xs) = sym (take-take at used xs (omega arith)) in
      let all : (at + 1) + (used - (at + 1)) ≡ used = omega arith in
      let high : take (used - (at + 1)) (drop (at + 1) xs) ≡ drop (suc at) (take used xs) = sym (drop-take (at + 1) (used - (at + 1)) xs) ∙ (λ j. drop (add-one at j) (take (all j) xs)) in
      let end : at + (used - (at + 1)) ≡ used - 1 = omega arith in
      λ j. (low j ++ high j) ++ drop (end j) xs

  -- and `[at..used].copy_within(1.., 0)` makes the same
  pub part_closed : (ys : List X) → used ≤ length xs → ys ≡ copy_within (mid_of at (used - at) xs) 1 (length (mid_of at (used - at) xs)) 0 → put_mid at (used - at) xs ys ≡ closed_up at used xs
  part_closed ys within copied =
      let k : ℕ = used - at in
      let rest : List X = drop at xs in
      let part : List X = take k rest in
      let many : length part ≡ k = length-take-le k rest (omega (arith, length-drop at xs)) in
      let whole : at + k ≡ used = omega arith in
      let next : (k - 1) + 1 ≡ k = omega arith in
      let last : at + (k - 1) ≡ used - 1 = omega arith in
      let left : 0 + (length part - 1) ≡ k - 1 = omega (arith, many) in
      let all : take (length part - 1) (drop 1 part) ≡ drop 1 part = take_all (length part - 1) (drop 1 part) (omega (arith, length-drop 1 part)) in
      let moved : ys ≡ drop 1 part ++ drop (k - 1) part = copied ∙ (λ j. all j ++ drop (left j) part) in
      let low : take at xs ≡ take at (take used xs) = sym (take-take at used xs (omega arith)) in
      let cut : part ≡ drop at (take used xs) = sym (drop-take at k xs) ∙ ap (λ n. drop at (take n xs)) whole in
      let high : drop 1 part ≡ drop (suc at) (take used xs) = ap (drop 1) cut ∙ drop-drop 1 at (take used xs) ∙ ap (λ n. drop n (take used xs)) (add-one at) in
      let one : drop (k - 1) part ≡ take 1 (drop (k - 1) rest) = ap (λ n. drop (k - 1) (take n rest)) (sym next) ∙ drop-take (k - 1) 1 rest in
      let past : drop k rest ≡ drop 1 (drop (k - 1) rest) = ap (λ n. drop n rest) (sym next) ∙ sym (drop-drop 1 (k - 1) rest) in
      let end : drop (k - 1) part ++ drop k rest ≡ drop (used - 1) xs = (λ j. one j ++ past j) ∙ take-append-drop 1 (drop (k - 1) rest) ∙ drop-drop (k - 1) at xs ∙ ap (λ n. drop n xs) last in
      ap (λ l. take at xs ++ (l ++ drop k rest)) moved
      ∙ ap (λ l. take at xs ++ l) (append_assoc (drop 1 part) (drop (k - 1) part) (drop k rest))
      ∙ sym (append_assoc (take at xs) (drop 1 part) (drop (k - 1) part ++ drop k rest))
      ∙ (λ j. (low j ++ high j) ++ end j)

  -- the first rows, once the gap among them is closed
  pub take_closed : used ≤ length xs → take (used - 1) (closed_up at used xs) ≡ remove (take used xs) at
  take_closed within =
      let short : length (take used xs) ≡ used = length-take-le used xs within in
      take_at (remove (take used xs) at) (drop (used - 1) xs) (used - 1) (omega (arith, length-remove (take used xs) at (omega (arith, short)), short))

  -- all rows are there still
  pub length_closed : used ≤ length xs → length (closed_up at used xs) ≡ length xs
  length_closed within =
      let short : length (take used xs) ≡ used = length-take-le used xs within in
      let in_use : at < length (take used xs) = omega arith in
      omega (arith, length-append (remove (take used xs) at) (drop (used - 1) xs), length-drop (used - 1) xs, length-remove (take used xs) at in_use, short)

module _ {X : Type 0} (p : X → Bool) (used : ℕ) (xs : List X) where
  -- o has been taken out of the rows in use, which leaves the first `left` of zs
  pub record Taken (o : Option X) (left : ℕ) (zs : List X) : Type 0 where
    pub got : o ≡ found p (take used xs)
    pub after : take left zs ≡ without p (take used xs)
    pub memory : zs ≡ after_take p used xs

  -- x, which stands at place i, is the first that passes, and the gap has been closed
  pub taken_closed : (i : ℕ) (x : X) (zs : List X) → used ≤ length xs → Some i ≡ place_from 0 p (take used xs) → x ≡ get_or xs i x → (i < used → zs ≡ closed_up i used xs) → Taken (Some x) (used - 1) zs
  taken_closed i x zs within e read close =
      let first = first-at p i (take used xs) (sym e) in
      let here : i < used = omega (arith, first.within, length-take-le used xs within) in
      let closed : zs ≡ closed_up i used xs = close here in
      record {
        got = ap Some (read ∙ sym (get_or-take used xs i x here)) ∙ sym (first.is_found x);
        after = ap (take (used - 1)) closed ∙ take_closed xs i used here within ∙ sym first.is-out;
        memory = closed ∙ ap (λ o. closed_at o used xs) e;
      }

  pub taken : (i : ℕ) (x : X) (zs : List X) → used ≤ length xs → Some i ≡ place_from 0 p (take used xs) → x ≡ get_or xs i x → zs ≡ copy_within xs (i + 1) used i → Taken (Some x) (used - 1) zs
  taken i x zs within e read copied = taken_closed i x zs within e read (λ here. copied ∙ copied_closed xs i used here)

  -- no row in use passes
  pub untaken : None ≡ place_from 0 p (take used xs) → Taken None used xs
  untaken e =
      let none = missed p 0 (take used xs) (sym e) in
      record { got = sym none.none; after = sym none.kept; memory = ap (λ o. closed_at o used xs) e }
