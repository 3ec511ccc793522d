-- The elements before a place move up by one, from the last to the first. Assumes nothing.
use Rattle.std.proofs.Common.{◌≡◌, ℕ, suc, ◌+◌, ◌-◌, ◌<◌, List, [], ◌∷◌, ◌++◌, length, get_or, take, drop, set, sym, refl, ap, ◌∙◌, arith}
use Rattle.std.specs.List.{remove}
use Rattle.std.proofs.lemmas.List.{append_assoc, length-take-le, get_or_append_left, get_or-take, set-append_left, take_all, take_more_set, take-take, length-set, drop_more, take-append-drop, drop-drop}
use Rattle.rings.specs.Circles.{raised_up}

module _ {X : Type 0} (xs : List X) (at : ℕ) where
  -- of xs, what stood from j on before the place `at` stands one place further
  abbrev pub raised_from : ℕ → List X
  raised_from j = take (j + 1) xs ++ remove (drop j xs) (at - j)

  pub raised_none : xs ≡ raised_from at
  raised_none =
      let none : at - at ≡ 0 = omega arith in
      sym (take-append-drop (at + 1) xs)
      ∙ ap (λ zs. take (at + 1) xs ++ zs) (sym (drop-drop 1 at xs) ∙ ap (remove (drop at xs)) (sym none))

  -- x, which stands at i, is written behind it
  pub raised_more : (i : ℕ) (x : X) → i < at → at < length xs → x ≡ get_or (raised_from (i + 1)) i x → set (raised_from (i + 1)) (i + 1) x ≡ raised_from i
  raised_more i x h within read =
      let front : length (take (i + 1 + 1) xs) ≡ i + 1 + 1 = length-take-le (i + 1 + 1) xs (omega arith) in
      let is : x ≡ get_or xs i x = read ∙ get_or_append_left (take (i + 1 + 1) xs) (remove (drop (i + 1) xs) (at - (i + 1))) x i (omega (arith, front)) ∙ get_or-take (i + 1 + 1) xs i x (omega arith) in
      let written : set (take (i + 1 + 1) xs) (i + 1) x ≡ take (i + 1) xs ++ (x ∷ []) =
      sym (take_all (i + 1 + 1) (set (take (i + 1 + 1) xs) (i + 1) x) (omega (arith, front, length-set (take (i + 1 + 1) xs) (i + 1) x)))
      ∙ take_more_set (take (i + 1 + 1) xs) (i + 1) x (omega (arith, front))
      ∙ ap (λ zs. zs ++ (x ∷ [])) (take-take (i + 1) (i + 1 + 1) xs (omega arith))
      in
      let next : at - i ≡ suc (at - (i + 1)) = omega arith in
      let tail : x ∷ remove (drop (i + 1) xs) (at - (i + 1)) ≡ remove (drop i xs) (at - i) =
      sym (ap (λ zs. remove zs (at - i)) (drop_more xs i x (omega arith) ∙ ap (λ y. y ∷ drop (i + 1) xs) (sym is)) ∙ ap (remove (x ∷ drop (i + 1) xs)) next)
      in
      set-append_left (take (i + 1 + 1) xs) (remove (drop (i + 1) xs) (at - (i + 1))) (i + 1) x (omega (arith, front))
      ∙ (λ j. written j ++ remove (drop (i + 1) xs) (at - (i + 1)))
      ∙ append_assoc (take (i + 1) xs) (x ∷ []) (remove (drop (i + 1) xs) (at - (i + 1)))
      ∙ ap (λ zs. take (i + 1) xs ++ zs) tail

-- without the first, what is left is the list without the element at the place
pub drop_raised : {X : Type 0} (xs : List X) (at : ℕ) → 0 < length xs → drop 1 (raised_up at xs) ≡ remove xs at
drop_raised [] at h = absurd (omega arith)
drop_raised (x ∷ xs) at h = refl
