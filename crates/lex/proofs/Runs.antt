-- Runs of bytes of one class.
use Rattle.std.proofs.Common.{◌≡◌, ℕ, ◌≤◌, ◌-◌, Decides, take, drop, subst, add-zero, get_or-drop, length-drop, refl, ◌<◌, Bool, true, false, cond, leb, List, [], ◌∷◌, length, get_or, Some, None, Option, ap, ◌∙◌, ⊎_elim, arith}
use Rattle.std.specs.List.{take_while}
use Rattle.std.proofs.lemmas.List.Sums.{take_while-cons}
use Rattle.std.proofs.lemmas.List.{take_all, get_or_past}
use Rattle.std.proofs.lemmas.Bool.{both_ways, cases_lt, false≢true}
use Rattle.std.specs.Char.{is_ascii_digit}
use Rattle.lex.specs.Bytes.{reserved, run_kind}
use Rattle.lex.specs.Next.{is_end}
use Rattle.lex.specs.declared.Keyword.{Keyword}
use Rattle.lex.specs.declared.Kind.{Kind}
use Rattle.lex.specs.declared.Kind.TheVariants.{Reserved, Name}

-- a byte that passes a test which 0 fails is within the list
pub stands_within : (p : ℕ → Bool) → p 0 ≡ false → (xs : List ℕ) (i : ℕ) → p (get_or xs i 0) ≡ true → i < length xs
stands_within p z xs i h = ⊎_elim (λ lt. lt) (λ le. absurd (both_ways (p (get_or xs i 0)) (ap p (get_or_past xs i 0 le) ∙ z) h)) (cases_lt i (length xs))

kind_goes : (o : Option Keyword) (b : Bool) (k : Kind) → Some k ≡ (elim o as (λ _. Option Kind) [ Some w ↦ Some (Reserved w) | None ↦ cond b (Some Name) None ]) → is_end k ≡ false
kind_goes (Some w) b k e = cc
kind_goes None true k e = cc
kind_goes None false k e = cc

-- a run of letters and digits is not the text's end
pub run_goes : (w : List ℕ) (k : Kind) → Some k ≡ run_kind w → is_end k ≡ false
run_goes w k e = kind_goes (reserved w) (leb (length w) 16) k e

-- a run is not empty exactly where its first byte passes the test, which 0 does not
pub run_starts : (p : ℕ → Bool) → p 0 ≡ false → (bs : List ℕ) → Decides (p (get_or bs 0 0)) (0 < length (take_while p bs))
run_starts p z [] = (λ h. absurd (both_ways (p 0) z h), λ h. absurd (omega arith))
run_starts p z (b ∷ bs) =
    let step : (v : Bool) → Decides v (0 < length (cond v (b ∷ take_while p bs) [])) = λ v. elim v as (λ u. Decides u (0 < length (cond u (b ∷ take_while p bs) []))) [ true ↦ (λ _. omega arith, λ _. refl) | false ↦ (λ h. absurd (false≢true h), λ h. absurd (omega arith)) ] in
    rw take_while-cons (step (p b))

-- what a slice from a place on holds
pub take-drop : (start : ℕ) (bs : List ℕ) → take (length bs - start) (drop start bs) ≡ drop start bs
take-drop start bs = take_all _ _ (omega (arith, length-drop start bs))

-- the digits from a place on, and whether there are any
pub digits_at : (bs ds : List ℕ) (s k : ℕ) → s ≡ k → s ≤ length bs → ds ≡ take_while is_ascii_digit (take (length bs - s) (drop s bs)) → (ds ≡ take_while is_ascii_digit (drop k bs)) × Decides (is_ascii_digit (get_or bs k 0)) (0 < length ds)
digits_at bs ds s k e le d =
    let all : take (length bs - s) (drop s bs) ≡ drop k bs = take-drop s bs ∙ ap (λ n. drop n bs) e in
    let f : ds ≡ take_while is_ascii_digit (drop k bs) = d ∙ ap (take_while is_ascii_digit) all in
    let at : get_or (drop k bs) 0 0 ≡ get_or bs k 0 = get_or-drop k bs 0 0 ∙ ap (λ x. get_or bs x 0) (add-zero k) in
    (f, subst (λ n. Decides (is_ascii_digit n) (0 < length ds)) at (rw f (run_starts is_ascii_digit refl (drop k bs))))
