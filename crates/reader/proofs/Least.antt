-- The least of some faults. Assumes nothing.
use Rattle.std.proofs.Common.{◌≡◌, ℕ, zero, suc, ◌<◌, Bool, true, false, cond, List, [], ◌∷◌, length, get_or, Some, None, Option, refl, ap, ◌∙◌, subst, arith}
use Rattle.std.proofs.lemmas.Bool.Decides.{nat_tests}
use Rattle.reader.specs.Faults.{Fault, before, earlier, least}
use Rattle.reader.specs.Laws.{DecidesLeast, LeastDecides}

before_self : (f : Fault) → before f f ≡ true
before_self f = grind (arith, nat_tests)

before_trans : (f g h : Fault) → before f g ≡ true → before g h ≡ true → before f h ≡ true
before_trans f g h a b = grind (arith, nat_tests)

before_else : (f g : Fault) → before f g ≡ false → before g f ≡ true
before_else f g a = grind (arith, nat_tests)

earlier_some : (f : Fault) (o : Option Fault) → earlier f o ≡ None → ⊥
earlier_some f None e = let z : ◌≡◌ {A = ℕ} 0 1 = cc in omega arith
earlier_some f (Some g) e = step (before f g) e
  where
    step : (b : Bool) → cond b (Some f) (Some g) ≡ None → ⊥
    step true e = let z : ◌≡◌ {A = ℕ} 0 1 = cc in omega arith
    step false e = let z : ◌≡◌ {A = ℕ} 0 1 = cc in omega arith

none_least : (fs : List Fault) → least fs ≡ None → fs ≡ []
none_least [] e = refl
none_least (f ∷ fs) e = absurd (earlier_some f (least fs) e)

-- the first of the list decides
head_decides : (f : Fault) (fs : List Fault) → ((k : ℕ) → k < length fs → before f (get_or fs k f) ≡ true) → DecidesLeast (f ∷ fs) f
head_decides f fs rest = record { at = 0; within = omega arith; is = refl; first = first }
  where
    first : (k : ℕ) → k < suc (length fs) → before f (get_or (f ∷ fs) k f) ≡ true
    first zero h = before_self f
    first (suc k) h = rest k (omega arith)

-- the one that decides among the others stands before the first of the list
tail_decides : (g f : Fault) (fs : List Fault) → before f g ≡ true → DecidesLeast fs f → DecidesLeast (g ∷ fs) f
tail_decides g f fs b d = record { at = suc d.at; within = omega (arith, d.within); is = d.is; first = first }
  where
    first : (k : ℕ) → k < suc (length fs) → before f (get_or (g ∷ fs) k f) ≡ true
    first zero h = b
    first (suc k) h = d.first k (omega arith)

default_other : (fs : List Fault) (k : ℕ) (d e : Fault) → k < length fs → get_or fs k d ≡ get_or fs k e
default_other [] k d e h = absurd (omega arith)
default_other (f ∷ fs) zero d e h = refl
default_other (f ∷ fs) (suc k) d e h = default_other fs k d e (omega arith)

both-step : (g h f : Fault) (fs : List Fault) (b : Bool) → before g h ≡ b → DecidesLeast fs h → cond b (Some g) (Some h) ≡ Some f → DecidesLeast (g ∷ fs) f
both-step g h f fs true e d same =
    let is : g ≡ f = cc in
    let rest : (k : ℕ) → k < length fs → before g (get_or fs k g) ≡ true = λ k l.
    before_trans g h (get_or fs k g) e (ap (before h) (default_other fs k g h l) ∙ d.first k l) in
    subst (λ (x : Fault). DecidesLeast (g ∷ fs) x) is (head_decides g fs rest)
both-step g h f fs false e d same =
    let is : h ≡ f = cc in
    subst (λ (x : Fault). DecidesLeast (g ∷ fs) x) is (tail_decides g h fs (before_else g h e) d)

some_step : (g f : Fault) (fs : List Fault) (o : Option Fault) → least fs ≡ o → ((h : Fault) → least fs ≡ Some h → DecidesLeast fs h) → earlier g o ≡ Some f → DecidesLeast (g ∷ fs) f
some_step g f fs None e more same =
    let none : fs ≡ [] = none_least fs e in
    let is : g ≡ f = cc in
    let rest : (k : ℕ) → k < length fs → before g (get_or fs k g) ≡ true = λ k l. absurd (omega (arith, ap length none)) in
    subst (λ (x : Fault). DecidesLeast (g ∷ fs) x) is (head_decides g fs rest)
some_step g f fs (Some h) e more same = both-step g h f fs (before g h) refl (more h e) same

some_least : (fs : List Fault) (f : Fault) → least fs ≡ Some f → DecidesLeast fs f
some_least [] f e = absurd (let z : ◌≡◌ {A = ℕ} 0 1 = cc in omega arith)
some_least (g ∷ fs) f e = some_step g f fs (least fs) refl (some_least fs) e

pub least-decides : LeastDecides
least-decides fs = (none_least fs, some_least fs)
