-- Matching, place by place. Assumes nothing.
use Rattle.std.proofs.Common.{◌≡◌, ℕ, zero, suc, ◌+◌, ◌<◌, ◌≤◌, Bool, true, false, ◌&&◌, List, [], ◌∷◌, length, get_or, drop, Decides, sym, refl, ap, ◌∙◌, arith}
use Rattle.std.proofs.lemmas.List.{drop_more, drop_all}
use Rattle.std.proofs.lemmas.Bool.{and_parts, and_from, false≢true}
use Rattle.tuples.specs.declared.field.Field.{Field}
use Rattle.tuples.specs.declared.place.Place.{Place}
use Rattle.tuples.specs.declared.place.Place.TheVariants.{Actual, Formal}
use Rattle.tuples.specs.Values.{type_of}
use Rattle.tuples.specs.Tuples.{Tuple, Template, fields_of, places_of}
use Rattle.tuples.specs.Matching.{accepts, accepts_all, matches, Accepts, Matches}
use Rattle.tuples.proofs.Sameness.{same_field-decides, same_type-decides}

and_false : (b : Bool) → (b && false) ≡ false
and_false true = refl
and_false false = refl

pub accepts_all-lengths : (ps : List Place) (fs : List Field) → (length ps ≡ length fs → ⊥) → accepts_all ps fs ≡ false
accepts_all-lengths [] [] h = absurd (h refl)
accepts_all-lengths [] (f ∷ fs) h = refl
accepts_all-lengths (p ∷ ps) [] h = refl
accepts_all-lengths (p ∷ ps) (f ∷ fs) h =
    let rest : accepts_all ps fs ≡ false = accepts_all-lengths ps fs (λ e. h (omega (arith, e))) in
    rw rest (and_false (accepts p f))

-- the places from i on, where p and f stand at i and p answers b
pub accepts_all-more : (ps : List Place) (fs : List Field) (i : ℕ) (p : Place) (f : Field) (b : Bool) → i < length ps → i < length fs → p ≡ get_or ps i p → f ≡ get_or fs i f → accepts p f ≡ b → accepts_all (drop i ps) (drop i fs) ≡ (b && accepts_all (drop (i + 1) ps) (drop (i + 1) fs))
accepts_all-more ps fs i p f b h k rp rf e =
    let here : accepts (get_or ps i p) (get_or fs i f) ≡ b = (λ j. accepts (sym rp j) (sym rf j)) ∙ e in
    rw (drop_more ps i p h, drop_more fs i f k, here)

pub accepts_all-end : (ps : List Place) (fs : List Field) (i : ℕ) → length ps ≤ i → length fs ≤ i → accepts_all (drop i ps) (drop i fs) ≡ true
accepts_all-end ps fs i h k = rw (drop_all i ps h, drop_all i fs k)

pub accepts-decides : (p : Place) (f : Field) → Decides (accepts p f) (Accepts p f)
accepts-decides (Actual wanted) f = same_field-decides wanted f
accepts-decides (Formal wanted) f = same_type-decides wanted (type_of f)

pub record Opposite (ps : List Place) (fs : List Field) : Type 0 where
  pub lengths : length ps ≡ length fs
  pub each : (k : ℕ) (p : Place) (f : Field) → k < length ps → Accepts (get_or ps k p) (get_or fs k f)

opposite_more : (p : Place) (f : Field) (ps : List Place) (fs : List Field) → Accepts p f → Opposite ps fs → Opposite (p ∷ ps) (f ∷ fs)
opposite_more p f ps fs a o = record { lengths = ap suc o.lengths; each = each }
  where
    each : (k : ℕ) (q : Place) (g : Field) → k < suc (length ps) → Accepts (get_or (p ∷ ps) k q) (get_or (f ∷ fs) k g)
    each zero q g h = a
    each (suc k) q g h = o.each k q g (omega arith)

pub accepted_opposite : (ps : List Place) (fs : List Field) → accepts_all ps fs ≡ true → Opposite ps fs
accepted_opposite [] [] e = record { lengths = refl; each = λ k p f h. absurd (omega arith) }
accepted_opposite [] (f ∷ fs) e = absurd (false≢true e)
accepted_opposite (p ∷ ps) [] e = absurd (false≢true e)
accepted_opposite (p ∷ ps) (f ∷ fs) e =
    let both = and_parts (accepts p f) (accepts_all ps fs) e in
    opposite_more p f ps fs ((accepts-decides p f).0 both.0) (accepted_opposite ps fs both.1)

pub opposite_accepted : (ps : List Place) (fs : List Field) → Opposite ps fs → accepts_all ps fs ≡ true
opposite_accepted [] [] o = refl
opposite_accepted [] (f ∷ fs) o = absurd (omega (arith, o.lengths))
opposite_accepted (p ∷ ps) [] o = absurd (omega (arith, o.lengths))
opposite_accepted (p ∷ ps) (f ∷ fs) o =
    let here : accepts p f ≡ true = (accepts-decides p f).1 (o.each 0 p f (omega arith)) in
    let rest : Opposite ps fs = record { lengths = omega (arith, o.lengths); each = λ k q g h. o.each (suc k) q g (omega arith) } in
    and_from (accepts p f) (accepts_all ps fs) here (opposite_accepted ps fs rest)

pub matching_decided_lem : (m : Template) (t : Tuple) → Decides (matches m t) (Matches m t)
matching_decided_lem m t = (
  λ e. let o = accepted_opposite (places_of m) (fields_of t) e in record { lengths = o.lengths; opposites = o.each },
  λ o. opposite_accepted (places_of m) (fields_of t) (record { lengths = o.lengths; each = o.opposites }),
)
