-- Four places of which the first few are used and the others are blank: the used ones tell all. Assumes nothing.
use Rattle.std.proofs.Common.{◌≡◌, ℕ, ◌<◌, ◌≤◌, ◌==◌, Bool, ◌&&◌, List, [], ◌∷◌, length, get_or, take, Decides, sym, refl, ap, ◌∙◌, inl, inr, arith, length-take}
use denote.RattleType.{RattleType}
use denote.Struct.Record.{values_one}
use Rattle.std.specs.Cmp.Lexicographic.{pointwise}
use Rattle.std.proofs.lemmas.List.{get_or-take, same_lists, get_or_default}
use Rattle.std.proofs.lemmas.Bool.{cases_lt}
use Rattle.std.proofs.lemmas.Bool.Decides.{Decides-and, Decides-like, Decides-eqb}
use Rattle.std.proofs.lemmas.Slice.Eq.{slice_eq-Decides}
use Rattle.tuples.specs.declared.blank.Blank.{Ghosts}
use Rattle.tuples.specs.declared.few.Few.{Few}
use Rattle.tuples.specs.contracts.field.Field as field_row
use Rattle.tuples.specs.contracts.place.Place as place_row
use Rattle.tuples.specs.contracts.few.Few as few_row
use Rattle.tuples.specs.contracts.blank.FieldBlank.TheImpl as field_blank
use Rattle.tuples.specs.contracts.blank.PlaceBlank.TheImpl as place_blank
use Rattle.tuples.specs.Fews.{items_of}
use Rattle.tuples.specs.Values.{same_field, same_place}
use Rattle.tuples.specs.Tuples.{Tuple, Template, fields_of, places_of, same_all, same_tuple, same_template}
use Rattle.std.specs.Cmp.{IsPartialEquivalence}
use Rattle.tuples.proofs.Sameness.{apart, equivalence, same_field-decides, same_place-decides}

module _ {X : Type 0} (blank : X) where
  pub record Padded (n : ℕ) (xs : List X) : Type 0 where
    pub few : n ≤ 4
    pub four : length xs ≡ 4
    pub rest : (k : ℕ) → n ≤ k → k < 4 → get_or xs k blank ≡ blank

  pub length_used : (n : ℕ) (xs : List X) → Padded n xs → length (take n xs) ≡ n
  length_used n xs p = omega (arith, length-take n xs, p.few, p.four)

  pub same-lengths : (m n : ℕ) (xs ys : List X) → Padded m xs → Padded n ys → take m xs ≡ take n ys → m ≡ n
  same-lengths m n xs ys p q e = sym (length_used m xs p) ∙ ap length e ∙ length_used n ys q

  pub same_places : (m n : ℕ) (xs ys : List X) → Padded m xs → Padded n ys → take m xs ≡ take n ys → xs ≡ ys
  same_places m n xs ys p q e =
      let counts : m ≡ n = same-lengths m n xs ys p q e in
      same_lists xs ys (p.four ∙ sym q.four) (λ k d h.
      let low : k < 4 = omega (arith, p.four) in
      let ky : k < length ys = omega (arith, q.four) in
      elim (cases_lt k m) [
        | inl l ↦ sym (get_or-take m xs k d l) ∙ ap (λ zs. get_or zs k d) e ∙ get_or-take n ys k d (omega arith)
        | inr l ↦ get_or_default xs k d blank h ∙ p.rest k l low ∙ sym (q.rest k (omega arith) low) ∙ sym (get_or_default ys k d blank ky)
      ])

-- whatever the items are, one to four of them are what they list
module _ {X : Type 0} {g : Ghosts X} where
  few_padded : (f : Few X g) → Padded g.blank f.len f.items
  few_padded f = record { few = f.few; four = f.four; rest = f.rest }

  pub length_items : (f : Few X g) → length (items_of f) ≡ f.len
  length_items f = length_used g.blank f.len f.items (few_padded f)

pub few_told : (T : RattleType) (g : Ghosts T.Denot) (e f : Few T.Denot g) → items_of e ≡ items_of f → e ≡ f
few_told T g e f h =
    let lens = same-lengths g.blank _ _ _ _ (few_padded e) (few_padded f) h in
    let all = same_places g.blank _ _ _ _ (few_padded e) (few_padded f) h in
    values_one (few_row.struct T g) (few_row.the_propositions T.Denot g T.coded) e f (λ i. (lens i, (all i, tt)))

-- equal in number and in every place: the test of derived equality decides whether two lists of one to four are one
pub few_eq-decides : (T : RattleType) (g : Ghosts T.Denot) (E : T.Denot → T.Denot → Bool) → ((a b : T.Denot) → Decides (E a b) (a ≡ b)) → (e f : Few T.Denot g) → Decides (e.len == f.len && pointwise E e.items f.items) (e ≡ f)
few_eq-decides T g E tells e f =
    Decides-like _ (λ h. values_one (few_row.struct T g) (few_row.the_propositions T.Denot g T.coded) e f (λ i. (h.0 i, (h.1 i, tt)))) (λ h. (ap (λ x. x.len) h, ap (λ x. x.items) h))
    (Decides-and _ _ (Decides-eqb e.len f.len) (slice_eq-Decides tells e.items f.items _ refl))

pub length_fields : (t : Tuple) → length (fields_of t) ≡ t.len
length_fields t = length_items t

pub length_places : (m : Template) → length (places_of m) ≡ m.len
length_places m = length_items m

pub tuple_told : (s t : Tuple) → fields_of s ≡ fields_of t → s ≡ t
tuple_told = few_told field_row.the_row field_blank.ghosts

pub template_told : (m n : Template) → places_of m ≡ places_of n → m ≡ n
template_told = few_told place_row.the_row place_blank.ghosts

module _ {X : Type 0} (same : X → X → Bool) (tells : (x y : X) → Decides (same x y) (x ≡ y)) where
  pub same_all-decides : (xs ys : List X) → Decides (same_all same xs ys) (xs ≡ ys)
  same_all-decides [] [] = (λ _. refl, λ _. refl)
  same_all-decides [] (y ∷ ys) = apart (λ e. cc)
  same_all-decides (x ∷ xs) [] = apart (λ e. cc)
  same_all-decides (x ∷ xs) (y ∷ ys) =
      let both = Decides-and (same x y) (same_all same xs ys) (tells x y) (same_all-decides xs ys) in
      Decides-like _ (λ e. λ i. e.0 i ∷ e.1 i) (λ e. (cc, cc)) both

-- the library compares lists place by place too
pub pointwise-same_all : {X : Type 0} (same : X → X → Bool) (xs ys : List X) → pointwise same xs ys ≡ same_all same xs ys
pointwise-same_all same [] [] = refl
pointwise-same_all same [] (y ∷ ys) = refl
pointwise-same_all same (x ∷ xs) [] = refl
pointwise-same_all same (x ∷ xs) (y ∷ ys) = ap (λ b. same x y && b) (pointwise-same_all same xs ys)

pub same_tuple-decides : (s t : Tuple) → Decides (same_tuple s t) (s ≡ t)
same_tuple-decides s t = Decides-like _ (tuple_told s t) (ap fields_of) (same_all-decides same_field same_field-decides (fields_of s) (fields_of t))

pub same_template-decides : (m n : Template) → Decides (same_template m n) (m ≡ n)
same_template-decides m n = Decides-like _ (template_told m n) (ap places_of) (same_all-decides same_place same_place-decides (places_of m) (places_of n))

pub tuple_equivalence : IsPartialEquivalence same_tuple
tuple_equivalence = equivalence same_tuple same_tuple-decides

pub template_equivalence : IsPartialEquivalence same_template
template_equivalence = equivalence same_template same_template-decides
