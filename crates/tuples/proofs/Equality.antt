-- What the derived `==` says of fields, places, tuples and templates. Assumes nothing.
use Rattle.std.proofs.Common.{◌≡◌, Bool, ◌==◌, ◌&&◌, ℤ, int_eq, Decides, refl}
use Rattle.std.proofs.lemmas.Bool.Decides.{Decides-int_eq, same_from_decides}
use Rattle.tuples.specs.declared.field.Field.{Field}
use Rattle.tuples.specs.declared.field.Field.TheVariants.{Num, Word as InWord, Site as InSite}
use Rattle.tuples.specs.declared.field.FieldType.TheVariants.{Num as NumType, Word as WordType, Site as SiteType}
use Rattle.tuples.specs.declared.place.Place.{Place}
use Rattle.tuples.specs.declared.place.Place.TheVariants.{Actual, Formal}
use Rattle.tuples.specs.contracts.field.Field as field_row
use Rattle.tuples.specs.contracts.place.Place as place_row
use Rattle.tuples.specs.contracts.field.FieldPartialEq.TheImpl as field_equality
use Rattle.tuples.specs.contracts.place.PlacePartialEq.TheImpl as place_equality
use Rattle.std.specs.Cmp.Lexicographic.{pointwise}
use Rattle.std.specs.Cmp.{IsPartialEquivalence}
use Rattle.tuples.specs.Laws.{TestsEquality}
use Rattle.tuples.specs.Tuples.{same_tuple, same_template}
use Rattle.tuples.specs.Values.{same_num, same_field, same_place}
use Rattle.tuples.proofs.Sameness.{same_num-decides, same_field-decides, same_place-decides, field_equivalence, place_equivalence}
use Rattle.tuples.proofs.Padding.{few_eq-decides, same_tuple-decides, same_template-decides, tuple_equivalence, template_equivalence}

int_eq-same_num : (a b : ℤ) → int_eq a b ≡ same_num a b
int_eq-same_num a b = same_from_decides _ _ (Decides-int_eq a b) (same_num-decides a b)

pub field_eq-same_field : (a b : Field) → field_equality.ghosts.eq a b ≡ same_field a b
field_eq-same_field (Num a) (Num b) = int_eq-same_num a b
field_eq-same_field (Num a) (InWord b) = refl
field_eq-same_field (Num a) (InSite b) = refl
field_eq-same_field (InWord a) (Num b) = refl
field_eq-same_field (InWord a) (InWord b) = refl
field_eq-same_field (InWord a) (InSite b) = refl
field_eq-same_field (InSite a) (Num b) = refl
field_eq-same_field (InSite a) (InWord b) = refl
field_eq-same_field (InSite a) (InSite b) = refl

pub place_eq-same_place : (a b : Place) → place_equality.ghosts.eq a b ≡ same_place a b
place_eq-same_place (Actual a) (Actual b) = field_eq-same_field a b
place_eq-same_place (Actual a) (Formal b) = refl
place_eq-same_place (Formal a) (Actual b) = refl
place_eq-same_place (Formal NumType) (Formal NumType) = refl
place_eq-same_place (Formal NumType) (Formal WordType) = refl
place_eq-same_place (Formal NumType) (Formal SiteType) = refl
place_eq-same_place (Formal WordType) (Formal NumType) = refl
place_eq-same_place (Formal WordType) (Formal WordType) = refl
place_eq-same_place (Formal WordType) (Formal SiteType) = refl
place_eq-same_place (Formal SiteType) (Formal NumType) = refl
place_eq-same_place (Formal SiteType) (Formal WordType) = refl
place_eq-same_place (Formal SiteType) (Formal SiteType) = refl

-- two tests that decide equality are the same test
tests : {X : Type 0} (eq same : X → X → Bool) → ((a b : X) → Decides (eq a b) (a ≡ b)) → ((a b : X) → Decides (same a b) (a ≡ b)) → IsPartialEquivalence same → TestsEquality eq same
tests eq same eq-tells same-tells sames = record {
  computes = λ a b. same_from_decides _ _ (eq-tells a b) (same-tells a b);
  decides = eq-tells;
  equivalent = sames;
}

field_eq-decides : (a b : Field) → Decides (field_equality.ghosts.eq a b) (a ≡ b)
field_eq-decides a b = rw (field_eq-same_field a b) (same_field-decides a b)

place_eq-decides : (a b : Place) → Decides (place_equality.ghosts.eq a b) (a ≡ b)
place_eq-decides a b = rw (place_eq-same_place a b) (same_place-decides a b)

pub fields_tested : TestsEquality field_equality.ghosts.eq same_field
fields_tested = tests _ _ field_eq-decides same_field-decides field_equivalence

pub places_tested : TestsEquality place_equality.ghosts.eq same_place
places_tested = tests _ _ place_eq-decides same_place-decides place_equivalence

pub tuples_tested : TestsEquality (λ s t. s.len == t.len && pointwise field_equality.ghosts.eq s.items t.items) same_tuple
tuples_tested = tests _ _ (few_eq-decides field_row.the_row _ _ field_eq-decides) same_tuple-decides tuple_equivalence

pub templates_tested : TestsEquality (λ m n. m.len == n.len && pointwise place_equality.ghosts.eq m.items n.items) same_template
templates_tested = tests _ _ (few_eq-decides place_row.the_row _ _ place_eq-decides) same_template-decides template_equivalence
