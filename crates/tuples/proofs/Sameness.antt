-- The tests of sameness decide equality. Assumes nothing.
use Rattle.std.proofs.Common.{◌≡◌, ℕ, Bool, ◌==◌, true, false, ℤ, pos, negsuc, Decides, refl, sym, ap, ◌∙◌, arith}
use denote.Struct.Record.{values_one}
use denote.Param.{number}
use Rattle.std.specs.Cmp.{IsPartialEquivalence}
use Rattle.std.proofs.lemmas.Bool.Decides.{Decides-like, same_from_decides}
use Rattle.std.proofs.lemmas.Bool.{eqb-true, eq-eqb}
use Rattle.tuples.specs.declared.numbered.Numbered.{Numbered}
use Rattle.tuples.specs.declared.field.Field.{Field}
use Rattle.tuples.specs.declared.field.Field.TheVariants.{Num, Word as InWord, Site as InSite}
use Rattle.tuples.specs.declared.field.FieldType.{FieldType}
use Rattle.tuples.specs.declared.field.FieldType.TheVariants.{Num as NumType, Word as WordType, Site as SiteType}
use Rattle.tuples.specs.declared.place.Place.{Place}
use Rattle.tuples.specs.declared.place.Place.TheVariants.{Actual, Formal}
use Rattle.tuples.specs.contracts.numbered.Numbered as numbered_row
use Rattle.tuples.specs.Values.{same_num, same_type, same_field, same_place}

-- a site, a word or another thing that is told by its number is its number
pub numbered-told : {most : ℕ} (a b : Numbered most) → a.number ≡ b.number → a ≡ b
numbered-told {most = most} a b e = values_one (numbered_row.struct (number most)) (numbered_row.the_propositions most) a b (ap (λ n. (n, tt)) e)

-- the test of sameness of two numbers decides equality of what they tell
pub same_number-decides : {most : ℕ} (a b : Numbered most) → Decides (a.number == b.number) (a ≡ b)
same_number-decides a b = (λ e. numbered-told a b (eqb-true a.number b.number e), λ e. eq-eqb a.number b.number (ap (λ w. w.number) e))

-- a test that decides equality is symmetric and transitive
pub equivalence : {X : Type 0} (same : X → X → Bool) → ((a b : X) → Decides (same a b) (a ≡ b)) → IsPartialEquivalence same
equivalence same tells = record {
  symm = λ a b. same_from_decides _ _ (tells a b) (Decides-like _ sym sym (tells b a));
  trans = λ a b c e f. (tells a c).1 ((tells a b).0 e ∙ (tells b c).0 f);
}

-- two cases that differ are not equal
pub apart : {Q : Type 0} → (Q → ◌≡◌ {A = ℕ} 0 1) → Decides false Q
apart h = (λ e. absurd (let z : ◌≡◌ {A = ℕ} 0 1 = cc in omega arith), λ q. absurd (let z : ◌≡◌ {A = ℕ} 0 1 = h q in omega arith))

equal : {Q : Type 0} → Q → Decides true Q
equal q = (λ _. q, λ _. refl)

pub same_num-decides : (a b : ℤ) → Decides (same_num a b) (a ≡ b)
same_num-decides (pos a) (pos b) = (λ e. ap pos (eqb-true a b e), λ e. eq-eqb a b (cc))
same_num-decides (pos a) (negsuc b) = apart (λ e. cc)
same_num-decides (negsuc a) (pos b) = apart (λ e. cc)
same_num-decides (negsuc a) (negsuc b) = (λ e. ap negsuc (eqb-true a b e), λ e. eq-eqb a b (cc))

pub same_type-decides : (a b : FieldType) → Decides (same_type a b) (a ≡ b)
same_type-decides NumType NumType = equal refl
same_type-decides NumType WordType = apart (λ e. cc)
same_type-decides NumType SiteType = apart (λ e. cc)
same_type-decides WordType NumType = apart (λ e. cc)
same_type-decides WordType WordType = equal refl
same_type-decides WordType SiteType = apart (λ e. cc)
same_type-decides SiteType NumType = apart (λ e. cc)
same_type-decides SiteType WordType = apart (λ e. cc)
same_type-decides SiteType SiteType = equal refl

pub same_field-decides : (a b : Field) → Decides (same_field a b) (a ≡ b)
same_field-decides (Num a) (Num b) = let d = same_num-decides a b in (λ e. ap Num (d.0 e), λ e. d.1 (cc))
same_field-decides (Num a) (InWord b) = apart (λ e. cc)
same_field-decides (Num a) (InSite b) = apart (λ e. cc)
same_field-decides (InWord a) (Num b) = apart (λ e. cc)
same_field-decides (InWord a) (InWord b) = let d = same_number-decides a b in (λ e. ap InWord (d.0 e), λ e. d.1 (cc))
same_field-decides (InWord a) (InSite b) = apart (λ e. cc)
same_field-decides (InSite a) (Num b) = apart (λ e. cc)
same_field-decides (InSite a) (InWord b) = apart (λ e. cc)
same_field-decides (InSite a) (InSite b) = let d = same_number-decides a b in (λ e. ap InSite (d.0 e), λ e. d.1 (cc))

pub same_place-decides : (a b : Place) → Decides (same_place a b) (a ≡ b)
same_place-decides (Actual a) (Actual b) = let d = same_field-decides a b in (λ e. ap Actual (d.0 e), λ e. d.1 (cc))
same_place-decides (Actual a) (Formal b) = apart (λ e. cc)
same_place-decides (Formal a) (Actual b) = apart (λ e. cc)
same_place-decides (Formal a) (Formal b) = let d = same_type-decides a b in (λ e. ap Formal (d.0 e), λ e. d.1 (cc))

pub field_equivalence : IsPartialEquivalence same_field
field_equivalence = equivalence same_field same_field-decides

pub place_equivalence : IsPartialEquivalence same_place
place_equivalence = equivalence same_place same_place-decides
