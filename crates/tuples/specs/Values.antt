-- The type of a field, and when two fields or places are the same. Assumes nothing.
use Rattle.std.specs.Prelude.{Bool, true, false, ℤ, pos, negsuc, ◌==◌}
use Rattle.tuples.specs.declared.field.Field.{Field}
use Rattle.tuples.specs.declared.field.Field.TheVariants.{Num, Word, Site}
use Rattle.tuples.specs.declared.field.FieldType.{FieldType}
use Rattle.tuples.specs.declared.field.FieldType.TheVariants.{Num as NumType, Word as WordType, Site as SiteType}
use Rattle.tuples.specs.declared.place.Place.{Place}
use Rattle.tuples.specs.declared.place.Place.TheVariants.{Actual, Formal}

-- the type of a field
abbrev pub type_of : Field → FieldType
type_of (Num a) = NumType
type_of (Word a) = WordType
type_of (Site a) = SiteType

-- whether two types are the same
abbrev pub same_type : FieldType → FieldType → Bool
same_type NumType NumType = true
same_type NumType WordType = false
same_type NumType SiteType = false
same_type WordType NumType = false
same_type WordType WordType = true
same_type WordType SiteType = false
same_type SiteType NumType = false
same_type SiteType WordType = false
same_type SiteType SiteType = true

-- whether two signed numbers are the same
abbrev pub same_num : ℤ → ℤ → Bool
same_num (pos a) (pos b) = a == b
same_num (pos a) (negsuc b) = false
same_num (negsuc a) (pos b) = false
same_num (negsuc a) (negsuc b) = a == b

-- whether two fields are the same in type and value
abbrev pub same_field : Field → Field → Bool
same_field (Num a) (Num b) = same_num a b
same_field (Num a) (Word b) = false
same_field (Num a) (Site b) = false
same_field (Word a) (Num b) = false
same_field (Word a) (Word b) = a.number == b.number
same_field (Word a) (Site b) = false
same_field (Site a) (Num b) = false
same_field (Site a) (Word b) = false
same_field (Site a) (Site b) = a.number == b.number

-- whether two places are the same
abbrev pub same_place : Place → Place → Bool
same_place (Actual a) (Actual b) = same_field a b
same_place (Actual a) (Formal b) = false
same_place (Formal a) (Actual b) = false
same_place (Formal a) (Formal b) = same_type a b
