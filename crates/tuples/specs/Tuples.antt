-- What a tuple and a template list, and when two of them are the same. Assumes nothing.
use Rattle.std.specs.Prelude.{Bool, true, false, ◌&&◌, List, [], ◌∷◌}
use Rattle.tuples.specs.declared.field.Field.{Field}
use Rattle.tuples.specs.declared.place.Place.{Place}
use Rattle.tuples.specs.declared.few.Few.{Few}
use Rattle.tuples.specs.contracts.blank.FieldBlank.TheImpl as field_blank
use Rattle.tuples.specs.contracts.blank.PlaceBlank.TheImpl as place_blank
use Rattle.tuples.specs.Fews.{items_of}
use Rattle.tuples.specs.Values.{same_field, same_place}

-- a tuple is one to four fields
abbrev pub Tuple : Type 0
Tuple = Few Field field_blank.ghosts

-- a template is one to four places
abbrev pub Template : Type 0
Template = Few Place place_blank.ghosts

-- the fields of a tuple, in order
abbrev pub fields_of : Tuple → List Field
fields_of t = items_of t

-- the places of a template, in order
abbrev pub places_of : Template → List Place
places_of m = items_of m

-- whether two lists are the same, element by element
abbrev pub same_all : {X : Type 0} → (X → X → Bool) → List X → List X → Bool
same_all same [] [] = true
same_all same [] (y ∷ ys) = false
same_all same (x ∷ xs) [] = false
same_all same (x ∷ xs) (y ∷ ys) = same x y && same_all same xs ys

-- whether two tuples are the same
abbrev pub same_tuple : Tuple → Tuple → Bool
same_tuple s t = same_all same_field (fields_of s) (fields_of t)

-- whether two templates are the same
abbrev pub same_template : Template → Template → Bool
same_template m n = same_all same_place (places_of m) (places_of n)
