-- Which tuples a template matches. Assumes nothing.
use Rattle.std.specs.Prelude.{◌≡◌, ℕ, ◌<◌, Bool, true, false, ◌&&◌, List, [], ◌∷◌, length, slice_index_or}
use Rattle.tuples.specs.declared.field.Field.{Field}
use Rattle.tuples.specs.declared.place.Place.{Place}
use Rattle.tuples.specs.declared.place.Place.TheVariants.{Actual, Formal}
use Rattle.tuples.specs.Values.{type_of, same_type, same_field}
use Rattle.tuples.specs.Tuples.{Tuple, Template, fields_of, places_of}

-- an actual field accepts its equal alone, a formal each field of its type
abbrev pub accepts : Place → Field → Bool
accepts (Actual wanted) f = same_field wanted f
accepts (Formal wanted) f = same_type wanted (type_of f)

-- as many places as fields, each accepting its opposite
abbrev pub accepts_all : List Place → List Field → Bool
accepts_all [] [] = true
accepts_all [] (f ∷ fs) = false
accepts_all (p ∷ ps) [] = false
accepts_all (p ∷ ps) (f ∷ fs) = accepts p f && accepts_all ps fs

-- whether a template matches a tuple
abbrev pub matches : Template → Tuple → Bool
matches m t = accepts_all (places_of m) (fields_of t)

-- the same as a statement: an actual is its opposite, a formal is the type of its opposite
abbrev pub Accepts : Place → Field → Type 0
Accepts (Actual wanted) f = wanted ≡ f
Accepts (Formal wanted) f = wanted ≡ type_of f

-- the same as a statement: equally many places, and at each place the two agree
pub record Matches (m : Template) (t : Tuple) : Type 0 where
  pub lengths : length (places_of m) ≡ length (fields_of t)
  pub opposites : (k : ℕ) (p : Place) (f : Field) → k < length (places_of m) → Accepts (slice_index_or (places_of m) k p) (slice_index_or (fields_of t) k f)
