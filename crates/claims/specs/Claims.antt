-- What a claim on a sheet is. Assumes nothing.
use Rattle.std.specs.Prelude.{◌≡◌, [], ◌∷◌, ℤ}
use Rattle.tuples.specs.Numbers.{Word}
use Rattle.tuples.specs.declared.field.Field.{Field}
use Rattle.tuples.specs.declared.field.Field.TheVariants.{Num, Word as Named}
use Rattle.tuples.specs.declared.place.Place.{Place}
use Rattle.tuples.specs.declared.place.Place.TheVariants.{Actual}
use Rattle.tuples.specs.Tuples.{Tuple, Template, fields_of, places_of}

-- the word "free", which has number 0
abbrev pub Free : Field → Type 0
Free f = (w : Word) × (w.number ≡ 0) × (f ≡ Named w)

-- the word "free" and the sheet's number
abbrev pub Claim : ℤ → Tuple → Type 0
Claim sheet t = (f : Field) × Free f × (fields_of t ≡ f ∷ (Num sheet ∷ []))

-- the claims whose second place is as given
abbrev pub Sought : Place → Template → Type 0
Sought p m = (f : Field) × Free f × (places_of m ≡ Actual f ∷ (p ∷ []))
