-- What a letter is made of, and when two letters are the same. Assumes nothing.
use Rattle.std.specs.Prelude.{ℕ, Bool, ◌&&◌, List, [], map, ◌==◌}
use Rattle.tuples.specs.declared.place.Place.{Place}
use Rattle.tuples.specs.declared.place.Place.TheVariants.{Actual}
use Rattle.tuples.specs.Tuples.{Tuple, fields_of, places_of, same_all}
use Rattle.tuples.specs.Values.{same_place}
use Rattle.carriers.specs.declared.letter.Letter.{Letter}
use Rattle.carriers.specs.declared.letter.Body.{Body}
use Rattle.carriers.specs.declared.letter.Body.TheVariants.{Goods, Mover, InRequest, ReadRequest, Reply}

-- the number of a letter's kind
abbrev pub kind_of : Body → ℕ
kind_of (Goods t) = 1
kind_of (Mover r) = 2
kind_of (InRequest r m) = 3
kind_of (ReadRequest r m) = 4
kind_of (Reply r t) = 5

-- the number of the row that it concerns, 0 for goods
abbrev pub row_of : Body → ℕ
row_of (Goods t) = 0
row_of (Mover r) = r.number
row_of (InRequest r m) = r.number
row_of (ReadRequest r m) = r.number
row_of (Reply r t) = r.number

-- a tuple's fields as places
abbrev pub actuals : Tuple → List Place
actuals t = map Actual (fields_of t)

-- the places that it holds: a tuple's fields, a template's places, or none
abbrev pub places_in : Body → List Place
places_in (Goods t) = actuals t
places_in (Mover r) = []
places_in (InRequest r m) = places_of m
places_in (ReadRequest r m) = places_of m
places_in (Reply r t) = actuals t

-- whether two letters are the same in destination, kind, row and places
abbrev pub same_letter : Letter → Letter → Bool
same_letter a b =
    a.to.number == b.to.number && (kind_of a.body == kind_of b.body && (row_of a.body == row_of b.body && same_all same_place (places_in a.body) (places_in b.body)))
