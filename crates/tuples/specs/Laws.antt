-- The laws of values that contracts name. Assumes nothing.
use Rattle.std.specs.Prelude.{◌≡◌, Bool, Decides}
use Rattle.std.specs.Cmp.{IsPartialEquivalence}
use Rattle.tuples.specs.Tuples.{Tuple, Template, fields_of, places_of}
use Rattle.tuples.specs.Matching.{matches, Matches}

-- a tuple is its fields, and a template its places: no other part of either can differ
abbrev pub ToldByPlaces : Type 0
ToldByPlaces = ((s t : Tuple) → fields_of s ≡ fields_of t → s ≡ t) × ((m n : Template) → places_of m ≡ places_of n → m ≡ n)

-- the test of matching decides the statement of matching
abbrev pub MatchingDecided : Type 0
MatchingDecided = (m : Template) (t : Tuple) → Decides (matches m t) (Matches m t)

-- a test of equality: it computes the test of sameness, it decides whether two values are one, and sameness is symmetric and transitive
pub record TestsEquality {X : Type 0} (eq same : X → X → Bool) : Type 0 where
  pub computes : (a b : X) → eq a b ≡ same a b
  pub decides : (a b : X) → Decides (eq a b) (a ≡ b)
  pub equivalent : IsPartialEquivalence same
