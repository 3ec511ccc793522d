-- What a ring lists, oldest first, and what its memory holds once a row is taken out. Assumes nothing.
use Rattle.std.specs.Prelude.{◌≡◌, ℕ, min, Bool, List, length, take, drop, MatchOption}
use Rattle.rows.specs.Searches.{place_from}
use Rattle.rings.specs.declared.ring.Ring.{Ring}
use Rattle.rings.specs.Circles.{turned, spot, raised_up}

-- how many rows a ring can use
abbrev pub room : {X : Type 0} {most : ℕ} → Ring X most → ℕ
room {most = most} r = min (length r.rows.now) most

-- how many rows are in use
abbrev pub filled : {X : Type 0} {most : ℕ} → Ring X most → ℕ
filled r = r.used

-- where the oldest lies
abbrev pub start : {X : Type 0} {most : ℕ} → Ring X most → ℕ
start r = r.first

-- the rows that a ring goes round, of its memory, from the oldest on
abbrev pub circle : {X : Type 0} {most : ℕ} → Ring X most → List X → List X
circle r memory = turned (start r) (take (room r) memory)

-- the rows in use, oldest first
abbrev pub listed : {X : Type 0} {most : ℕ} → Ring X most → List X
listed r = take (filled r) (circle r r.rows.now)

-- the place behind the youngest
abbrev pub free_place : {X : Type 0} {most : ℕ} → Ring X most → ℕ
free_place r = spot (room r) (start r) (filled r)

-- the memory once the oldest that passes is taken out: the rows before it have moved up by one, and no other has changed
abbrev pub AfterTake : {X : Type 0} {most : ℕ} → (X → Bool) → Ring X most → List X → Type 0
AfterTake p r memory = MatchOption (place_from 0 p (listed r)) (memory ≡ r.rows.now) (λ at. (circle r memory ≡ raised_up at (circle r r.rows.now)) × (drop (room r) memory ≡ drop (room r) r.rows.now))
