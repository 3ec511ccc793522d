-- A walk along a chain, row by row, that may ask of each tuple whether a template matches it. Assumes nothing.
use Rattle.std.proofs.Common.{◌≡◌, ℕ, zero, suc, ◌+◌, ◌-◌, ◌<◌, ◌≤◌, Bool, true, false, cond, List, [], ◌∷◌, get_or, Some, sym, refl, ap, ◌∙◌, arith}
use Rattle.std.specs.List.{slice_get, cons_option}
use Rattle.std.specs.Option.{option_map}
use Rattle.std.proofs.lemmas.Bool.{cond-true, cond-false}
use Rattle.std.proofs.lemmas.Option.{slice_get-get_or}
use Rattle.tuples.specs.Tuples.{Template}
use Rattle.tuples.specs.Matching.{matches}
use Rattle.rows.specs.Bags.{once, many}
use Rattle.rows.specs.Searches.{found, visited}
use Rattle.chained.specs.declared.row.ChainRow.{ChainRow}
use Rattle.chained.specs.declared.ends.Ends.{Ends}
use Rattle.chained.specs.Links.{next_in, tuple_in, next_of, trail, forward, numbered, room_for}
use Rattle.chained.specs.Steps.{matches_in, matches_at, Inside}
use Rattle.chained.proofs.Trails.{times, once-self}

trail-step : (f : ℕ → ℕ) (n i : ℕ) → 0 < n → trail f n i ≡ i ∷ trail f (n - 1) (f i)
trail-step f zero i h = absurd (omega arith)
trail-step f (suc n) i h = let e : n ≡ suc n - 1 = omega arith in ap (λ k. i ∷ trail f k (f i)) e

pub trail-end : (f : ℕ → ℕ) (n i : ℕ) → n ≤ 0 → trail f n i ≡ []
trail-end f zero i h = refl
trail-end f (suc n) i h = absurd (omega arith)

pub first_there : (f : ℕ → ℕ) (n i : ℕ) → 0 < n → 0 < times i (trail f n i)
first_there f n i h = omega (arith, ap (times i) (trail-step f n i h), once-self i i refl)

-- a walk that is in a chain has come to a linked row
pub walk_inside : (rows : List ChainRow) (e : Ends) (n i : ℕ) → Inside rows e → 0 < n → ((k : ℕ) → times k (trail (next_of rows) n i) ≤ times k (forward rows e)) → i < room_for rows
walk_inside rows e n i inside some part = inside i (omega (arith, first_there (next_of rows) n i some, part i))

module _ (rows : List ChainRow) (m : Template) (n i : ℕ) (row : ChainRow) (some : 0 < n) (read : slice_get rows i ≡ Some row) where
  on : trail (next_of rows) n i ≡ i ∷ trail (next_of rows) (n - 1) row.next
  on = trail-step (next_of rows) n i some ∙ ap (λ j. i ∷ trail (next_of rows) (n - 1) j) (ap next_in read)

  asked : (b : Bool) → matches m row.tuple ≡ b → matches_at rows m i ≡ b
  asked b e = ap (λ o. matches_in m (tuple_in o)) read ∙ e

  pub walk_hit : matches m row.tuple ≡ true → found (matches_at rows m) (trail (next_of rows) n i) ≡ Some i
  walk_hit e = ap (found (matches_at rows m)) on ∙ cond-true (matches_at rows m i) (Some i) _ (asked true e)

  pub walk_on : matches m row.tuple ≡ false → found (matches_at rows m) (trail (next_of rows) (n - 1) row.next) ≡ found (matches_at rows m) (trail (next_of rows) n i)
  walk_on e = sym (ap (found (matches_at rows m)) on ∙ cond-false (matches_at rows m i) (Some i) _ (asked false e))

  pub walk_count : (b : Bool) → matches m row.tuple ≡ b → many (matches_at rows m) (trail (next_of rows) n i) ≡ once b + many (matches_at rows m) (trail (next_of rows) (n - 1) row.next)
  walk_count b e = ap (many (matches_at rows m)) on ∙ ap (λ c. once c + many (matches_at rows m) (trail (next_of rows) (n - 1) row.next)) (asked b e)

  pub walk_fewer : (k : ℕ) → times k (trail (next_of rows) (n - 1) row.next) ≤ times k (trail (next_of rows) n i)
  walk_fewer k = let e : times k (trail (next_of rows) n i) ≡ times k (i ∷ trail (next_of rows) (n - 1) row.next) = ap (times k) on in omega (arith, e)

  pub walk_visits : (b : Bool) → matches m row.tuple ≡ b → visited (matches_at rows m) (trail (next_of rows) n i) ≡ 1 + cond b 0 (visited (matches_at rows m) (trail (next_of rows) (n - 1) row.next))
  walk_visits b e = ap (visited (matches_at rows m)) on ∙ ap (λ c. 1 + cond c 0 (visited (matches_at rows m) (trail (next_of rows) (n - 1) row.next))) (asked b e)

-- the first row of a chain that has rows, and the m rows behind it
module _ (rows : List ChainRow) (e : Ends) (m : ℕ) (some : (1 ≤ e.many) × (m ≡ e.many - 1)) (inside : Inside rows e) where
  pub first_inside : e.first < room_for rows
  first_inside = inside e.first (first_there (next_of rows) e.many e.first some.0)

  module _ (d : ChainRow) where
    read : slice_get rows e.first ≡ Some (get_or rows e.first d)
    read = slice_get-get_or rows e.first d (omega (arith, first_inside))

    parted : forward rows e ≡ e.first ∷ trail (next_of rows) m (get_or rows e.first d).next
    parted = trail-step (next_of rows) e.many e.first some.0 ∙ ap (λ n. e.first ∷ trail (next_of rows) n (next_of rows e.first)) (sym some.1) ∙ ap (λ o. e.first ∷ trail (next_of rows) m (next_in o)) read

    pub rest_inside : Inside rows (record { first = (get_or rows e.first d).next; last = e.last; many = m })
    rest_inside k h = inside k (omega (arith, h, ap (times k) parted))

    pub first-numbered : numbered rows (forward rows e) ≡ (e.first, (get_or rows e.first d).tuple) ∷ numbered rows (trail (next_of rows) m (get_or rows e.first d).next)
    first-numbered = ap (numbered rows) parted ∙ ap (λ o. cons_option (option_map (λ t. (e.first, t)) (tuple_in o)) (numbered rows (trail (next_of rows) m (get_or rows e.first d).next))) read
