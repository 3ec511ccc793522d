-- What a write to one element changes, and what it keeps. Assumes nothing.
use Rattle.std.proofs.Common.{◌≡◌, ℕ, zero, suc, ◌<◌, Bool, true, false, cond, eqb, List, [], ◌∷◌, set, get_or, length, Some, Option, sym, refl, ap, ◌∙◌, inl, inr, arith, length-set}
use Rattle.std.specs.List.{slice_get}
use Rattle.std.proofs.lemmas.Option.{slice_get-get_or}
use Rattle.std.proofs.lemmas.Bool.{cases_eq, eq-eqb, ne_eqb, cond-true, cond-false}
use Rattle.tuples.specs.Tuples.{Tuple}
use Rattle.chained.specs.declared.row.ChainRow.{ChainRow}
use Rattle.chained.specs.Links.{next_in, prev_in, tuple_in, room_for, TupleStored, BeyondKept, Kept}
use Rattle.chained.specs.Steps.{led, LinksKept}

module _ {X : Type 0} where
  pub nth_set_same : (xs : List X) (j : ℕ) (x v : X) → slice_get xs j ≡ Some x → slice_get (set xs j v) j ≡ Some v
  nth_set_same [] j x v e = absurd (let z : ◌≡◌ {A = ℕ} 0 1 = cc in omega arith)
  nth_set_same (y ∷ ys) zero x v e = refl
  nth_set_same (y ∷ ys) (suc j) x v e = nth_set_same ys j x v e

  pub nth_set_other : (xs : List X) (j i : ℕ) (v : X) → (i ≡ j → ⊥) → slice_get (set xs j v) i ≡ slice_get xs i
  nth_set_other [] j i v n = refl
  nth_set_other (y ∷ ys) zero zero v n = absurd (n refl)
  nth_set_other (y ∷ ys) zero (suc i) v n = refl
  nth_set_other (y ∷ ys) (suc j) zero v n = refl
  nth_set_other (y ∷ ys) (suc j) (suc i) v n = nth_set_other ys j i v (λ e. n (ap suc e))

  -- what is seen of each element, where x is overwritten by v
  module _ {Y : Type 0} (seen : Option X → Y) (xs : List X) (at : ℕ) (x v : X) (here : slice_get xs at ≡ Some x) where
    pub write_keeps : seen (Some v) ≡ seen (Some x) → (i : ℕ) → seen (slice_get (set xs at v) i) ≡ seen (slice_get xs i)
    write_keeps same i = elim (cases_eq i at) [
      | inl e ↦ ap (λ k. seen (slice_get (set xs at v) k)) e ∙ ap seen (nth_set_same xs at x v here) ∙ same ∙ sym (ap seen here) ∙ ap (λ k. seen (slice_get xs k)) (sym e)
      | inr n ↦ ap seen (nth_set_other xs at i v n)
    ]

    pub write_changes : (y : Y) → seen (Some v) ≡ y → (i : ℕ) → seen (slice_get (set xs at v) i) ≡ cond (eqb i at) y (seen (slice_get xs i))
    write_changes y is i = elim (cases_eq i at) [
      | inl e ↦ ap (λ k. seen (slice_get (set xs at v) k)) e ∙ ap seen (nth_set_same xs at x v here) ∙ is ∙ sym (cond-true (eqb i at) y _ (eq-eqb i at e))
      | inr n ↦ ap seen (nth_set_other xs at i v n) ∙ sym (cond-false (eqb i at) y _ (ne_eqb i at n))
    ]

-- a row that is overwritten but for its tuple
pub set_keeps : (old : List ChainRow) (at : ℕ) (v d : ChainRow) → at < room_for old → v.tuple ≡ (get_or old at d).tuple → Kept old (set old at v)
set_keeps old at v d within tuple = record {
  tuples = write_keeps tuple_in old at _ v (slice_get-get_or old at d (omega arith)) (ap Some tuple);
  beyond = λ i h. nth_set_other old at i v (λ z. omega arith);
}

-- row `at` holds a tuple, and nothing else has changed
pub record Stored (old new : List ChainRow) (at : ℕ) (t : Tuple) : Type 0 where
  pub links : (i : ℕ) → LinksKept old new i
  pub tuples : TupleStored old new at t
  pub beyond : BeyondKept old new
  pub as_long : length new ≡ length old

pub stored : (old : List ChainRow) (at : ℕ) (t : Tuple) (d : ChainRow) → at < room_for old → Stored old (set old at (record { tuple = t; next = (get_or old at d).next; prev = (get_or old at d).prev })) at t
stored old at t d within =
    let here = slice_get-get_or old at d (omega arith) in
    record {
      links = λ i. (write_keeps next_in old at _ _ here refl i, write_keeps prev_in old at _ _ here refl i);
      tuples = write_changes tuple_in old at _ _ here (Some t) refl;
      beyond = λ i h. nth_set_other old at i _ (λ z. omega arith);
      as_long = length-set old at _;
    }

-- of row j the link `ours` now leads to row `to`, or no link is written where `none` is true; the links `theirs` are as they were
pub record Relinked (ours theirs : Option ChainRow → ℕ) (none : Bool) (j to : ℕ) (old new : List ChainRow) : Type 0 where
  pub written : (i : ℕ) → ours (slice_get new i) ≡ cond none (ours (slice_get old i)) (led (λ k. ours (slice_get old k)) j to i)
  pub same : (i : ℕ) → theirs (slice_get new i) ≡ theirs (slice_get old i)
  pub kept : Kept old new

module _ {ours theirs : Option ChainRow → ℕ} {none : Bool} {j to : ℕ} {old new : List ChainRow} where
  pub unlinked : none ≡ true → new ≡ old → Relinked ours theirs none j to old new
  unlinked n e = record {
    written = λ i. ap (λ r. ours (slice_get r i)) e ∙ sym (cond-true none _ _ n);
    same = λ i. ap (λ r. theirs (slice_get r i)) e;
    kept = record { tuples = λ i. ap (λ r. tuple_in (slice_get r i)) e; beyond = λ i h. ap (λ r. slice_get r i) e };
  }

  pub relinked : none ≡ false → (at : ℕ) (v d : ChainRow) → at ≡ j → at < room_for old → new ≡ set old at v → ours (Some v) ≡ to → theirs (Some v) ≡ theirs (Some (get_or old at d)) → v.tuple ≡ (get_or old at d).tuple → Relinked ours theirs none j to old new
  relinked n at v d same-row within e leads stays tuple =
      let here : slice_get old at ≡ Some (get_or old at d) = slice_get-get_or old at d (omega arith) in
      record {
        written = λ i. ap (λ r. ours (slice_get r i)) e ∙ write_changes ours old at _ v here to leads i ∙ ap (λ k. led (λ k. ours (slice_get old k)) k to i) same-row ∙ sym (cond-false none _ _ n);
        same = λ i. ap (λ r. theirs (slice_get r i)) e ∙ write_keeps theirs old at _ v here stays i;
        kept = rw e (set_keeps old at v d within tuple);
      }

pub kept_twice : {old mid new : List ChainRow} → Kept old mid → Kept mid new → Kept old new
kept_twice a b = record { tuples = λ i. b.tuples i ∙ a.tuples i; beyond = λ i h. b.beyond i h ∙ a.beyond i h }
