-- Rows of memory whose links are rewritten as a row leaves a chain or joins one. Assumes nothing.
use Rattle.std.proofs.Common.{◌≡◌, ℕ, zero, suc, ◌+◌, ◌-◌, ◌<◌, false, cond, eqb, List, [], ◌∷◌, ◌++◌, reverse, sym, refl, ap, ◌∙◌, inl, inr, arith, add-one}
use Rattle.std.proofs.lemmas.Bool.{cases_eq, eq-eqb, ne_eqb, cond-true, cond-false}
use Rattle.rows.specs.Searches.{without}
use Rattle.chained.specs.declared.row.ChainRow.{ChainRow}
use Rattle.chained.specs.declared.ends.Ends.{Ends}
use Rattle.chained.specs.Links.{next_in, prev_in, next_of, prev_of, trail, forward, backward, room_for, BothWays, Kept}
use Rattle.chained.specs.Steps.{led, Single, Inside, LinksKept}
use Rattle.chained.proofs.Trails.{times, in_apart, led_off, trail_kept}
use Rattle.chained.proofs.Writing.{Relinked, kept_twice}
use Rattle.chained.proofs.Chaining.{turned, times_back, before_in, last_in, detached, attached}

pub some_rows : (f : ℕ → ℕ) (n i x : ℕ) → 0 < times x (trail f n i) → 0 < n
some_rows f zero i x h = absurd (omega arith)
some_rows f (suc n) i x h = omega arith

-- a row of a chain
module _ (rows : List ChainRow) (e : Ends) (at : ℕ) (both : BothWays rows e) (here : 0 < times at (forward rows e)) where
  -- the rows beside it lie in the chain
  prev_on_chain : (at ≡ e.first → ⊥) → 0 < times (prev_of rows at) (forward rows e)
  prev_on_chain off = before_in (next_of rows) (prev_of rows) e.many e.first e.last both at here off

  next_on_chain : (at ≡ e.last → ⊥) → 0 < times (next_of rows at) (forward rows e)
  next_on_chain off =
      let count = times_back (next_of rows) (prev_of rows) e.many e.first e.last both in
      let some = before_in (prev_of rows) (next_of rows) e.many e.last e.first (turned (next_of rows) (prev_of rows) e.many e.first e.last both) at (omega (arith, here, count at)) off in
      omega (arith, some, count (next_of rows at))

  pub prev_inside : Inside rows e → (at ≡ e.first → ⊥) → prev_of rows at < room_for rows
  prev_inside inside off = inside (prev_of rows at) (prev_on_chain off)

  pub next_inside : Inside rows e → (at ≡ e.last → ⊥) → next_of rows at < room_for rows
  next_inside inside off = inside (next_of rows at) (next_on_chain off)

  pub record TakenOut (new : List ChainRow) (r : Ends) : Type 0 where
    pub gone : forward new r ≡ without (eqb at) (forward rows e)
    pub two_way : BothWays new r
    pub fewer : r.many + 1 ≡ e.many
    pub rest : (i : ℕ) → times i (forward rows e) ≡ 0 → LinksKept rows new i
    pub kept : Kept rows new

  -- the row before it leads past it, and then the row behind it leads back past it
  module _ (single : Single rows e) (mid new : List ChainRow) (first last : ℕ) (is-first : first ≡ cond (eqb at e.first) (next_of rows at) e.first) (is_last : last ≡ cond (eqb at e.last) (prev_of rows at) e.last) (on : Relinked next_in prev_in (eqb at e.first) (prev_of rows at) (next_of rows at) rows mid) (back : Relinked prev_in next_in (eqb at e.last) (next_of rows at) (prev_of rows at) mid new) where
    nexts : (j : ℕ) → next_of new j ≡ cond (eqb at e.first) (next_of rows j) (led (next_of rows) (prev_of rows at) (next_of rows at) j)
    nexts j = back.same j ∙ on.written j

    prevs : (j : ℕ) → prev_of new j ≡ cond (eqb at e.last) (prev_of rows j) (led (prev_of rows) (next_of rows at) (prev_of rows at) j)
    prevs j = back.written j ∙ ap (λ p. cond (eqb at e.last) p (cond (eqb j (next_of rows at)) (prev_of rows at) p)) (on.same j)

    pub taken_out : TakenOut new (record { first = first; last = last; many = e.many - 1 })
    taken_out =
        let some : 0 < e.many = some_rows (next_of rows) e.many e.first at here in
        let one : suc (e.many - 1) ≡ e.many = omega arith in
        let d = detached (next_of rows) (prev_of rows) (next_of new) (prev_of new) (e.many - 1) e.first e.last at e.many one both single here nexts prevs in
        record {
          gone = ap (trail (next_of new) (e.many - 1)) is-first ∙ d.forth;
          two_way = ap (trail (prev_of new) (e.many - 1)) is_last ∙ d.back ∙ ap (λ z. reverse (trail (next_of new) (e.many - 1) z)) (sym is-first);
          fewer = omega arith;
          rest = λ i off. (
            elim (cases_eq at e.first) [
              | inl z ↦ nexts i ∙ cond-true (eqb at e.first) _ _ (eq-eqb at e.first z)
              | inr z ↦ nexts i ∙ cond-false (eqb at e.first) (next_of rows i) _ (ne_eqb at e.first z) ∙ led_off (next_of rows) (prev_of rows at) (next_of rows at) i (λ w. in_apart (prev_of rows at) i (forward rows e) off (prev_on_chain z) (sym w))
            ],
            elim (cases_eq at e.last) [
              | inl z ↦ prevs i ∙ cond-true (eqb at e.last) _ _ (eq-eqb at e.last z)
              | inr z ↦ prevs i ∙ cond-false (eqb at e.last) (prev_of rows i) _ (ne_eqb at e.last z) ∙ led_off (prev_of rows) (next_of rows at) (prev_of rows at) i (λ w. in_apart (next_of rows at) i (forward rows e) off (next_on_chain z) (sym w))
            ],
          );
          kept = kept_twice on.kept back.kept;
        }

-- a row that is put behind a chain
module _ (rows : List ChainRow) (e : Ends) (at : ℕ) (both : BothWays rows e) where
  last_in_chain : 0 < e.many → 0 < times e.last (forward rows e)
  last_in_chain h = last_in (next_of rows) (prev_of rows) e.many e.first e.last both h

  pub last_inside : Inside rows e → 0 < e.many → e.last < room_for rows
  last_inside inside h = inside e.last (last_in_chain h)

  pub record PutBehind (new : List ChainRow) (r : Ends) : Type 0 where
    pub come : forward new r ≡ forward rows e ++ (at ∷ [])
    pub two_way : BothWays new r
    pub more : r.many ≡ e.many + 1
    pub rest : (i : ℕ) → times i (forward rows e) ≡ 0 → (i ≡ at → ⊥) → LinksKept rows new i
    pub kept : Kept rows new

  -- the last row leads on to it, and then it leads back to the last row
  module _ (single : Single rows e) (alone : times at (forward rows e) ≡ 0) (mid new : List ChainRow) (first : ℕ) (is-first : first ≡ cond (eqb e.many 0) at e.first) (on : Relinked next_in prev_in (eqb e.many 0) e.last at rows mid) (back : Relinked prev_in next_in false at e.last mid new) where
    on_nexts : (j : ℕ) → next_of new j ≡ cond (eqb e.many 0) (next_of rows j) (led (next_of rows) e.last at j)
    on_nexts j = back.same j ∙ on.written j

    on_prevs : (j : ℕ) → prev_of new j ≡ led (prev_of rows) at e.last j
    on_prevs j = back.written j ∙ ap (λ p. cond (eqb j at) e.last p) (on.same j)

    pub put_behind : PutBehind new (record { first = first; last = at; many = e.many + 1 })
    put_behind =
        let a = attached (next_of rows) (prev_of rows) (next_of new) (prev_of new) e.first e.last at e.many both single alone on_nexts on_prevs in
        let forth : trail (next_of new) (e.many + 1) first ≡ trail (next_of new) (suc e.many) (cond (eqb e.many 0) at e.first) = (λ t. trail (next_of new) (add-one e.many t) (is-first t)) in
        record {
          come = forth ∙ a.forth;
          two_way = ap (λ n. trail (prev_of new) n at) (add-one e.many) ∙ a.back ∙ ap reverse (sym forth);
          more = refl;
          rest = λ i off other. (
            elim (cases_eq e.many 0) [
              | inl z ↦ on_nexts i ∙ cond-true (eqb e.many 0) _ _ (eq-eqb e.many 0 z)
              | inr z ↦ on_nexts i ∙ cond-false (eqb e.many 0) (next_of rows i) _ (ne_eqb e.many 0 z) ∙ led_off (next_of rows) e.last at i (λ w. in_apart e.last i (forward rows e) off (last_in_chain (omega arith)) (sym w))
            ],
            on_prevs i ∙ led_off (prev_of rows) at e.last i other,
          );
          kept = kept_twice on.kept back.kept;
        }

-- a chain whose rows keep their links
module _ (rows new : List ChainRow) (e : Ends) (both : BothWays rows e) (kept : (j : ℕ) → 0 < times j (forward rows e) → LinksKept rows new j) where
  pub forward_kept : forward new e ≡ forward rows e
  forward_kept = trail_kept (next_of rows) (next_of new) e.many e.first (λ j h. (kept j h).0)

  pub both_kept : BothWays new e
  both_kept =
      let back : backward new e ≡ backward rows e = trail_kept (prev_of rows) (prev_of new) e.many e.last (λ j h. (kept j (omega (arith, h, times_back (next_of rows) (prev_of rows) e.many e.first e.last both j))).1) in
      back ∙ both ∙ ap reverse (sym forward_kept)
