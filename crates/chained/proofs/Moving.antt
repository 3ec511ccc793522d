-- The 33 chains of a memory, as a row moves from one to the end of another. Assumes nothing.
use Rattle.std.proofs.Common.{◌≡◌, ℕ, ◌+◌, ◌<◌, ◌≤◌, min, Bool, true, false, eqb, ltb, List, [], ◌∷◌, ◌++◌, length, set, sym, refl, ap, ◌∙◌, inl, inr, arith, length-set, get_or-set_other, get_or-set_same}
use Rattle.std.proofs.lemmas.Bool.{cases_eq, cases_lt, le-ltb}
use Rattle.rows.specs.Bags.{once}
use Rattle.rows.specs.Searches.{without}
use Rattle.rows.proofs.Counting.{many-append}
use Rattle.chained.specs.declared.row.ChainRow.{ChainRow}
use Rattle.chained.specs.declared.ends.Ends.{Ends}
use Rattle.chained.specs.Links.{forward, ends_of, rows_of, room_for, upto, total, BothWays, Kept}
use Rattle.chained.specs.Steps.{Single, Inside, SoundChain, Sound, LinksKept, Moved}
use Rattle.chained.proofs.Trails.{times, once-self, in_apart}
use Rattle.chained.proofs.Chaining.{times_without}
use Rattle.chained.proofs.Totals.{total_le, total_two, total_moved, many-upto}
use Rattle.chained.proofs.Linking.{some_rows, forward_kept, both_kept}

once_le : (b : Bool) → once b ≤ 1
once_le true = omega arith
once_le false = omega arith

module _ (rows : List ChainRow) (ends : List Ends) (sound : Sound rows ends) where
  times_all : (k : ℕ) → total 33 (λ c. times k (rows_of rows ends c)) ≡ once (ltb k (room_for rows))
  times_all k = sym (many-upto (eqb k) 33 (rows_of rows ends)) ∙ sound.each k

  pub chain_single : (c : ℕ) → c < 33 → Single rows (ends_of ends c)
  chain_single c l k = omega (arith, total_le 33 c (λ d. times k (rows_of rows ends d)) l, times_all k, once_le (ltb k (room_for rows)))

  pub chain_inside : (c : ℕ) → c < 33 → Inside rows (ends_of ends c)
  chain_inside c l k h = elim (cases_lt k (room_for rows)) [
    | inl b ↦ b
    | inr b ↦
        let none : once (ltb k (room_for rows)) ≡ 0 = ap once (le-ltb k (room_for rows) b) in
        absurd (omega (arith, total_le 33 c (λ d. times k (rows_of rows ends d)) l, times_all k, none, h))
  ]

  pub sound_chain : (c : ℕ) → c < 33 → SoundChain rows (ends_of ends c)
  sound_chain c l = record { both = sound.both c l; single = chain_single c l; inside = chain_inside c l }

  pub chains_apart : (c d : ℕ) → c < 33 → d < 33 → (d ≡ c → ⊥) → (k : ℕ) → 0 < times k (rows_of rows ends c) → times k (rows_of rows ends d) ≡ 0
  chains_apart c d lc ld ne k h = omega (arith, total_two 33 c d (λ b. times k (rows_of rows ends b)) lc ld ne, times_all k, once_le (ltb k (room_for rows)))

  pub chains_few : (c d : ℕ) → c < 33 → d < 33 → (d ≡ c → ⊥) → (ends_of ends c).many + (ends_of ends d).many ≤ 4096
  chains_few c d lc ld ne = omega (arith, total_two 33 c d (λ b. (ends_of ends b).many) lc ld ne, sound.all)

  -- row `at` of chain `from` has been taken out, which leaves the ends `left`
  module _ (from at to : ℕ) (lf : from < 33) (lt : to < 33) (ne : to ≡ from → ⊥) (here : 0 < times at (rows_of rows ends from)) (mid : List ChainRow) (out : (i : ℕ) → times i (rows_of rows ends from) ≡ 0 → LinksKept rows mid i) where
    from_to : (k : ℕ) → 0 < times k (rows_of rows ends to) → times k (rows_of rows ends from) ≡ 0
    from_to k h = chains_apart to from lt lf (λ z. ne (sym z)) k h

    pub to_kept : forward mid (ends_of ends to) ≡ rows_of rows ends to
    to_kept = forward_kept rows mid (ends_of ends to) (sound.both to lt) (λ j h. out j (from_to j h))

    pub to_both : BothWays mid (ends_of ends to)
    to_both = both_kept rows mid (ends_of ends to) (sound.both to lt) (λ j h. out j (from_to j h))

    pub to_single : Single mid (ends_of ends to)
    to_single k = omega (arith, ap (times k) to_kept, chain_single to lt k)

    pub to_inside : length mid ≡ length rows → Inside mid (ends_of ends to)
    to_inside len k h = omega (arith, len, chain_inside to lt k (omega (arith, ap (times k) to_kept, h)))

    pub to_chain : length mid ≡ length rows → SoundChain mid (ends_of ends to)
    to_chain len = record { both = to_both; single = to_single; inside = to_inside len }

    to_alone_before : times at (rows_of rows ends to) ≡ 0
    to_alone_before = chains_apart from to lf lt ne at here

    pub to_alone : times at (forward mid (ends_of ends to)) ≡ 0
    to_alone = ap (times at) to_kept ∙ to_alone_before

    pub to_few : (ends_of ends to).many < 4096
    to_few = omega (arith, chains_few from to lf lt ne, some_rows _ (ends_of ends from).many _ at here)

    -- and has been put behind chain `to`, which then has the ends `joined`
    module _ (new : List ChainRow) (left joined : Ends) (gone : forward mid left ≡ without (eqb at) (rows_of rows ends from)) (left_both : BothWays mid left) (fewer : left.many + 1 ≡ (ends_of ends from).many) (come : forward new joined ≡ forward mid (ends_of ends to) ++ (at ∷ [])) (joined-both : BothWays new joined) (more : joined.many ≡ (ends_of ends to).many + 1) (on : (i : ℕ) → times i (forward mid (ends_of ends to)) ≡ 0 → (i ≡ at → ⊥) → LinksKept mid new i) (len : length new ≡ length rows) where
      at_from : ends_of (set (set ends from left) to joined) from ≡ left
      at_from = get_or-set_other (set ends from left) to from joined _ (λ z. ne (sym z)) ∙ get_or-set_same ends from left _ (omega (arith, sound.count))

      at_to : ends_of (set (set ends from left) to joined) to ≡ joined
      at_to = get_or-set_same (set ends from left) to joined _ (omega (arith, sound.count, length-set ends from left))

      at_other : (c : ℕ) → (c ≡ from → ⊥) → (c ≡ to → ⊥) → ends_of (set (set ends from left) to joined) c ≡ ends_of ends c
      at_other c f t = get_or-set_other (set ends from left) to c joined _ t ∙ get_or-set_other ends from c left _ f

      -- the rows that stay in `from`
      stays : (j : ℕ) → 0 < times j (forward mid left) → LinksKept mid new j
      stays j h =
          let less = times_without at (rows_of rows ends from) here in
          let e : times j (forward mid left) ≡ times j (without (eqb at) (rows_of rows ends from)) = ap (times j) gone in
          let some : 0 < times j (rows_of rows ends from) = omega (arith, h, e, less j) in
          let off : j ≡ at → ⊥ = λ z. (
          let q : times j (without (eqb at) (rows_of rows ends from)) ≡ times at (without (eqb at) (rows_of rows ends from)) = ap (λ w. times w (without (eqb at) (rows_of rows ends from))) z in
          omega (arith, h, e, q, less at, chain_single from lf at, once-self at at refl)
          ) in
          on j (ap (times j) to_kept ∙ chains_apart from to lf lt ne j some) off

      -- the rows of another chain
      others_mid : (c : ℕ) → c < 33 → (c ≡ from → ⊥) → (j : ℕ) → 0 < times j (rows_of rows ends c) → LinksKept rows mid j
      others_mid c l f j h = out j (chains_apart c from l lf (λ z. f (sym z)) j h)

      mid_same : (c : ℕ) → c < 33 → (c ≡ from → ⊥) → forward mid (ends_of ends c) ≡ rows_of rows ends c
      mid_same c l f = forward_kept rows mid (ends_of ends c) (sound.both c l) (others_mid c l f)

      others_new : (c : ℕ) → c < 33 → (c ≡ from → ⊥) → (c ≡ to → ⊥) → (j : ℕ) → 0 < times j (forward mid (ends_of ends c)) → LinksKept mid new j
      others_new c l f t j h =
          let e : times j (forward mid (ends_of ends c)) ≡ times j (rows_of rows ends c) = ap (times j) (mid_same c l f) in
          let some : 0 < times j (rows_of rows ends c) = omega (arith, h, e) in
          on j (ap (times j) to_kept ∙ chains_apart c to l lt (λ z. t (sym z)) j some) (λ z. in_apart j at (rows_of rows ends c) (chains_apart from c lf l f at here) some z)

      other_both : (c : ℕ) → c < 33 → (c ≡ from → ⊥) → BothWays mid (ends_of ends c)
      other_both c l f = both_kept rows mid (ends_of ends c) (sound.both c l) (others_mid c l f)

      rows_from : rows_of new (set (set ends from left) to joined) from ≡ without (eqb at) (rows_of rows ends from)
      rows_from = ap (forward new) at_from ∙ forward_kept mid new left left_both stays ∙ gone

      rows_to : rows_of new (set (set ends from left) to joined) to ≡ rows_of rows ends to ++ (at ∷ [])
      rows_to = ap (forward new) at_to ∙ come ∙ ap (λ xs. xs ++ (at ∷ [])) to_kept

      rows_other : (c : ℕ) → c < 33 → (c ≡ from → ⊥) → (c ≡ to → ⊥) → rows_of new (set (set ends from left) to joined) c ≡ rows_of rows ends c
      rows_other c l f t = ap (forward new) (at_other c f t) ∙ forward_kept mid new (ends_of ends c) (other_both c l f) (others_new c l f t) ∙ mid_same c l f

      all_both : (c : ℕ) → c < 33 → BothWays new (ends_of (set (set ends from left) to joined) c)
      all_both c l = elim (cases_eq c from) [
        | inl z ↦
            let e : left ≡ ends_of (set (set ends from left) to joined) c = sym (ap (ends_of (set (set ends from left) to joined)) z ∙ at_from) in
            rw e at (both_kept mid new left left_both stays)
        | inr f ↦ elim (cases_eq c to) [
          | inl z ↦
              let e : joined ≡ ends_of (set (set ends from left) to joined) c = sym (ap (ends_of (set (set ends from left) to joined)) z ∙ at_to) in
              rw e at joined-both
          | inr t ↦
              let e : ends_of ends c ≡ ends_of (set (set ends from left) to joined) c = sym (at_other c f t) in
              rw e at (both_kept mid new (ends_of ends c) (other_both c l f) (others_new c l f t))
        ]
      ]

      -- rows of chain c before and after, as often as k stands in them
      every : (k : ℕ) → times k (upto 33 (rows_of new (set (set ends from left) to joined))) ≡ once (ltb k (room_for new))
      every k =
          let less : times k (rows_of new (set (set ends from left) to joined) from) + once (eqb k at) ≡ times k (rows_of rows ends from) = ap (λ xs. times k xs + once (eqb k at)) rows_from ∙ times_without at (rows_of rows ends from) here k in
          let plus : times k (rows_of new (set (set ends from left) to joined) to) ≡ times k (rows_of rows ends to) + once (eqb k at) = (let e : times k (rows_of new (set (set ends from left) to joined) to) ≡ times k (rows_of rows ends to ++ (at ∷ [])) = ap (times k) rows_to in omega (arith, e, many-append (eqb k) (rows_of rows ends to) (at ∷ []))) in
          let same : total 33 (λ c. times k (rows_of new (set (set ends from left) to joined) c)) ≡ total 33 (λ c. times k (rows_of rows ends c)) = total_shared k less plus in
          many-upto (eqb k) 33 (rows_of new (set (set ends from left) to joined)) ∙ same ∙ times_all k ∙ ap (λ n. once (ltb k (min n 4096))) (sym len)
        where
          total_shared : (k : ℕ) → times k (rows_of new (set (set ends from left) to joined) from) + once (eqb k at) ≡ times k (rows_of rows ends from) → times k (rows_of new (set (set ends from left) to joined) to) ≡ times k (rows_of rows ends to) + once (eqb k at) → total 33 (λ c. times k (rows_of new (set (set ends from left) to joined) c)) ≡ total 33 (λ c. times k (rows_of rows ends c))
          total_shared k less plus = total_moved 33 from to (λ c. times k (rows_of rows ends c)) (λ c. times k (rows_of new (set (set ends from left) to joined) c)) (once (eqb k at)) lf lt ne (λ c l f t. ap (times k) (rows_other c l f t)) less plus

      pub moved : Kept rows new → Moved rows ends new (set (set ends from left) to joined) from at to
      moved kept =
          let less : (ends_of (set (set ends from left) to joined) from).many + 1 ≡ (ends_of ends from).many = ap (λ e. e.many + 1) at_from ∙ fewer in
          let plus : (ends_of (set (set ends from left) to joined) to).many ≡ (ends_of ends to).many + 1 = ap (λ e. e.many) at_to ∙ more in
          record {
            sound = record {
              count = length-set (set ends from left) to joined ∙ length-set ends from left ∙ sound.count;
              each = every;
              all = total_moved 33 from to (λ c. (ends_of ends c).many) (λ c. (ends_of (set (set ends from left) to joined) c).many) 1 lf lt ne (λ c l f t. ap (λ e. e.many) (at_other c f t)) less plus ∙ sound.all ∙ ap (λ n. min n 4096) (sym len);
              both = all_both;
            };
            gone = rows_from;
            come = rows_to;
            rest = rows_other;
            fewer = less;
            more = plus;
            others = at_other;
            kept = kept;
          }
