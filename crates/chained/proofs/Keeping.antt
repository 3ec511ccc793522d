-- What the chains hold before and after a put, a take and a clear. Assumes nothing.
use Rattle.std.proofs.Common.{◌≡◌, ℕ, ◌+◌, ◌<◌, ◌≤◌, min, Bool, true, false, cond, eqb, ltb, List, [], ◌∷◌, ◌++◌, length, IfSome, Some, None, Option, sym, refl, ap, ◌∙◌, arith}
use Rattle.std.specs.List.{slice_get}
use Rattle.std.specs.Option.{option_to_list}
use Rattle.std.proofs.lemmas.Bool.{eq-eqb, ne_eqb, lt-ltb, le-ltb, cond-true, cond-false}
use Rattle.tuples.specs.Tuples.{Tuple, Template}
use Rattle.tuples.specs.Matching.{matches}
use Rattle.rows.specs.Bags.{once}
use Rattle.rows.specs.Searches.{found, without}
use Rattle.chained.specs.declared.row.ChainRow.{ChainRow}
use Rattle.chained.specs.declared.ends.Ends.{Ends}
use Rattle.chained.specs.Links.{next_of, tuple_in, tuple_of, tuples_at, numbered, ends_of, rows_of, room_for, upto, total, TupleStored, BeyondKept}
use Rattle.chained.specs.Steps.{matches_at, Sound, Fresh, LinksKept, Moved}
use Rattle.chained.proofs.Trails.{times, in_apart, trail-length}
use Rattle.chained.proofs.Writing.{Stored}
use Rattle.chained.proofs.Totals.{total_le, total-one, total-same, total_none, total-more, many-upto}
use Rattle.chained.proofs.Linking.{some_rows, forward_kept, both_kept}
use Rattle.chained.proofs.Moving.{chain_inside, chains_apart}
use Rattle.chained.proofs.Walking.{first_there, trail-end}
use Rattle.chained.proofs.Holding.{found_in, without-found, tuples-append, tuples-length, tuple_found, tuples-found, numbered-length, tuples-without, tuples-same}

-- what the chains hold
abbrev pub held_at : List ChainRow → List Ends → ℕ → List Tuple
held_at rows ends c = tuples_at rows (rows_of rows ends c)

abbrev pub row_count : List Ends → ℕ
row_count ends = total 32 (λ c. (ends_of ends c).many)

module _ (rows : List ChainRow) (ends : List Ends) (sound : Sound rows ends) where
  pub held_length : (c : ℕ) → c < 33 → length (held_at rows ends c) ≡ (ends_of ends c).many
  held_length c l = tuples-length rows (rows_of rows ends c) (λ j h. omega (arith, chain_inside rows ends sound c l j h)) ∙ trail-length _ (ends_of ends c).many (ends_of ends c).first

  pub numbered_count : (c : ℕ) → c < 33 → length (numbered rows (rows_of rows ends c)) ≡ (ends_of ends c).many
  numbered_count c l = numbered-length rows (rows_of rows ends c) (λ j h. omega (arith, chain_inside rows ends sound c l j h)) ∙ trail-length _ (ends_of ends c).many (ends_of ends c).first

  pub chain_few : (c : ℕ) → c < 33 → length (numbered rows (rows_of rows ends c)) ≤ 4096
  chain_few c l = omega (arith, numbered_count c l, total_le 33 c (λ c. (ends_of ends c).many) l, sound.all)

  pub held_count : row_count ends ≡ total 32 (λ c. length (held_at rows ends c))
  held_count = total-same 32 (λ c. length (held_at rows ends c)) (λ c. (ends_of ends c).many) (λ c l. sym (held_length c (omega arith)))

  -- the rows in the chains of the sites, and the free ones
  pub all_rows : row_count ends + (ends_of ends 32).many ≡ room_for rows
  all_rows = sym (total-more 32 (λ c. (ends_of ends c).many)) ∙ sound.all

  pub full : (ends_of ends 32).many ≡ 0 → false ≡ ltb (total 32 (λ c. length (held_at rows ends c))) (room_for rows)
  full e = sym (le-ltb _ (room_for rows) (omega (arith, held_count, all_rows, e)))

  pub not_full : 0 < (ends_of ends 32).many → true ≡ ltb (total 32 (λ c. length (held_at rows ends c))) (room_for rows)
  not_full h = sym (lt-ltb _ (room_for rows) (omega (arith, held_count, all_rows, h)))

-- a memory whose rows keep their links, and so its chains
module _ (rows new : List ChainRow) (ends : List Ends) (sound : Sound rows ends) (links : (i : ℕ) → LinksKept rows new i) (len : length new ≡ length rows) where
  rows_same : (c : ℕ) → c < 33 → rows_of new ends c ≡ rows_of rows ends c
  rows_same c l = forward_kept rows new (ends_of ends c) (sound.both c l) (λ j h. links j)

  counts_same : (k : ℕ) → times k (upto 33 (rows_of new ends)) ≡ times k (upto 33 (rows_of rows ends))
  counts_same k = upto-many k 33 (λ c l. ap (times k) (rows_same c l))
    where
      upto-many : (k n : ℕ) → ((c : ℕ) → c < n → times k (rows_of new ends c) ≡ times k (rows_of rows ends c)) → times k (upto n (rows_of new ends)) ≡ times k (upto n (rows_of rows ends))
      upto-many k n h = many-upto (eqb k) n (rows_of new ends) ∙ total-same n (λ c. times k (rows_of rows ends c)) (λ c. times k (rows_of new ends c)) h ∙ sym (many-upto (eqb k) n (rows_of rows ends))

  pub sound_kept : Sound new ends
  sound_kept = record {
    count = sound.count;
    each = λ k. counts_same k ∙ sound.each k ∙ ap (λ n. once (ltb k (min n 4096))) (sym len);
    all = sound.all ∙ ap (λ n. min n 4096) (sym len);
    both = λ c l. both_kept rows new (ends_of ends c) (sound.both c l) (λ j h. links j);
  }

-- a search in a chain finds a linked row
module _ (rows : List ChainRow) (ends : List Ends) (sound : Sound rows ends) (c : ℕ) (low : c < 33) (p : ℕ → Bool) where
  pub found_within : (o : Option ℕ) → o ≡ found p (rows_of rows ends c) → IfSome o (λ i. i < room_for rows)
  found_within None e = tt
  found_within (Some i) e = chain_inside rows ends sound c low i (found_in p i (rows_of rows ends c) (sym e))

-- the first free row, and how much room there is
module _ (rows : List ChainRow) (ends : List Ends) (sound : Sound rows ends) where
  pub first-free : 0 < (ends_of ends 32).many → 0 < times (ends_of ends 32).first (rows_of rows ends 32)
  first-free some = first_there (next_of rows) (ends_of ends 32).many (ends_of ends 32).first some

  pub free-within : 0 < (ends_of ends 32).many → (ends_of ends 32).first < room_for rows
  free-within some = chain_inside rows ends sound 32 (omega arith) (ends_of ends 32).first (first-free some)

  pub count_small : row_count ends ≤ 4096
  count_small = omega (arith, all_rows rows ends sound)

  pub count_some : (site at : ℕ) → site < 32 → 0 < times at (rows_of rows ends site) → 0 < row_count ends
  count_some site at low here = omega (arith, some_rows (next_of rows) (ends_of ends site).many (ends_of ends site).first at here, total_le 32 site (λ c. (ends_of ends c).many) low)

-- what a put leaves: row `at` has gone from the free rows behind the site's chain, and holds the tuple
pub record PutIn (rows : List ChainRow) (ends : List Ends) (site at : ℕ) (t : Tuple) (new : List ChainRow) (after : List Ends) : Type 0 where
  pub sound : Sound new after
  pub here : held_at new after site ≡ held_at rows ends site ++ (t ∷ [])
  pub rest : (c : ℕ) → c < 32 → (c ≡ site → ⊥) → held_at new after c ≡ held_at rows ends c
  pub count : row_count after ≡ row_count ends + 1
  pub stored : TupleStored rows new at t
  pub beyond : BeyondKept rows new

module _ (rows mid new : List ChainRow) (ends after : List Ends) (site at : ℕ) (t : Tuple) (sound : Sound rows ends) (low : site < 32) (free : 0 < times at (rows_of rows ends 32)) (moved : Moved rows ends mid after 32 at site) where
  -- it has moved, and then the tuple has been written
  module _ (links : (i : ℕ) → LinksKept mid new i) (tuples : TupleStored mid new at t) (len : length new ≡ length mid) where
    off_site : (c : ℕ) → c < 32 → times at (rows_of rows ends c) ≡ 0
    off_site c l = chains_apart rows ends sound 32 c (omega arith) (omega arith) (λ z. omega arith) at free

    tuples_stored : TupleStored rows new at t
    tuples_stored i = tuples i ∙ ap (cond (eqb i at) (Some t)) (moved.kept.tuples i)

    old_tuples : (c : ℕ) → c < 32 → tuples_at new (rows_of rows ends c) ≡ held_at rows ends c
    old_tuples c l = tuples-same rows new (rows_of rows ends c) (λ j h. tuples_stored j ∙ cond-false (eqb j at) (Some t) (tuple_of rows j) (ne_eqb j at (in_apart j at (rows_of rows ends c) (off_site c l) h)))

    new_rows : (c : ℕ) → c < 33 → rows_of new after c ≡ rows_of mid after c
    new_rows c l = forward_kept mid new (ends_of after c) (moved.sound.both c l) (λ j h. links j)

    pub put_sound : Sound new after
    put_sound = sound_kept mid new after moved.sound links len

    pub put_here : held_at new after site ≡ held_at rows ends site ++ (t ∷ [])
    put_here =
        let here : tuple_of new at ≡ Some t = tuples_stored at ∙ cond-true (eqb at at) (Some t) (tuple_of rows at) (eq-eqb at at refl) in
        ap (tuples_at new) (new_rows site (omega arith) ∙ moved.come) ∙ tuples-append new (rows_of rows ends site) (at ∷ []) ∙ ap (λ ts. ts ++ tuples_at new (at ∷ [])) (old_tuples site low) ∙ ap (λ o. held_at rows ends site ++ (option_to_list o ++ [])) here

    pub put_rest : (c : ℕ) → c < 32 → (c ≡ site → ⊥) → held_at new after c ≡ held_at rows ends c
    put_rest c l d = ap (tuples_at new) (new_rows c (omega arith) ∙ moved.rest c (omega arith) (λ z. omega arith) d) ∙ old_tuples c l

    pub put_count : row_count after ≡ row_count ends + 1
    put_count = omega (arith, total-one 32 site (λ c. (ends_of ends c).many) (λ c. (ends_of after c).many) low (λ c l d. ap (λ e. e.many) (moved.others c (λ z. omega arith) d)), moved.more)

  pub put_in : Stored mid new at t → PutIn rows ends site at t new after
  put_in w = record {
    sound = put_sound w.links w.tuples w.as_long;
    here = put_here w.links w.tuples w.as_long;
    rest = put_rest w.links w.tuples w.as_long;
    count = put_count w.links w.tuples w.as_long;
    stored = tuples_stored w.links w.tuples w.as_long;
    beyond = λ i h. w.beyond i h ∙ moved.kept.beyond i h;
  }

-- what a take leaves: row `at`, the first that matches, has gone from the site's chain behind the free rows
pub record TakenFrom (rows : List ChainRow) (ends : List Ends) (site : ℕ) (m : Template) (new : List ChainRow) (after : List Ends) : Type 0 where
  pub here : held_at new after site ≡ without (matches m) (held_at rows ends site)
  pub rest : (c : ℕ) → c < 32 → (c ≡ site → ⊥) → held_at new after c ≡ held_at rows ends c
  pub count : row_count after + 1 ≡ row_count ends

pub taken_from : (rows new : List ChainRow) (ends after : List Ends) (site at : ℕ) (m : Template) → site < 32 → Some at ≡ found (matches_at rows m) (rows_of rows ends site) → Moved rows ends new after site at 32 → TakenFrom rows ends site m new after
taken_from rows new ends after site at m low is_found moved = record {
  here = ap (tuples_at new) (moved.gone ∙ without-found (matches_at rows m) at (rows_of rows ends site) (sym is_found)) ∙ tuples-same rows new (without (matches_at rows m) (rows_of rows ends site)) (λ j h. moved.kept.tuples j) ∙ tuples-without rows m (rows_of rows ends site);
  rest = λ c l d. ap (tuples_at new) (moved.rest c (omega arith) d (λ z. omega arith)) ∙ tuples-same rows new (rows_of rows ends c) (λ j h. moved.kept.tuples j);
  count = omega (arith, total-one 32 site (λ c. (ends_of ends c).many) (λ c. (ends_of after c).many) low (λ c l d. ap (λ e. e.many) (moved.others c d (λ z. omega arith))), moved.fewer);
}

-- what a search among rows says of their tuples
module _ (rows : List ChainRow) (is : List ℕ) (m : Template) where
  pub none_got : None ≡ found (matches_at rows m) is → None ≡ found (matches m) (tuples_at rows is)
  none_got e = ap (tuple_found rows m) e ∙ sym (tuples-found rows m is)

  pub peek_got : (at : ℕ) (row : ChainRow) → Some at ≡ found (matches_at rows m) is → slice_get rows at ≡ Some row → Some row.tuple ≡ found (matches m) (tuples_at rows is)
  peek_got at row e read = sym (ap tuple_in read) ∙ ap (tuple_found rows m) e ∙ sym (tuples-found rows m is)

pub fresh_count : (rows : List ChainRow) (ends : List Ends) → Fresh rows ends → 0 ≡ row_count ends
fresh_count rows ends f = sym (total-same 32 (λ _. 0) (λ c. (ends_of ends c).many) f.empty ∙ total_none 32)

pub fresh_held : (rows : List ChainRow) (ends : List Ends) → Fresh rows ends → (c : ℕ) → c < 32 → held_at rows ends c ≡ []
fresh_held rows ends f c l = ap (tuples_at rows) (trail-end _ (ends_of ends c).many (ends_of ends c).first (omega (arith, f.empty c l)))
