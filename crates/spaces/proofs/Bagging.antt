-- Copies at sites that a bag of located tuples has, gains and loses. Assumes nothing.
use Rattle.std.proofs.Common.{◌≡◌, ℕ, ◌<◌, ◌≤◌, true, eqb, leb, List, Ok, Err, Decides, sym, refl, ap, arith}
use Rattle.std.proofs.lemmas.Bool.{eqb-true, le-leb, lt-ltb, le-ltb, and_parts}
use Rattle.std.proofs.lemmas.Bool.Decides.{Decides-and, Decides-like, Decides-eqb}
use Rattle.tuples.specs.Tuples.{Tuple, Template, same_tuple}
use Rattle.tuples.specs.Matching.{matches}
use Rattle.tuples.proofs.Padding.{same_tuple-decides}
use Rattle.rows.specs.Bags.{once, many, Same, Gains}
use Rattle.rows.proofs.Counting.{many_implied, same-from-copies}
use Rattle.spaces.specs.declared.space.PutRefusal.TheVariants.{NoSuchSite, Full}
use Rattle.spaces.specs.Spaces.{Located, Bounded, at, hits, is, copies}
use Rattle.spaces.specs.Answers.{put_answer}

pub located-told : (x : Located) (s : ℕ) (t : Tuple) → x.site ≡ s → x.tuple ≡ t → x ≡ at s t
located-told x s t e f i = record { site = e i; tuple = f i }

-- the test for a tuple at a site tells it apart
pub is-decides : (s : ℕ) (t : Tuple) (x : Located) → Decides (is s t x) (at s t ≡ x)
is-decides s t x =
    let both = Decides-and (eqb x.site s) (same_tuple x.tuple t) (Decides-eqb x.site s) (same_tuple-decides x.tuple t) in
    Decides-like _ (λ e. sym (located-told x s t e.0 e.1)) (λ e. (sym (ap (λ y. y.site) e), sym (ap (λ y. y.tuple) e))) both

pub told_by_copies_lem : (xs ys : List Located) → ((s : ℕ) (t : Tuple) → copies ys s t ≡ copies xs s t) → Same xs ys
told_by_copies_lem xs ys h = same-from-copies (λ x y. is x.site x.tuple y) (λ x y. is-decides x.site x.tuple y) xs ys (λ x. h x.site x.tuple)

-- what was put in is there
pub gains_copies : (s : ℕ) (t : Tuple) (xs ys : List Located) → Gains (at s t) xs ys → 0 < copies ys s t
gains_copies s t xs ys g =
    let one : once (is s t (at s t)) ≡ 1 = ap once ((is-decides s t (at s t)).1 refl) in
    omega (arith, g (is s t), one)

-- no copy lies at a site that is not one of the 32
pub nothing_beyond : (s : ℕ) (m : Template) (xs : List Located) (limit : ℕ) → Bounded xs limit → 32 ≤ s → many (hits s m) xs ≡ 0
nothing_beyond s m xs limit b h =
    let far : (x : Located) → hits s m x ≡ true → leb 32 x.site ≡ true = λ x e. let here : x.site ≡ s = eqb-true x.site s (and_parts (eqb x.site s) (matches m x.tuple) e).0 in le-leb 32 x.site (omega arith) in
    omega (arith, many_implied (hits s m) (λ x. leb 32 x.site) far xs, b.sited)

pub put_taken : (size limit site : ℕ) → site < 32 → size < limit → Ok tt ≡ put_answer size limit site
put_taken size limit site low free = sym (rw (lt-ltb site 32 low, lt-ltb size limit free))

pub put_full : (size limit site : ℕ) → site < 32 → limit ≤ size → Err Full ≡ put_answer size limit site
put_full size limit site low full = sym (rw (lt-ltb site 32 low, le-ltb size limit full))

pub put_nowhere : (size limit site : ℕ) → 32 ≤ site → Err NoSuchSite ≡ put_answer size limit site
put_nowhere size limit site high = sym (rw (le-ltb site 32 high))
