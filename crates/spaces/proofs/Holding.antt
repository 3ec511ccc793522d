-- Rows that hold tuples, as the bag of what they hold. Assumes nothing.
use Rattle.std.proofs.Common.{◌≡◌, ℕ, ◌+◌, ◌<◌, Bool, true, ◌&&◌, eqb, List, [], ◌∷◌, ◌++◌, map, Some, None, Option, option_map, MatchOption, sym, refl, ap, ◌∙◌}
use Rattle.std.proofs.lemmas.Bool.{eqb-true, and_parts}
use Rattle.tuples.specs.Numbers.{Site}
use Rattle.tuples.specs.Tuples.{Tuple, Template}
use Rattle.tuples.specs.Matching.{matches}
use Rattle.rows.specs.Bags.{once, many, Same, Gains}
use Rattle.rows.specs.Searches.{found, without}
use Rattle.rows.proofs.Counting.{many-map, gains_last, found-passes, found_gains, none_many, none_without}
use Rattle.spaces.specs.declared.held.Held.{Held}
use Rattle.spaces.specs.declared.held.Wanted.{Wanted}
use Rattle.spaces.specs.Spaces.{at, hits, copies}
use Rattle.spaces.specs.TraySpaces.{located}
use Rattle.spaces.proofs.Bagging.{located-told, gains_copies}

-- whether a row lies at the site and the template matches it
abbrev pub holds : Site → Template → Held → Bool
holds s m x = eqb x.site.number s.number && matches m x.tuple

pub gains_located : (x : Held) (xs ys : List Held) → Gains x xs ys → Gains (located x) (map located xs) (map located ys)
gains_located x xs ys g p = many-map located p ys ∙ g (λ y. p (located y)) ∙ ap (λ n. once (p (located x)) + n) (sym (many-map located p xs))

gains_at : (x : Held) (n : ℕ) (xs ys : List Held) → x.site.number ≡ n → Gains x xs ys → Gains (at n x.tuple) (map located xs) (map located ys)
gains_at x n xs ys e g p = gains_located x xs ys g p ∙ ap (λ y. once (p y) + many p (map located xs)) (located-told (located x) n x.tuple e refl)

-- one row more at the end
pub put_gains : (x : Held) (n : ℕ) (xs ys : List Held) → x.site.number ≡ n → ys ≡ xs ++ (x ∷ []) → Gains (at n x.tuple) (map located xs) (map located ys)
put_gains x n xs ys e after = gains_at x n xs ys e (λ p. ap (many p) after ∙ gains_last x xs p)

pub record FoundAt (n : ℕ) (m : Template) (t : Tuple) (xs ys : List Held) : Type 0 where
  pub matched : matches m t ≡ true
  pub gained : Gains (at n t) (map located ys) (map located xs)

pub found_at : (s : Site) (m : Template) (n : ℕ) (x : Held) (xs ys : List Held) → s.number ≡ n → Some x ≡ found (holds s m) xs → ys ≡ without (holds s m) xs → FoundAt n m x.tuple xs ys
found_at s m n x xs ys e f w =
    let both = and_parts (eqb x.site.number s.number) (matches m x.tuple) (found-passes (holds s m) xs x (sym f)) in
    let gain : Gains x ys xs = λ p. found_gains (holds s m) xs x (sym f) p ∙ ap (λ zs. once (p x) + many p zs) (sym w) in
    record { matched = both.1; gained = gains_at x n ys xs (eqb-true x.site.number s.number both.0 ∙ e) gain }

-- the same question of the rows and of what they hold
pub count_at : (s : Site) (m : Template) (n : ℕ) (xs : List Held) → s.number ≡ n → many (holds s m) xs ≡ many (hits n m) (map located xs)
count_at s m n xs e = sym (many-map located (hits s.number m) xs) ∙ ap (λ k. many (hits k m) (map located xs)) e

pub none_at : (s : Site) (m : Template) (n : ℕ) (xs : List Held) → s.number ≡ n → None ≡ found (holds s m) xs → many (hits n m) (map located xs) ≡ 0
none_at s m n xs e f = sym (count_at s m n xs e) ∙ none_many (holds s m) xs (sym f)

pub same_rows : (xs ys : List Held) → ys ≡ xs → Same (map located xs) (map located ys)
same_rows xs ys e p = ap (λ zs. many p (map located zs)) e

-- what is found among the rows, as the tuple that it holds, and what the rows hold then
found_there : (s : Site) (m : Template) (n : ℕ) (xs ys : List Held) (x : Option Held) → s.number ≡ n → x ≡ found (holds s m) xs → ys ≡ without (holds s m) xs → MatchOption (option_map (λ y. y.tuple) x) ((many (hits n m) (map located xs) ≡ 0) × Same (map located xs) (map located ys)) (λ t. (matches m t ≡ true) × Gains (at n t) (map located ys) (map located xs))
found_there s m n xs ys None e f w = (none_at s m n xs e f, same_rows xs ys (w ∙ none_without (holds s m) xs (sym f)))
found_there s m n xs ys (Some x) e f w = let t = found_at s m n x xs ys e f w in (t.matched, t.gained)

-- what is found among the rows, as a tuple of which there are copies
seen_there : (s : Site) (m : Template) (n : ℕ) (xs : List Held) (x : Option Held) → s.number ≡ n → x ≡ found (holds s m) xs → MatchOption (option_map (λ y. y.tuple) x) (many (hits n m) (map located xs) ≡ 0) (λ t. (matches m t ≡ true) × (0 < copies (map located xs) n t))
seen_there s m n xs None e f = none_at s m n xs e f
seen_there s m n xs (Some x) e f = let t = found_at s m n x xs _ e f refl in (t.matched, gains_copies n x.tuple _ _ t.gained)

-- a question asks for what the template matches at site n
abbrev pub Asks : Wanted → ℕ → Template → Type 0
Asks q n m = (q.site.number ≡ n) × (q.template ≡ m)

module _ (q : Wanted) (n : ℕ) (m : Template) (asks : Asks q n m) where
  pub told_found : (xs ys : List Held) (x : Option Held) → x ≡ found (holds q.site q.template) xs → ys ≡ without (holds q.site q.template) xs → MatchOption (option_map (λ y. y.tuple) x) ((many (hits n m) (map located xs) ≡ 0) × Same (map located xs) (map located ys)) (λ t. (matches m t ≡ true) × Gains (at n t) (map located ys) (map located xs))
  told_found xs ys x f w = rw (sym asks.1) (found_there q.site q.template n xs ys x asks.0 f w)

  pub told_seen : (xs : List Held) (x : Option Held) → x ≡ found (holds q.site q.template) xs → MatchOption (option_map (λ y. y.tuple) x) (many (hits n m) (map located xs) ≡ 0) (λ t. (matches m t ≡ true) × (0 < copies (map located xs) n t))
  told_seen xs x f = rw (sym asks.1) (seen_there q.site q.template n xs x asks.0 f)

  pub told_count : (xs : List Held) → many (holds q.site q.template) xs ≡ many (hits n m) (map located xs)
  told_count xs = count_at q.site q.template n xs asks.0 ∙ ap (λ k. many (hits n k) (map located xs)) asks.1
