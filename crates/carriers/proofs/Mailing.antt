-- What the mail gains and loses, by the site that is asked for. Assumes nothing.
use Rattle.std.proofs.Common.{◌≡◌, ℕ, ◌≤◌, true, false, List, None, Option, sym, ap, ◌∙◌, arith, MatchOption}
use Rattle.std.proofs.lemmas.Bool.{ne_eqb}
use Rattle.tuples.specs.Numbers.{Site}
use Rattle.rows.specs.Bags.{many, Same, Gains}
use Rattle.rows.specs.Searches.{found, without}
use Rattle.rows.proofs.Counting.{taken_bag, nothing_found, none_without}
use Rattle.carriers.specs.declared.letter.Letter.{Letter}
use Rattle.carriers.specs.Carriers.{is_for}

-- one letter for the site less, or none was there
abbrev pub Fetched : ℕ → Option Letter → List Letter → List Letter → Type 0
Fetched n o xs ys = MatchOption o ((many (is_for n) xs ≡ 0) × Same xs ys) (λ l. (is_for n l ≡ true) × Gains l ys xs)

pub record Oldest (n : ℕ) (o : Option Letter) (xs ys : List Letter) : Type 0 where
  pub after : Fetched n o xs ys
  pub is_found : o ≡ found (is_for n) xs
  pub is-out : ys ≡ without (is_for n) xs

pub fetched : (s : Site) (n : ℕ) (o : Option Letter) (xs ys : List Letter) → s.number ≡ n → o ≡ found (is_for s.number) xs → ys ≡ without (is_for s.number) xs → Oldest n o xs ys
fetched s n o xs ys e f w =
    let f' : o ≡ found (is_for n) xs = f ∙ ap (λ k. found (is_for k) xs) e in
    let w' : ys ≡ without (is_for n) xs = w ∙ ap (λ k. without (is_for k) xs) e in
    record { after = taken_bag (is_for n) o xs ys f' w'; is_found = f'; is-out = w' }

-- no letter goes to a site that is not one of the 32
pub fetched_nowhere : (n : ℕ) (o : Option Letter) (xs : List Letter) → o ≡ None → 32 ≤ n → Oldest n o xs xs
fetched_nowhere n o xs e h =
    let far : (l : Letter) → is_for n l ≡ false = λ l. ne_eqb l.to.number n (λ e. omega (arith, l.to.below)) in
    let none : found (is_for n) xs ≡ None = nothing_found (is_for n) far xs in
    let f : o ≡ found (is_for n) xs = e ∙ sym none in
    let w : xs ≡ without (is_for n) xs = sym (none_without (is_for n) xs none) in
    record { after = taken_bag (is_for n) o xs xs f w; is_found = f; is-out = w }
