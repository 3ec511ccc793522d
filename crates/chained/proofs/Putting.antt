-- What a put into the chains of the sites makes of a bag, by what it answered. Assumes nothing.
use Rattle.std.proofs.Common.{◌≡◌, ℕ, ◌<◌, List, [], ◌∷◌, ◌++◌, length, Ok, Err, Result, is_ok, ltb, sym, ap, ◌∙◌, arith}
use Rattle.std.specs.Prelude.{MatchResult, ◌≢◌}
use Rattle.std.specs.Result.{result_or}
use Rattle.std.proofs.lemmas.Bool.{ltb-true, ltb-false}
use Rattle.tuples.specs.Tuples.{Tuple}
use Rattle.rows.specs.Bags.{Same, Gains}
use Rattle.spaces.specs.declared.space.PutRefusal.{PutRefusal}
use Rattle.spaces.specs.declared.space.PutRefusal.TheVariants.{Full}
use Rattle.spaces.specs.Spaces.{at}
use Rattle.spaces.specs.Answers.{put_answer}
use Rattle.spaces.proofs.Bagging.{put_taken, put_full}
use Rattle.chained.specs.Links.{total}
use Rattle.chained.proofs.Spacing.{sited, sited_low, bag_of, bag-length, bag_gains, bag-same}

-- the answer, the bag and the site's list
pub record PutInto (f g : ℕ → List Tuple) (limit site : ℕ) (t : Tuple) (o : Result (Unit {0}) PutRefusal) : Type 0 where
  pub answer : o ≡ put_answer (length (bag_of f)) limit site
  pub after : MatchResult o (λ _. Gains (at site t) (bag_of f) (bag_of g)) (λ _. Same (bag_of f) (bag_of g))
  pub chain : MatchResult o (λ _. sited g site ≡ sited f site ++ (t ∷ [])) (λ _. sited g site ≡ sited f site)

pub put_into : {E : Type 0} (f g : ℕ → List Tuple) (limit site : ℕ) (t : Tuple) (r : Result (Unit {0}) E) → site < 32 → is_ok r ≡ ltb (total 32 (λ c. length (f c))) limit → ((c : ℕ) → c < 32 → (c ≢ site) → g c ≡ f c) → MatchResult r (λ _. g site ≡ f site ++ (t ∷ [])) (λ _. g site ≡ f site) → PutInto f g limit site t (result_or r (Err Full))
put_into f g limit site t (Ok u) low took rest here = record {
  answer = put_taken _ _ site low (omega (arith, ltb-true _ _ (sym took), bag-length f));
  after = bag_gains f g site low rest t here;
  chain = sited_low g site low ∙ here ∙ ap (λ ts. ts ++ (t ∷ [])) (sym (sited_low f site low));
}
put_into f g limit site t (Err e) low took rest here = record {
  answer = put_full _ _ site low (omega (arith, ltb-false _ _ (sym took), bag-length f));
  after = bag-same f g site low rest here;
  chain = sited_low g site low ∙ here ∙ sym (sited_low f site low);
}

-- what a result says of its two cases is said where another refusal stands for its own
pub said_or : {E D : Type 0} (r : Result (Unit {0}) E) (d : D) (A B : Type 0) → MatchResult r (λ _. A) (λ _. B) → MatchResult (result_or r (Err d)) (λ _. A) (λ _. B)
said_or (Ok u) d A B s = s
said_or (Err e) d A B s = s
