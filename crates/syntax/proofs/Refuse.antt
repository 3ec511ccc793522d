-- Exactly the first token at fault is refused.
use Rattle.std.proofs.Common.{◌≡◌, ℕ, false, cond, eqb, ◌⊎◌, List, [], ◌∷◌, ◌++◌, Some, None, Option, sym, refl, ap, ◌∙◌, subst, inl, inr, ⊎_elim, arith}
use Rattle.lex.specs.Tokens.{Tok}
use Rattle.lex.specs.declared.Kind.{Kind}
use Rattle.syntax.specs.Grammar.{shown, Wrong, Fault}
use Rattle.syntax.specs.Limits.{Limits, strict, free}
use Rattle.syntax.specs.Machine.{Sym, Why, unexpected, deep, outside, number, Step, go, no, done, net, step, run}
use Rattle.syntax.specs.Tree.{Leaf}
use Rattle.syntax.proofs.Complete.{acc}
use Rattle.syntax.proofs.Exact.{acc_shown, answers, run-kind}
use Rattle.syntax.proofs.Finish.{finishes_free}
use Rattle.syntax.proofs.Loosen.{told_at}
use Rattle.syntax.proofs.Reach.{Reach, strict_loose, free_loose, goes_on, stops_here, no_acc, reach_passes}

-- where the machine stops, from the stack k on
pub record Stop (k : List Sym) (w : Why) (ts : List Tok) (place : ℕ) : Type 0 where
  pub before : List Tok
  pub at : Tok
  pub behind : List Tok
  pub whole : ts ≡ before ++ at ∷ behind
  pub here : place ≡ at.start
  pub stack : List Sym
  pub reach : Reach k before stack
  pub cause : ((at.kind ≡ None) × (w ≡ unexpected)) ⊎ ((q : Kind) × (at.kind ≡ Some q) × (step strict stack q ≡ no w))

abbrev why : ℕ → Why
why n = cond (eqb n 3) deep (cond (eqb n 4) outside unexpected)

why_number : (w : Why) → why (number w) ≡ w
why_number unexpected = refl
why_number deep = refl
why_number outside = refl

number_small : (w : Why) → (number w ≡ 0 → ⊥) × (number w ≡ 5 → ⊥)
number_small unexpected = (λ e. omega arith, λ e. omega arith)
number_small deep = (λ e. omega arith, λ e. omega arith)
number_small outside = (λ e. omega arith, λ e. omega arith)

stop_more : (k j : List Sym) (q : Kind) (w : Why) (t : Tok) (ts : List Tok) (place : ℕ) → t.kind ≡ Some q → step strict k q ≡ go j → Stop j w ts place → Stop k w (t ∷ ts) place
stop_more k j q w t ts place e s r =
    record {
      before = t ∷ r.before;
      at = r.at;
      behind = r.behind;
      whole = ap (λ (l : List Tok). t ∷ l) r.whole;
      here = r.here;
      stack = r.stack;
      reach = (q, j, e, s, r.reach);
      cause = r.cause;
    }

module _ (k : List Sym) (w : Why) (t : Tok) (ts : List Tok) (place : ℕ) (ih : (j : List Sym) → run j ts ≡ (number w, place) → Stop j w ts place) where
  stop_step : (q : Kind) → t.kind ≡ Some q → (s : Step) → step strict k q ≡ s → (elim s as (λ _. ℕ × ℕ) [ go k' ↦ run k' ts | no v ↦ (number v, t.start) | done ↦ (0, t.start) ]) ≡ (number w, place) → Stop k w (t ∷ ts) place
  stop_step q e (go j) s h = stop_more k j q w t ts place e s (ih j h)
  stop_step q e (no v) s h =
      let same : v ≡ w = sym (why_number v) ∙ ap (λ (x : ℕ × ℕ). why x.0) h ∙ why_number w in
      record { before = []; at = t; behind = ts; whole = refl; here = sym (ap (λ (x : ℕ × ℕ). x.1) h); stack = k; reach = refl; cause = inr (q, e, s ∙ ap no same) }
  stop_step q e done s h = absurd ((number_small w).0 (sym (ap (λ (x : ℕ × ℕ). x.0) h)))

  stop_by : (o : Option Kind) → t.kind ≡ o → answers k t.start ts o ≡ (number w, place) → Stop k w (t ∷ ts) place
  stop_by (Some q) e h = stop_step q e (step strict k q) refl h
  stop_by None e h =
      let same : unexpected ≡ w = ap (λ (x : ℕ × ℕ). why x.0) h ∙ why_number w in
      record { before = []; at = t; behind = ts; whole = refl; here = sym (ap (λ (x : ℕ × ℕ). x.1) h); stack = k; reach = refl; cause = inl (e, sym same) }

find : (ts : List Tok) (w : Why) (place : ℕ) (k : List Sym) → run k ts ≡ (number w, place) → Stop k w ts place
unfolding run
find [] w place k h = absurd ((number_small w).1 (sym (ap (λ (x : ℕ × ℕ). x.0) h)))
find (t ∷ ts) w place k h = stop_by k w t ts place (find ts w place) t.kind refl (sym (run-kind k t ts t.kind refl) ∙ h)

-- why the machine stops

pub none_acc : (l : Limits) (k : List Sym) (t : Tok) → t.kind ≡ None → (ls : List Leaf) → acc l k (shown t ∷ ls) ≡ false
none_acc l k t e ls = acc_shown l k t ls None e

module _ (us : List Tok) (m : List Sym) (r : Reach net us m) (t : Tok) where
  wrong-step : (w : Why) (q : Kind) → t.kind ≡ Some q → step strict m q ≡ no w → Wrong w us t
  wrong-step unexpected q e s = stops_here free free_loose us m r t (no_acc free m t q e unexpected (told_at m q (no unexpected) s))
  wrong-step deep q e s =
      let f = told_at m q (no deep) s in
      (e ∙ ap Some f.0, goes_on free free_loose us m r t q e f.1 f.2 (finishes_free f.1), stops_here strict strict_loose us m r t (no_acc strict m t q e deep s))
  wrong-step outside q e s =
      let f = told_at m q (no outside) s in
      (e ∙ ap Some f.0, goes_on free free_loose us m r t q e f.1 f.2 (finishes_free f.1))

  wrong_by : (w : Why) → ((t.kind ≡ None) × (w ≡ unexpected)) ⊎ ((q : Kind) × (t.kind ≡ Some q) × (step strict m q ≡ no w)) → Wrong w us t
  wrong_by w c =
      ⊎_elim
      (λ n. subst (λ x. Wrong x us t) (sym n.1) (stops_here free free_loose us m r t (none_acc free m t n.0)))
      (λ s. wrong-step w s.0 s.1 s.2) c

pub found : (ts : List Tok) (w : Why) (place : ℕ) → run net ts ≡ (number w, place) → Fault w ts place
found ts w place h =
    let s = find ts w place net h in
    record {
      before = s.before;
      at = s.at;
      behind = s.behind;
      whole = s.whole;
      here = s.here;
      passes = reach_passes s.before s.stack s.reach;
      wrong = wrong_by s.before s.stack s.reach s.at w s.cause;
    }
