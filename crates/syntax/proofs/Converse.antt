-- A token at fault is refused, since the machine passes all before it.
use Rattle.std.proofs.Common.{◌≡◌, ℕ, true, false, ◌⊎◌, List, [], ◌∷◌, ◌++◌, Some, None, Option, sym, refl, ap, ◌∙◌, subst, inl, inr, append_assoc, append-nil, arith}
use Rattle.std.proofs.lemmas.Bool.{both_ways}
use Rattle.lex.specs.Tokens.{Tok, Ended}
use Rattle.lex.specs.declared.Kind.{Kind}
use Rattle.lex.specs.declared.Kind.TheVariants.{End, Number, Sign}
use Rattle.syntax.specs.Grammar.{shown, leaves, Written, Begins, Passes, Wrong, Fault, Refused, Decided}
use Rattle.syntax.specs.Limits.{strict, free}
use Rattle.syntax.specs.Machine.{Sym, Why, unexpected, deep, outside, number, Step, go, no, done, net, step, run}
use Rattle.syntax.specs.Tree.{Leaf}
use Rattle.syntax.proofs.Complete.{acc, all-net}
use Rattle.syntax.proofs.Exact.{acc_shown, accepts-step, answers, run-kind, net_written, done_end, last_alone, ended_behind, go_apart}
use Rattle.syntax.proofs.Finish.{finishes_free}
use Rattle.syntax.proofs.Loosen.{told_at, never_outside}
use Rattle.syntax.proofs.Reach.{Reach, free_loose, reach_run, reach_stands, goes_on, stops_here, no_acc, same_kind, bracket_on}
use Rattle.syntax.proofs.Refuse.{none_acc, found}
use Rattle.syntax.proofs.Shape.{After}
use Rattle.syntax.proofs.Sound.{un_step}

-- nothing in the tokens is refused, from the stack k on
record Going (k : List Sym) (us : List Tok) : Type 0 where
  begun : (more : List Leaf) × (acc free k (leaves us ++ more) ≡ true)
  small : (vs ws : List Tok) (t : Tok) → us ≡ vs ++ t ∷ ws → t.kind ≡ Some (Number None) → ⊥
  shallow : (vs ws : List Tok) (t : Tok) → us ≡ vs ++ t ∷ ws → t.kind ≡ Some (Sign 40) → (more : List Leaf) × (acc strict k (leaves vs ++ shown t ∷ more) ≡ true)

abbrev NoEnd : List Tok → Type 0
NoEnd [] = Unit {0}
NoEnd (t ∷ us) = (t.kind ≡ Some End → ⊥) × NoEnd us

no_end : (n : ℕ) (us : List Tok) (t : Tok) (ts : List Tok) → Ended n (us ++ t ∷ ts) → NoEnd us
no_end n [] t ts h = tt
no_end n (u ∷ []) t ts h = (h.0, tt)
no_end n (u ∷ (v ∷ us)) t ts h = (h.0, no_end n (v ∷ us) t ts h.1)

going_more : (k j : List Sym) (t : Tok) (us : List Tok) (q : Kind) → t.kind ≡ Some q → step strict k q ≡ go j → Going k (t ∷ us) → Going j us
going_more k j t us q e s g =
    record {
      begun = (g.begun.0, sym (acc_shown free k t (leaves us ++ g.begun.0) (Some q) e ∙ accepts-step free k (leaves us ++ g.begun.0) q (go j) (free_loose k q j s)) ∙ g.begun.1);
      small = λ vs ws x i. g.small (t ∷ vs) ws x (ap (λ (l : List Tok). t ∷ l) i);
      shallow = λ vs ws x i is.
          let b = g.shallow (t ∷ vs) ws x (ap (λ (l : List Tok). t ∷ l) i) is in
          (b.0, sym (acc_shown strict k t (leaves vs ++ shown x ∷ b.0) (Some q) e ∙ accepts-step strict k (leaves vs ++ shown x ∷ b.0) q (go j) s) ∙ b.1);
    }

module _ (k : List Sym) (t : Tok) (us : List Tok) (g : Going k (t ∷ us)) (more : t.kind ≡ Some End → ⊥) (ih : (j : List Sym) → Going j us → (m : List Sym) × Reach j us m) where
  never : ((ls : List Leaf) → acc free k (shown t ∷ ls) ≡ false) → ⊥
  never f = both_ways _ (f (leaves us ++ g.begun.0)) g.begun.1

  walk_step : (q : Kind) → t.kind ≡ Some q → (s : Step) → step strict k q ≡ s → (m : List Sym) × Reach k (t ∷ us) m
  walk_step q e (go j) s = let r = ih j (going_more k j t us q e s g) in (r.0, (q, j, e, s, r.1))
  walk_step q e (no unexpected) s = absurd (never (no_acc free k t q e unexpected (told_at k q (no unexpected) s)))
  walk_step q e (no deep) s =
      let b = g.shallow [] us t refl (e ∙ ap Some (told_at k q (no deep) s).0) in
      absurd (both_ways _ (no_acc strict k t q e deep s b.0) b.1)
  walk_step q e (no outside) s = absurd (g.small [] us t refl (e ∙ ap Some (told_at k q (no outside) s).0))
  walk_step q e done s = absurd (more (e ∙ ap Some (done_end strict k q s)))

  walk_by : (o : Option Kind) → t.kind ≡ o → (m : List Sym) × Reach k (t ∷ us) m
  walk_by (Some q) e = walk_step q e (step strict k q) refl
  walk_by None e = absurd (never (none_acc free k t e))

walk : (us : List Tok) → NoEnd us → (k : List Sym) → Going k us → (m : List Sym) × Reach k us m
walk [] h k g = (k, refl)
walk (t ∷ us) h k g = walk_by k t us g h.0 (walk us h.1) t.kind refl

-- the machine passes what is not refused
passed : (us : List Tok) → NoEnd us → Passes us → (m : List Sym) × Reach net us m
passed us h p =
    walk us h net
    record {
      begun = (p.begun.0, ap (acc free net) p.begun.1.1 ∙ all-net free p.begun.1.0 p.begun.1.2);
      small = p.small;
      shallow = λ vs ws t e is.
          let b = p.shallow vs ws t e is in
          (b.0, ap (acc strict net) (sym (append_assoc (leaves vs) (shown t ∷ []) b.0) ∙ b.1.1) ∙ all-net strict b.1.0 b.1.2);
    }

sign-number : Sign 40 ≡ Number None → ⊥
sign-number e = let z : ◌≡◌ {A = ℕ} 0 1 = cc in omega arith

sign-end : Sign 40 ≡ End → ⊥
sign-end e = let z : ◌≡◌ {A = ℕ} 0 1 = cc in omega arith

number-end : Number None ≡ End → ⊥
number-end e = let z : ◌≡◌ {A = ℕ} 0 1 = cc in omega arith

module _ (us : List Tok) (m : List Sym) (r : Reach net us m) (t : Tok) (ts : List Tok) where
  on_free : (q : Kind) → t.kind ≡ Some q → (j : List Sym) → step free m q ≡ go j → Begins free (leaves us ++ shown t ∷ [])
  on_free q e j s = goes_on free free_loose us m r t q e j s (finishes_free j)

  off_free : (q : Kind) → t.kind ≡ Some q → step strict m q ≡ no unexpected → Begins free (leaves us ++ shown t ∷ []) → ⊥
  off_free q e s = stops_here free free_loose us m r t (no_acc free m t q e unexpected (told_at m q (no unexpected) s))

  whole-free : (q : Kind) → t.kind ≡ Some q → step strict m q ≡ done → Begins free (leaves us ++ shown t ∷ [])
  whole-free q e s =
      let a = un_step free t m [] q e (subst (λ x. After free x []) (sym (told_at m q done s)) refl) in
      ([], subst (Written free) (sym (append-nil (leaves us ++ shown t ∷ []))) (net_written free (leaves us ++ shown t ∷ []) (reach_stands free free_loose us net m r (shown t ∷ []) a)))

  refuse_step : (w : Why) → Wrong w us t → (q : Kind) → t.kind ≡ Some q → (s : Step) → step strict m q ≡ s → (elim s as (λ _. ℕ × ℕ) [ go k' ↦ run k' ts | no v ↦ (number v, t.start) | done ↦ (0, t.start) ]) ≡ (number w, t.start)
  refuse_step unexpected x q e (go j) s = absurd (x (on_free q e j (free_loose m q j s)))
  refuse_step unexpected x q e (no unexpected) s = refl
  refuse_step unexpected x q e (no deep) s = let f = told_at m q (no deep) s in absurd (x (on_free q e f.1 f.2))
  refuse_step unexpected x q e (no outside) s = let f = told_at m q (no outside) s in absurd (x (on_free q e f.1 f.2))
  refuse_step unexpected x q e done s = absurd (x (whole-free q e s))
  refuse_step deep x q e (go j) s = absurd (x.2 (bracket_on us m r t x.0 j (ap (step strict m) (same_kind (Sign 40) q t.kind x.0 e) ∙ s)))
  refuse_step deep x q e (no unexpected) s = absurd (off_free q e s x.1)
  refuse_step deep x q e (no deep) s = refl
  refuse_step deep x q e (no outside) s = absurd (sign-number (same_kind (Sign 40) q t.kind x.0 e ∙ (told_at m q (no outside) s).0))
  refuse_step deep x q e done s = absurd (sign-end (same_kind (Sign 40) q t.kind x.0 e ∙ done_end strict m q s))
  refuse_step outside x q e (go j) s = absurd (never_outside m j (ap (step strict m) (same_kind (Number None) q t.kind x.0 e) ∙ s))
  refuse_step outside x q e (no unexpected) s = absurd (off_free q e s x.1)
  refuse_step outside x q e (no deep) s = absurd (sign-number (sym (told_at m q (no deep) s).0 ∙ sym (same_kind (Number None) q t.kind x.0 e)))
  refuse_step outside x q e (no outside) s = refl
  refuse_step outside x q e done s = absurd (number-end (same_kind (Number None) q t.kind x.0 e ∙ done_end strict m q s))

  none_some : (q : Kind) → t.kind ≡ None → t.kind ≡ Some q → ⊥
  none_some q e f = let z : ◌≡◌ {A = ℕ} 0 1 = cc in omega arith

  refuse_none : (w : Why) → Wrong w us t → t.kind ≡ None → ◌≡◌ {A = ℕ × ℕ} (2, t.start) (number w, t.start)
  refuse_none unexpected x e = refl
  refuse_none deep x e = absurd (none_some (Sign 40) e x.0)
  refuse_none outside x e = absurd (none_some (Number None) e x.0)

  refuse_by : (w : Why) → Wrong w us t → (o : Option Kind) → t.kind ≡ o → answers m t.start ts o ≡ (number w, t.start)
  refuse_by w x (Some q) e = refuse_step w x q e (step strict m q) refl
  refuse_by w x None e = refuse_none w x e

  refuses_at : (w : Why) → Wrong w us t → run net (us ++ t ∷ ts) ≡ (number w, t.start)
  refuses_at w x = reach_run us net m r (t ∷ ts) ∙ run-kind m t ts t.kind refl ∙ refuse_by w x t.kind refl

refuses : (ts : List Tok) (n : ℕ) → Ended n ts → (w : Why) (place : ℕ) → Fault w ts place → run net ts ≡ (number w, place)
refuses ts n h w place f =
    let p = passed f.before (no_end n f.before f.at f.behind (subst (Ended n) f.whole h)) f.passes in
    ap (run net) f.whole ∙ refuses_at f.before p.0 p.1 f.at f.behind w f.wrong ∙ ap (λ x. (number w, x)) (sym f.here)

pub refused : Refused
refused ts n h w place = (found ts w place, refuses ts n h w place)

-- each list of tokens is accepted or refused

module _ (n : ℕ) (t : Tok) (ts : List Tok) (h : Ended n (t ∷ ts)) (ih : Ended n ts → (j : List Sym) → (run j ts ≡ (0, n)) ⊎ ((w : Why) × (place : ℕ) × (run j ts ≡ (number w, place)))) (k : List Sym) where
  abbrev Either : ℕ × ℕ → Type 0
  Either r = (r ≡ (0, n)) ⊎ ((w : Why) × (place : ℕ) × (r ≡ (number w, place)))

  either_step : (q : Kind) → t.kind ≡ Some q → (s : Step) → step strict k q ≡ s → Either (elim s as (λ _. ℕ × ℕ) [ go k' ↦ run k' ts | no v ↦ (number v, t.start) | done ↦ (0, t.start) ])
  either_step q e (go j) s = ih (ended_behind n t ts q h e (go_apart k q j s)) j
  either_step q e (no w) s = inr (w, t.start, refl)
  either_step q e done s = inl (ap (λ x. (0, x)) (last_alone n t ts h (e ∙ ap Some (done_end strict k q s))).1)

  either_by : (o : Option Kind) → t.kind ≡ o → Either (answers k t.start ts o)
  either_by (Some q) e = either_step q e (step strict k q) refl
  either_by None e = inr (unexpected, t.start, refl)

  either : Either (run k (t ∷ ts))
  either = subst Either (sym (run-kind k t ts t.kind refl)) (either_by t.kind refl)

decide : (ts : List Tok) (n : ℕ) → Ended n ts → (k : List Sym) → (run k ts ≡ (0, n)) ⊎ ((w : Why) × (place : ℕ) × (run k ts ≡ (number w, place)))
decide [] n h k = absurd h
decide (t ∷ ts) n h k = either n t ts h (decide ts n) k

pub decided : Decided
decided ts n h = decide ts n h net
