-- What the stack that the machine reaches says of the tokens it has passed.
use Rattle.std.proofs.Common.{◌≡◌, false, List, [], ◌∷◌, ◌++◌, Some, None, Option, sym, refl, ap, ◌∙◌, subst, append_assoc}
use Rattle.std.proofs.lemmas.Bool.{both_ways}
use Rattle.lex.specs.Tokens.{Tok}
use Rattle.lex.specs.declared.Kind.{Kind}
use Rattle.lex.specs.declared.Kind.TheVariants.{Number, Sign}
use Rattle.syntax.specs.Grammar.{shown, leaves, Written, Begins, Passes}
use Rattle.syntax.specs.Limits.{Limits, strict, free}
use Rattle.syntax.specs.Machine.{Sym, Why, go, no, net, step, run}
use Rattle.syntax.specs.Tree.{Leaf}
use Rattle.syntax.proofs.Complete.{acc, all-net}
use Rattle.syntax.proofs.Exact.{acc_shown, accepts-step, run-kind, answers_step, net_written}
use Rattle.syntax.proofs.Finish.{finish, finishes_free, finishes_clean, Clean, Tidy, TidyStep, tidy_step, CleanStep, clean_step}
use Rattle.syntax.proofs.Loosen.{told_at, never_outside}
use Rattle.syntax.proofs.Shape.{Stands, After}
use Rattle.syntax.proofs.Sound.{un_step}

-- the machine passes the tokens, from one stack to another
abbrev pub Reach : List Sym → List Tok → List Sym → Type 0
Reach k [] m = k ≡ m
Reach k (t ∷ ts) m = (q : Kind) × (j : List Sym) × (t.kind ≡ Some q) × (step strict k q ≡ go j) × Reach j ts m

-- limits under which the machine goes on where the strict ones let it
abbrev pub Loose : Limits → Type 0
Loose l = (k : List Sym) (q : Kind) (j : List Sym) → step strict k q ≡ go j → step l k q ≡ go j

pub strict_loose : Loose strict
strict_loose k q j e = e

pub free_loose : Loose free
free_loose k q j e = told_at k q (go j) e

pub reach_run : (us : List Tok) (k m : List Sym) → Reach k us m → (ts : List Tok) → run k (us ++ ts) ≡ run m ts
reach_run [] k m r ts = ap (λ x. run x ts) r
reach_run (t ∷ us) k m r ts = run-kind k t (us ++ ts) (Some r.0) r.2 ∙ answers_step k t.start (us ++ ts) r.0 (go r.1) r.3 ∙ reach_run us r.1 m r.4 ts

pub reach_acc : (l : Limits) → Loose l → (us : List Tok) (k m : List Sym) → Reach k us m → (ls : List Leaf) → acc l k (leaves us ++ ls) ≡ acc l m ls
reach_acc l loose [] k m r ls = ap (λ x. acc l x ls) r
reach_acc l loose (t ∷ us) k m r ls =
    acc_shown l k t (leaves us ++ ls) (Some r.0) r.2 ∙ accepts-step l k (leaves us ++ ls) r.0 (go r.1) (loose k r.0 r.1 r.3) ∙ reach_acc l loose us r.1 m r.4 ls

pub reach_stands : (l : Limits) → Loose l → (us : List Tok) (k m : List Sym) → Reach k us m → (ls : List Leaf) → Stands l m ls → Stands l k (leaves us ++ ls)
reach_stands l loose [] k m r ls a = subst (λ x. Stands l x ls) (sym r) a
reach_stands l loose (t ∷ us) k m r ls a =
    un_step l t k (leaves us ++ ls) r.0 r.2 (subst (λ s. After l s (leaves us ++ ls)) (sym (loose k r.0 r.1 r.3)) (reach_stands l loose us r.1 m r.4 ls a))

pub reach_tidy : (us : List Tok) (k m : List Sym) → Reach k us m → Tidy k → Tidy m
reach_tidy [] k m r h = subst Tidy r h
reach_tidy (t ∷ us) k m r h = reach_tidy us r.1 m r.4 (subst TidyStep r.3 (tidy_step strict k r.0 h))

-- the step at a token in the middle
pub reach_split : (vs ws : List Tok) (t : Tok) (k m : List Sym) → Reach k (vs ++ t ∷ ws) m → (i : List Sym) × Reach k vs i × (q : Kind) × (j : List Sym) × (t.kind ≡ Some q) × (step strict i q ≡ go j)
reach_split [] ws t k m r = (k, refl, r.0, r.1, r.2, r.3)
reach_split (v ∷ vs) ws t k m r =
    let s = reach_split vs ws t r.1 m r.4 in
    (s.0, (r.0, r.1, r.2, r.3, s.1), s.2, s.3, s.4, s.5)

-- a net goes on with the token
pub goes_on : (l : Limits) → Loose l → (us : List Tok) (m : List Sym) → Reach net us m → (t : Tok) (q : Kind) → t.kind ≡ Some q → (j : List Sym) → step l m q ≡ go j → Stands l j (finish j) → Begins l (leaves us ++ shown t ∷ [])
goes_on l loose us m r t q e j s a =
    let here = un_step l t m (finish j) q e (subst (λ x. After l x (finish j)) (sym s) a) in
    (finish j, subst (Written l) (sym (append_assoc (leaves us) (shown t ∷ []) (finish j))) (net_written l (leaves us ++ shown t ∷ finish j) (reach_stands l loose us net m r (shown t ∷ finish j) here)))

-- none does
pub stops_here : (l : Limits) → Loose l → (us : List Tok) (m : List Sym) → Reach net us m → (t : Tok) → ((ls : List Leaf) → acc l m (shown t ∷ ls) ≡ false) → Begins l (leaves us ++ shown t ∷ []) → ⊥
stops_here l loose us m r t refused b =
    let more = b.0 in
    let w = b.1 in
    both_ways (acc l net (leaves us ++ shown t ∷ more)) (reach_acc l loose us net m r (shown t ∷ more) ∙ refused more)
    (ap (acc l net) (sym (append_assoc (leaves us) (shown t ∷ []) more) ∙ w.1) ∙ all-net l w.0 w.2)

pub no_acc : (l : Limits) (k : List Sym) (t : Tok) (q : Kind) → t.kind ≡ Some q → (w : Why) → step l k q ≡ no w → (ls : List Leaf) → acc l k (shown t ∷ ls) ≡ false
no_acc l k t q e w s ls = acc_shown l k t ls (Some q) e ∙ accepts-step l k ls q (no w) s

pub same_kind : (p q : Kind) (o : Option Kind) → o ≡ Some p → o ≡ Some q → p ≡ q
same_kind p q o e f = cc

-- behind an opening bracket, a net goes on within the limits
pub bracket_on : (us : List Tok) (m : List Sym) → Reach net us m → (t : Tok) → t.kind ≡ Some (Sign 40) → (j : List Sym) → step strict m (Sign 40) ≡ go j → Begins strict (leaves us ++ shown t ∷ [])
bracket_on us m r t e j s =
    let clean : Clean j = subst CleanStep s (clean_step strict m (reach_tidy us net m r (tt, (tt, (tt, tt))))) in
    goes_on strict strict_loose us m r t (Sign 40) e j s (finishes_clean strict j clean)

-- nothing in what the machine passes is refused
pub reach_passes : (us : List Tok) (m : List Sym) → Reach net us m → Passes us
reach_passes us m r =
    record {
      begun = (finish m, net_written free (leaves us ++ finish m) (reach_stands free free_loose us net m r (finish m) (finishes_free m)));
      small = λ vs ws t e is.
          let s = reach_split vs ws t net m (subst (λ x. Reach net x m) e r) in
          never_outside s.0 s.3 (ap (step strict s.0) (same_kind (Number None) s.2 t.kind is s.4) ∙ s.5);
      shallow = λ vs ws t e is.
          let s = reach_split vs ws t net m (subst (λ x. Reach net x m) e r) in
          bracket_on vs s.0 s.1 t is s.3 (ap (step strict s.0) (same_kind (Sign 40) s.2 t.kind is s.4) ∙ s.5);
    }
