-- The machine accepts exactly the nets within the limits.
use Rattle.std.proofs.Common.{◌≡◌, ℕ, zero, suc, Bool, true, false, cond, eqb, List, [], ◌∷◌, ◌++◌, Some, None, Option, sym, refl, ap, ◌∙◌, arith}
use Rattle.std.proofs.lemmas.Bool.{false≢true, eqb-true}
use Rattle.lex.specs.Next.{is_end}
use Rattle.lex.specs.Tokens.{Tok, Ended}
use Rattle.lex.specs.declared.Kind.{Kind}
use Rattle.lex.specs.declared.Kind.TheVariants.{End, Reserved, Name, Variable, Word, Number, Sign}
use Rattle.syntax.specs.Grammar.{leaf_of, shown, leaves, Written, Exact}
use Rattle.syntax.specs.Limits.{Limits, strict}
use Rattle.syntax.specs.Machine.{aliases, bars, lines, Sym, leaf, entry, more, upto, many, proc, item, opening, closing, Why, unexpected, deep, outside, number, Step, go, no, done, sign, tag, is_sign, is_variable, fits, starts, heads, takes, fielded, entered, opens, opened, verb, acted, begins, net, step, run}
use Rattle.syntax.specs.Tree.{Leaf, bar, mark}
use Rattle.lex.specs.declared.Keyword.TheVariants.{Nil}
use Rattle.syntax.specs.declared.Entries.{Entries}
use Rattle.syntax.specs.declared.Entries.TheVariants.{Fields, Places, Params}
use Rattle.syntax.specs.declared.Terminal.{Terminal}
use Rattle.syntax.specs.declared.Terminal.TheVariants.{Sign as ASign, Name as AName, Variable as AVariable, TypeWord as AType, Target as ATarget}
use Rattle.syntax.proofs.Complete.{kind_of, is_nil, acc, all-net}
use Rattle.syntax.proofs.Shape.{Stands, After, texts, split}
use Rattle.syntax.proofs.Sound.{un_step}

sign-kind : (b s : ℕ) (t : Bool) → eqb b 124 ≡ t → kind_of (cond t (bar s) (mark b)) ≡ Some (Sign b)
sign-kind b s true e = ap (λ x. Some (Sign x)) (sym (eqb-true b 124 e))
sign-kind b s false e = refl

pub kind-shown : (o : Option Kind) (w : List ℕ) (s : ℕ) → kind_of (leaf_of o w s) ≡ o
kind-shown None w s = refl
kind-shown (Some End) w s = refl
kind-shown (Some (Reserved k)) w s = refl
kind-shown (Some Name) w s = refl
kind-shown (Some Variable) w s = refl
kind-shown (Some Word) w s = refl
kind-shown (Some (Number v)) w s = refl
kind-shown (Some (Sign b)) w s = sign-kind b s (eqb b 124) refl

-- the machine is done only at the text's end

abbrev NotDone : Step → Type 0
NotDone s = s ≡ done → ⊥

go_on : (k : List Sym) → NotDone (go k)
go_on k e = let z : ◌≡◌ {A = ℕ} 0 1 = cc in omega arith

no_on : (w : Why) → NotDone (no w)
no_on w e = let z : ◌≡◌ {A = ℕ} 0 1 = cc in omega arith

cond_on : (b : Bool) (x y : Step) → NotDone x → NotDone y → NotDone (cond b x y)
cond_on true x y f g e = f e
cond_on false x y f g e = g e

takes_on : (b : Bool) (k : List Sym) → NotDone (takes b k)
takes_on b k = cond_on b (go k) (no unexpected) (go_on k) (no_on unexpected)

field_on : (l : Limits) (k : List Sym) (q : Kind) → NotDone (fielded l k q)
field_on l k End = no_on unexpected
field_on l k (Reserved w) = no_on unexpected
field_on l k Name = go_on k
field_on l k Variable = go_on k
field_on l k Word = go_on k
field_on l k (Number v) = cond_on (l.range v) (go k) (no outside) (go_on k) (no_on outside)
field_on l k (Sign b) = no_on unexpected

entry_on : (l : Limits) (E : Entries) (k : List Sym) (q : Kind) → NotDone (entered l E k q)
entry_on l Fields k q = field_on l k q
entry_on l Places k q = cond_on (is_sign 33 q) _ (fielded l k q) (go_on _) (field_on l k q)
entry_on l Params k q = takes_on (is_variable q) _

verb_on : (o : Option (List Sym)) (k : List Sym) → NotDone (acted k o)
verb_on (Some ss) k = go_on (ss ++ sign 46 ∷ item ∷ k)
verb_on None k = no_on unexpected

open_on : (l : Limits) (k : List Sym) → NotDone (opened l k)
open_on l k = cond_on (l.room (opens k)) (go (proc ∷ closing ∷ k)) (no deep) (go_on _) (no_on deep)

begins_on : (l : Limits) (k : List Sym) (q : Kind) → NotDone (begins l k q)
begins_on l k End = no_on unexpected
begins_on l k (Reserved w) = cond_on (eqb (tag w) (tag Nil)) (go k) (acted k (verb w)) (go_on k) (verb_on (verb w) k)
begins_on l k Name = go_on _
begins_on l k Variable = no_on unexpected
begins_on l k Word = no_on unexpected
begins_on l k (Number v) = no_on unexpected
begins_on l k (Sign b) = cond_on (eqb b 40) (opened l k) (no unexpected) (open_on l k) (no_on unexpected)

skip_on : {P : Type 0} (b : Bool) (x y : Step) → NotDone x → (y ≡ done → P) → cond b x y ≡ done → P
skip_on true x y f g e = absurd (f e)
skip_on false x y f g e = g e

end_is : (q : Kind) → cond (is_end q) done (no unexpected) ≡ done → q ≡ End
end_is End h = refl
end_is (Reserved w) h = absurd (no_on unexpected h)
end_is Name h = absurd (no_on unexpected h)
end_is Variable h = absurd (no_on unexpected h)
end_is Word h = absurd (no_on unexpected h)
end_is (Number v) h = absurd (no_on unexpected h)
end_is (Sign b) h = absurd (no_on unexpected h)

pub done_end : (l : Limits) (k : List Sym) (q : Kind) → step l k q ≡ done → q ≡ End
done_end l [] q e = end_is q e
done_end l (leaf c ∷ k) q e = absurd (takes_on (fits c q) k e)
done_end l (entry E ∷ k) q e = absurd (entry_on l E k q e)
done_end l (more E zero ∷ k) q e = done_end l k q e
done_end l (more E (suc n) ∷ k) q e = skip_on (is_sign 44 q) _ (step l k q) (go_on _) (done_end l k q) e
done_end l (upto E ∷ k) q e = skip_on (starts E q) _ (step l k q) (entry_on l E (more E 3 ∷ k) q) (done_end l k q) e
done_end l (many R ∷ k) q e = skip_on (heads R q) _ (step l k q) (go_on _) (done_end l k q) e
done_end l (proc ∷ k) q e = absurd (begins_on l (many bars ∷ k) q e)
done_end l (item ∷ k) q e = absurd (begins_on l k q e)
done_end l (opening ∷ k) q e = absurd (cond_on (is_sign 40 q) (opened l k) (no unexpected) (open_on l k) (no_on unexpected) e)
done_end l (closing ∷ k) q e = absurd (takes_on (is_sign 41 q) k e)

-- and it never goes on behind it

no_stop : (m : List Sym) (w : Why) → no w ≡ go m → ⊥
no_stop m w e = let z : ◌≡◌ {A = ℕ} 0 1 = cc in omega arith

done_stop : (m : List Sym) → done ≡ go m → ⊥
done_stop m e = let z : ◌≡◌ {A = ℕ} 0 1 = cc in omega arith

entry_stops : (l : Limits) (E : Entries) (k m : List Sym) → entered l E k End ≡ go m → ⊥
entry_stops l Fields k m e = no_stop m unexpected e
entry_stops l Places k m e = no_stop m unexpected e
entry_stops l Params k m e = no_stop m unexpected e

fits_stops : (c : Terminal) (k m : List Sym) → takes (fits c End) k ≡ go m → ⊥
fits_stops (ASign b) k m e = no_stop m unexpected e
fits_stops AName k m e = no_stop m unexpected e
fits_stops AVariable k m e = no_stop m unexpected e
fits_stops AType k m e = no_stop m unexpected e
fits_stops ATarget k m e = no_stop m unexpected e

end_stops : (l : Limits) (k m : List Sym) → step l k End ≡ go m → ⊥
end_stops l [] m e = done_stop m e
end_stops l (leaf c ∷ k) m e = fits_stops c k m e
end_stops l (entry E ∷ k) m e = entry_stops l E k m e
end_stops l (more E zero ∷ k) m e = end_stops l k m e
end_stops l (more E (suc n) ∷ k) m e = end_stops l k m e
end_stops l (upto Fields ∷ k) m e = end_stops l k m e
end_stops l (upto Places ∷ k) m e = end_stops l k m e
end_stops l (upto Params ∷ k) m e = end_stops l k m e
end_stops l (many aliases ∷ k) m e = end_stops l k m e
end_stops l (many bars ∷ k) m e = end_stops l k m e
end_stops l (many (lines L) ∷ k) m e = end_stops l k m e
end_stops l (proc ∷ k) m e = no_stop m unexpected e
end_stops l (item ∷ k) m e = no_stop m unexpected e
end_stops l (opening ∷ k) m e = no_stop m unexpected e
end_stops l (closing ∷ k) m e = no_stop m unexpected e

-- the token at which the machine is done is the last
pub last_alone : (n : ℕ) (t : Tok) (ts : List Tok) → Ended n (t ∷ ts) → t.kind ≡ Some End → (ts ≡ []) × (t.start ≡ n)
last_alone n t [] h e = (refl, ap (λ (x : Tok). x.start) h)
last_alone n t (u ∷ ts) h e = absurd (h.0 e)

pub ended_behind : (n : ℕ) (t : Tok) (ts : List Tok) (q : Kind) → Ended n (t ∷ ts) → t.kind ≡ Some q → (q ≡ End → ⊥) → Ended n ts
ended_behind n t [] q h e apart = absurd (apart (let a : Some q ≡ Some End = sym e ∙ ap (λ (x : Tok). x.kind) h in cc))
ended_behind n t (u ∷ ts) q h e apart = h.1

-- what the machine makes of a token's kind, where ts follows

abbrev pub accepts : Limits → List Sym → List Leaf → Option Kind → Bool
accepts l k ls (Some q) = elim (step l k q) [ go k' ↦ acc l k' ls | no w ↦ false | done ↦ is_nil ls ]
accepts l k ls None = false

abbrev pub answers : List Sym → ℕ → List Tok → Option Kind → ℕ × ℕ
answers k s ts (Some q) = elim (step strict k q) [ go k' ↦ run k' ts | no w ↦ (number w, s) | done ↦ (0, s) ]
answers k s ts None = (2, s)

acc_kind : (l : Limits) (k : List Sym) (x : Leaf) (ls : List Leaf) (o : Option Kind) → kind_of x ≡ o → acc l k (x ∷ ls) ≡ accepts l k ls o
unfolding acc
acc_kind l k x ls o e = ap (accepts l k ls) e

pub acc_shown : (l : Limits) (k : List Sym) (t : Tok) (ls : List Leaf) (o : Option Kind) → t.kind ≡ o → acc l k (shown t ∷ ls) ≡ accepts l k ls o
acc_shown l k t ls o e = acc_kind l k (shown t) ls o (kind-shown t.kind t.text t.start ∙ e)

pub run-kind : (k : List Sym) (t : Tok) (ts : List Tok) (o : Option Kind) → t.kind ≡ o → run k (t ∷ ts) ≡ answers k t.start ts o
unfolding run
run-kind k t ts o e = ap (answers k t.start ts) e

pub accepts-step : (l : Limits) (k : List Sym) (ls : List Leaf) (q : Kind) (s : Step) → step l k q ≡ s → accepts l k ls (Some q) ≡ (elim s as (λ _. Bool) [ go k' ↦ acc l k' ls | no w ↦ false | done ↦ is_nil ls ])
accepts-step l k ls q s e = let f : Step → Bool = elim [ go k' ↦ acc l k' ls | no w ↦ false | done ↦ is_nil ls ] in ap f e

pub answers_step : (k : List Sym) (a : ℕ) (ts : List Tok) (q : Kind) (s : Step) → step strict k q ≡ s → answers k a ts (Some q) ≡ (elim s as (λ _. ℕ × ℕ) [ go k' ↦ run k' ts | no w ↦ (number w, a) | done ↦ (0, a) ])
answers_step k a ts q s e = let f : Step → ℕ × ℕ = elim [ go k' ↦ run k' ts | no w ↦ (number w, a) | done ↦ (0, a) ] in ap f e

pub go_apart : (k : List Sym) (q : Kind) (m : List Sym) → step strict k q ≡ go m → q ≡ End → ⊥
go_apart k q m e is = end_stops strict k m (sym (ap (step strict k) is) ∙ e)

-- accepted by the leaves, accepted by the tokens
module _ (n : ℕ) (t : Tok) (ts : List Tok) (ih : Ended n ts → (k : List Sym) → acc strict k (leaves ts) ≡ true → run k ts ≡ (0, n)) (h : Ended n (t ∷ ts)) where
  run_step : (k : List Sym) (q : Kind) → t.kind ≡ Some q → (s : Step) → step strict k q ≡ s → (elim s as (λ _. Bool) [ go k' ↦ acc strict k' (leaves ts) | no w ↦ false | done ↦ is_nil (leaves ts) ]) ≡ true → (elim s as (λ _. ℕ × ℕ) [ go k' ↦ run k' ts | no w ↦ (number w, t.start) | done ↦ (0, t.start) ]) ≡ (0, n)
  run_step k q e (go m) s a = ih (ended_behind n t ts q h e (go_apart k q m s)) m a
  run_step k q e (no w) s a = absurd (false≢true a)
  run_step k q e done s a = ap (λ x. (0, x)) (last_alone n t ts h (e ∙ ap Some (done_end strict k q s))).1

  run_by : (k : List Sym) (o : Option Kind) → t.kind ≡ o → accepts strict k (leaves ts) o ≡ true → answers k t.start ts o ≡ (0, n)
  run_by k (Some q) e a = run_step k q e (step strict k q) refl a
  run_by k None e a = absurd (false≢true a)

acc_run : (ts : List Tok) (n : ℕ) → Ended n ts → (k : List Sym) → acc strict k (leaves ts) ≡ true → run k ts ≡ (0, n)
acc_run [] n h k a = absurd h
acc_run (t ∷ ts) n h k a = run-kind k t ts t.kind refl ∙ run_by n t ts (acc_run ts n) h k t.kind refl (sym (acc_shown strict k t (leaves ts) t.kind refl) ∙ a)

-- what is accepted stands for the stack
module _ (n : ℕ) (t : Tok) (ts : List Tok) (ih : Ended n ts → (k : List Sym) → (run k ts).0 ≡ 0 → Stands strict k (leaves ts)) (h : Ended n (t ∷ ts)) where
  after : (k : List Sym) (q : Kind) → t.kind ≡ Some q → (s : Step) → step strict k q ≡ s → (elim s as (λ _. ℕ × ℕ) [ go k' ↦ run k' ts | no w ↦ (number w, t.start) | done ↦ (0, t.start) ]).0 ≡ 0 → After strict s (leaves ts)
  after k q e (go m) s a = ih (ended_behind n t ts q h e (go_apart k q m s)) m a
  after k q e (no unexpected) s a = absurd (omega arith)
  after k q e (no deep) s a = absurd (omega arith)
  after k q e (no outside) s a = absurd (omega arith)
  after k q e done s a = ap leaves (last_alone n t ts h (e ∙ ap Some (done_end strict k q s))).0

  stands_by : (k : List Sym) (o : Option Kind) → t.kind ≡ o → (answers k t.start ts o).0 ≡ 0 → Stands strict k (shown t ∷ leaves ts)
  stands_by k (Some q) e a = un_step strict t k (leaves ts) q e (after k q e (step strict k q) refl a)
  stands_by k None e a = absurd (omega arith)

sound : (ts : List Tok) (n : ℕ) → Ended n ts → (k : List Sym) → (run k ts).0 ≡ 0 → Stands strict k (leaves ts)
sound [] n h k a = absurd h
sound (t ∷ ts) n h k a = stands_by n t ts (sound ts n) h k t.kind refl (ap (λ (x : ℕ × ℕ). x.0) (sym (run-kind k t ts t.kind refl)) ∙ a)

-- what stands for the whole stack is a net
pub net_written : (l : Limits) (ls : List Leaf) → Stands l net ls → Written l ls
net_written l ls a =
    let b = split l net [] ls a in
    let w = b.0 in
    (record { sites = w.0; defs = w.1.0; puts = w.1.1.0; runs = w.1.1.1.0 }, b.2 ∙ ap (texts net w) b.4, (b.3.1.0, b.3.1.1.0, b.3.1.1.1.0))

pub exact : Exact
exact ts n h = (λ a. net_written strict (leaves ts) (sound ts n h net a), λ w. acc_run ts n h net (ap (acc strict net) w.1 ∙ all-net strict w.0 w.2))
