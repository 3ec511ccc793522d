-- A step of the machine builds what the stack stands for.
use Rattle.std.proofs.Common.{◌≡◌, ℕ, zero, suc, Bool, true, false, cond, eqb, List, [], ◌∷◌, ◌++◌, ℤ, Some, None, Option, sym, refl, ap, ◌∙◌, ⊎_elim}
use Rattle.std.proofs.lemmas.Bool.{or_cases}
use Rattle.lex.specs.Next.{is_end}
use Rattle.lex.specs.Tokens.{Tok}
use Rattle.lex.specs.declared.Keyword.{Keyword}
use Rattle.lex.specs.declared.Keyword.TheVariants.{Site, Def, Put, Run, Nil, Out, In, Read, Eval, Newloc, Num, Word as WordKey}
use Rattle.lex.specs.declared.Kind.{Kind}
use Rattle.lex.specs.declared.Kind.TheVariants.{End, Reserved, Name, Variable, Word, Number, Sign}
use Rattle.syntax.specs.Grammar.{leaf_of, shown}
use Rattle.syntax.specs.Limits.{Limits}
use Rattle.syntax.specs.Machine.{Repeat, aliases, bars, lines, Sym, leaf, entry, more, upto, many, proc, item, opening, closing, sign, unexpected, deep, outside, go, no, done, is_sign, is_name, is_variable, fits, starts, fielded, entered, heads, body, opens, opened, listed, worded, begins, step}
use Rattle.syntax.specs.Tree.{Named, number, word, name, variable, to_name, to_variable, field, formal, one, nil, call, act, group, out, inp, read, eval, newloc, Leaf, last, mark, key, name_leaf, variable_leaf, type_key, item_text}
use Rattle.syntax.specs.declared.Entries.{Entries}
use Rattle.syntax.specs.declared.Entries.TheVariants.{Fields, Places, Params}
use Rattle.syntax.specs.declared.Lines.TheVariants.{Sites, Defs, Puts, Runs}
use Rattle.syntax.specs.declared.Terminal.{Terminal}
use Rattle.syntax.specs.declared.Terminal.TheVariants.{Sign as ASign, Name as AName, Variable as AVariable, TypeWord as AType, Target as ATarget}
use Rattle.syntax.proofs.Shape.{TermOf, term_text, BodyOf, body_text, BodyFits, Stands, After, Sorts, texts, AllFits, split, grow, grow_text, grow_fits, sign-is, name-is, variable-is, type-is, key-is}

module _ (l : Limits) (t : Tok) where
  abbrev here : Named
  here = record { text = t.text; start = t.start }

  -- the token of this kind as a leaf
  shows : (q : Kind) → t.kind ≡ Some q → shown t ≡ leaf_of (Some q) t.text t.start
  shows q e = ap (λ o. leaf_of o t.text t.start) e

  un_term : (c : Terminal) (q : Kind) → t.kind ≡ Some q → fits c q ≡ true → (w : TermOf c) × ((r : List Leaf) → shown t ∷ r ≡ term_text c w r)
  un_term (ASign c) q e h = (t.start, λ r. ap (λ x. x ∷ r) (shows (Sign c) (e ∙ ap Some (sign-is c q h))))
  un_term AName q e h = (here, λ r. ap (λ x. x ∷ r) (shows Name (e ∙ ap Some (name-is q h))))
  un_term AVariable q e h = (here, λ r. ap (λ x. x ∷ r) (shows Variable (e ∙ ap Some (variable-is q h))))
  un_term AType q e h = let y = type-is q h in ((y.0, t.start), λ r. ap (λ x. x ∷ r) (shows (Reserved (type_key y.0)) (e ∙ ap Some y.1)))
  un_term ATarget q e h =
      ⊎_elim
      (λ n. (to_name here, λ r. ap (λ x. x ∷ r) (shows Name (e ∙ ap Some (name-is q n)))))
      (λ v. (to_variable here, λ r. ap (λ x. x ∷ r) (shows Variable (e ∙ ap Some (variable-is q v)))))
      (or_cases (is_name q) (is_variable q) h)

  un_leaf : (c : Terminal) (k : List Sym) (ls : List Leaf) (q : Kind) → t.kind ≡ Some q → (b : Bool) → fits c q ≡ b → After l (cond b (go k) (no unexpected)) ls → Stands l (leaf c ∷ k) (shown t ∷ ls)
  un_leaf c k ls q e true h a = let w = un_term c q e h in (w.0, ls, w.1 ls, tt, a)
  un_leaf c k ls q e false h a = absurd a

  -- entries

  un_number : (k : List Sym) (ls : List Leaf) (v : Option ℤ) → t.kind ≡ Some (Number v) → (b : Bool) → l.range v ≡ b → After l (cond b (go k) (no outside)) ls → Stands l (entry Fields ∷ k) (shown t ∷ ls)
  un_number k ls v e true h a = (number v t.start, ls, ap (λ x. x ∷ ls) (shows (Number v) e), h, a)
  un_number k ls v e false h a = absurd a

  un_field : (k : List Sym) (ls : List Leaf) (q : Kind) → t.kind ≡ Some q → After l (fielded l k q) ls → Stands l (entry Fields ∷ k) (shown t ∷ ls)
  un_field k ls End e a = absurd a
  un_field k ls (Reserved w) e a = absurd a
  un_field k ls Name e a = (name here, ls, ap (λ x. x ∷ ls) (shows Name e), tt, a)
  un_field k ls Variable e a = (variable here, ls, ap (λ x. x ∷ ls) (shows Variable e), tt, a)
  un_field k ls Word e a = (word here, ls, ap (λ x. x ∷ ls) (shows Word e), tt, a)
  un_field k ls (Number v) e a = un_number k ls v e (l.range v) refl a
  un_field k ls (Sign b) e a = absurd a

  un_place : (k : List Sym) (ls : List Leaf) (q : Kind) → t.kind ≡ Some q → (b : Bool) → is_sign 33 q ≡ b → After l (cond b (go (leaf AVariable ∷ sign 58 ∷ leaf AType ∷ k)) (fielded l k q)) ls → Stands l (entry Places ∷ k) (shown t ∷ ls)
  un_place k ls q e true h a =
      let b = split l (leaf AVariable ∷ sign 58 ∷ leaf AType ∷ []) k ls a in
      let y = b.0.1.1.0 in
      (formal (record { var = b.0.0; type = y.0; at = y.1 }), b.1, ap (λ x. x ∷ ls) (shows (Sign 33) (e ∙ ap Some (sign-is 33 q h))) ∙ ap (λ x. mark 33 ∷ x) b.2, tt, b.4)
  un_place k ls q e false h a = let f = un_field k ls q e a in (field f.0, f.1, f.2, f.3, f.4)

  un_param : (k : List Sym) (ls : List Leaf) (q : Kind) → t.kind ≡ Some q → (b : Bool) → is_variable q ≡ b → After l (cond b (go (sign 58 ∷ leaf AType ∷ k)) (no unexpected)) ls → Stands l (entry Params ∷ k) (shown t ∷ ls)
  un_param k ls q e true h a =
      let b = split l (sign 58 ∷ leaf AType ∷ []) k ls a in
      let y = b.0.1.0 in
      (record { var = here; type = y.0; at = y.1 }, b.1, ap (λ x. x ∷ ls) (shows Variable (e ∙ ap Some (variable-is q h))) ∙ ap (λ x. variable_leaf here ∷ x) b.2, tt, b.4)
  un_param k ls q e false h a = absurd a

  un_entry : (E : Entries) (k : List Sym) (ls : List Leaf) (q : Kind) → t.kind ≡ Some q → After l (entered l E k q) ls → Stands l (entry E ∷ k) (shown t ∷ ls)
  un_entry Fields k ls q e a = un_field k ls q e a
  un_entry Places k ls q e a = un_place k ls q e (is_sign 33 q) refl a
  un_entry Params k ls q e a = un_param k ls q e (is_variable q) refl a

  un_more : (E : Entries) (n : ℕ) (k : List Sym) (ls : List Leaf) (q : Kind) → t.kind ≡ Some q → (After l (step l k q) ls → Stands l k (shown t ∷ ls)) → (b : Bool) → is_sign 44 q ≡ b → After l (cond b (go (entry E ∷ more E n ∷ k)) (step l k q)) ls → Stands l (more E (suc n) ∷ k) (shown t ∷ ls)
  un_more E n k ls q e ih true h a =
      let b = split l (entry E ∷ more E n ∷ []) k ls a in
      (Some (b.0.0, b.0.1.0), b.1, ap (λ x. x ∷ ls) (shows (Sign 44) (e ∙ ap Some (sign-is 44 q h))) ∙ ap (λ x. mark 44 ∷ x) b.2, (b.3.0, b.3.1.0), b.4)
  un_more E n k ls q e ih false h a = (None, shown t ∷ ls, refl, tt, ih a)

  un_upto : (E : Entries) (k : List Sym) (ls : List Leaf) (q : Kind) → t.kind ≡ Some q → (After l (step l k q) ls → Stands l k (shown t ∷ ls)) → (b : Bool) → After l (cond b (entered l E (more E 3 ∷ k) q) (step l k q)) ls → Stands l (upto E ∷ k) (shown t ∷ ls)
  un_upto E k ls q e ih true a =
      let b = split l (entry E ∷ more E 3 ∷ []) k (shown t ∷ ls) (un_entry E (more E 3 ∷ k) ls q e a) in
      (Some (b.0.0, b.0.1.0), b.1, b.2, (b.3.0, b.3.1.0), b.4)
  un_upto E k ls q e ih false a = (None, shown t ∷ ls, refl, tt, ih a)

  -- what is repeated

  abbrev made : (R : Repeat) → Sorts (body R) → BodyOf R
  made aliases w = record { alias = here; site = w.1.0 }
  made bars w = (t.start, w.0)
  made (lines Sites) w = record { start = t.start; site = w.0; aliases = w.1.1.0 }
  made (lines Defs) w = record { start = t.start; def = w.0; params = w.1.1.0; body = w.1.1.1.1.1.0 }
  made (lines Puts) w = record { start = t.start; site = w.0; fields = (w.1.1.0, w.1.1.1.0) }
  made (lines Runs) w = record { start = t.start; site = w.0; body = w.1.0 }

  made-text : (R : Repeat) (q : Kind) → t.kind ≡ Some q → heads R q ≡ true → (w : Sorts (body R)) (r : List Leaf) → shown t ∷ texts (body R) w r ≡ body_text R (made R w) r
  made-text aliases q e h w r = ap (λ x. x ∷ texts (body aliases) w r) (shows Name (e ∙ ap Some (name-is q h)))
  made-text bars q e h w r = ap (λ x. x ∷ texts (body bars) w r) (shows (Sign 124) (e ∙ ap Some (sign-is 124 q h)))
  made-text (lines Sites) q e h w r = ap (λ x. x ∷ texts (body (lines Sites)) w r) (shows (Reserved Site) (e ∙ ap Some (key-is Site q h)))
  made-text (lines Defs) q e h w r = ap (λ x. x ∷ texts (body (lines Defs)) w r) (shows (Reserved Def) (e ∙ ap Some (key-is Def q h)))
  made-text (lines Puts) q e h w r = ap (λ x. x ∷ texts (body (lines Puts)) w r) (shows (Reserved Put) (e ∙ ap Some (key-is Put q h)))
  made-text (lines Runs) q e h w r = ap (λ x. x ∷ texts (body (lines Runs)) w r) (shows (Reserved Run) (e ∙ ap Some (key-is Run q h)))

  made-fits : (R : Repeat) (w : Sorts (body R)) (k : List Sym) → AllFits l (body R) w (many R ∷ k) → BodyFits l R (made R w) (opens k)
  made-fits aliases w k f = tt
  made-fits bars w k f = f.0
  made-fits (lines Sites) w k f = tt
  made-fits (lines Defs) w k f = f.1.1.1.1.1.0
  made-fits (lines Puts) w k f = (f.1.1.0, f.1.1.1.0)
  made-fits (lines Runs) w k f = f.1.0

  un_many : (R : Repeat) (k : List Sym) (ls : List Leaf) (q : Kind) → t.kind ≡ Some q → (After l (step l k q) ls → Stands l k (shown t ∷ ls)) → (b : Bool) → heads R q ≡ b → After l (cond b (go (body R ++ many R ∷ k)) (step l k q)) ls → Stands l (many R ∷ k) (shown t ∷ ls)
  un_many R k ls q e ih true h a =
      let b = split l (body R) (many R ∷ k) ls a in
      let c = b.4 in
      let x = made R b.0 in
      (x ∷ c.0, c.1, ap (λ r. shown t ∷ r) b.2 ∙ made-text R q e h b.0 b.1 ∙ ap (body_text R x) c.2, (made-fits R b.0 k b.3, c.3), c.4)
  un_many R k ls q e ih false h a = ([], shown t ∷ ls, refl, tt, ih a)

  -- processes

  un_opened : (k : List Sym) (ls : List Leaf) (b : Bool) → l.room (opens k) ≡ b → After l (cond b (go (proc ∷ closing ∷ k)) (no deep)) ls → Stands l (opening ∷ k) (mark 40 ∷ ls)
  un_opened k ls true room a =
      let b = split l (proc ∷ closing ∷ []) k ls a in
      (b.0.0, b.1, ap (λ x. mark 40 ∷ x) b.2, (room, b.3.0), b.4)
  un_opened k ls false room a = absurd a

  un_open : (k : List Sym) (ls : List Leaf) (q : Kind) → t.kind ≡ Some q → (b : Bool) → is_sign 40 q ≡ b → After l (cond b (opened l k) (no unexpected)) ls → Stands l (opening ∷ k) (shown t ∷ ls)
  un_open k ls q e true h a =
      let g = un_opened k ls (l.room (opens k)) refl a in
      (g.0, g.1, ap (λ x. x ∷ ls) (shows (Sign 40) (e ∙ ap Some (sign-is 40 q h))) ∙ g.2, g.3, g.4)
  un_open k ls q e false h a = absurd a

  un_worded : (k : List Sym) (ls : List Leaf) (w : Keyword) → t.kind ≡ Some (Reserved w) → After l (worded k w) ls → Stands l (item ∷ k) (shown t ∷ ls)
  un_worded k ls Site e a = absurd a
  un_worded k ls Def e a = absurd a
  un_worded k ls Put e a = absurd a
  un_worded k ls Run e a = absurd a
  un_worded k ls Nil e a = (nil t.start, ls, ap (λ x. x ∷ ls) (shows (Reserved Nil) e), tt, a)
  un_worded k ls Out e a =
      let b = split l (listed Fields ++ sign 46 ∷ item ∷ []) k ls a in
      let w = b.0 in
      let f = b.3 in (
        act (out t.start (w.1.0, w.1.1.0) w.1.1.1.1.1.0) w.1.1.1.1.1.1.1.0,
        b.1,
        ap (λ x. x ∷ ls) (shows (Reserved Out) e) ∙ ap (λ x. key Out t.start ∷ x) b.2,
        ((f.1.0, f.1.1.0), f.1.1.1.1.1.1.1.0),
        b.4,
      )
  un_worded k ls In e a =
      let b = split l (listed Places ++ sign 46 ∷ item ∷ []) k ls a in
      let w = b.0 in
      let f = b.3 in (
        act (inp t.start (w.1.0, w.1.1.0) w.1.1.1.1.1.0) w.1.1.1.1.1.1.1.0,
        b.1,
        ap (λ x. x ∷ ls) (shows (Reserved In) e) ∙ ap (λ x. key In t.start ∷ x) b.2,
        ((f.1.0, f.1.1.0), f.1.1.1.1.1.1.1.0),
        b.4,
      )
  un_worded k ls Read e a =
      let b = split l (listed Places ++ sign 46 ∷ item ∷ []) k ls a in
      let w = b.0 in
      let f = b.3 in (
        act (read t.start (w.1.0, w.1.1.0) w.1.1.1.1.1.0) w.1.1.1.1.1.1.1.0,
        b.1,
        ap (λ x. x ∷ ls) (shows (Reserved Read) e) ∙ ap (λ x. key Read t.start ∷ x) b.2,
        ((f.1.0, f.1.1.0), f.1.1.1.1.1.1.1.0),
        b.4,
      )
  un_worded k ls Eval e a =
      let b = split l (opening ∷ sign 64 ∷ leaf ATarget ∷ sign 46 ∷ item ∷ []) k ls a in
      let w = b.0 in
      let f = b.3 in (
        act (eval t.start w.0 w.1.1.0) w.1.1.1.1.0,
        b.1,
        ap (λ x. x ∷ ls) (shows (Reserved Eval) e) ∙ ap (λ x. key Eval t.start ∷ x) b.2,
        (f.0, f.1.1.1.1.0),
        b.4,
      )
  un_worded k ls Newloc e a =
      let b = split l (sign 40 ∷ leaf AVariable ∷ sign 41 ∷ sign 46 ∷ item ∷ []) k ls a in
      let w = b.0 in
      let f = b.3 in (
        act (newloc t.start w.1.0) w.1.1.1.1.0,
        b.1,
        ap (λ x. x ∷ ls) (shows (Reserved Newloc) e) ∙ ap (λ x. key Newloc t.start ∷ x) b.2,
        (tt, f.1.1.1.1.0),
        b.4,
      )
  un_worded k ls Num e a = absurd a
  un_worded k ls WordKey e a = absurd a

  un_begins : (k : List Sym) (ls : List Leaf) (q : Kind) → t.kind ≡ Some q → After l (begins l k q) ls → Stands l (item ∷ k) (shown t ∷ ls)
  un_begins k ls End e a = absurd a
  un_begins k ls (Reserved w) e a = un_worded k ls w e a
  un_begins k ls Name e a =
      let b = split l (sign 40 ∷ upto Fields ∷ sign 41 ∷ []) k ls a in
      (call here b.0.1.0, b.1, ap (λ x. x ∷ ls) (shows Name e) ∙ ap (λ x. name_leaf here ∷ x) b.2, b.3.1.0, b.4)
  un_begins k ls Variable e a = absurd a
  un_begins k ls Word e a = absurd a
  un_begins k ls (Number v) e a = absurd a
  un_begins k ls (Sign b) e a =
      let g = un_open k ls (Sign b) e (eqb b 40) refl a in
      (group g.0, g.1, g.2, g.3, g.4)

  un_proc : (k : List Sym) (ls : List Leaf) → Stands l (item ∷ many bars ∷ k) ls → Stands l (proc ∷ k) ls
  un_proc k ls a =
      let i = a.0 in
      let b = a.4 in
      (grow (one i) b.0, b.1, a.2 ∙ ap (item_text i) b.2 ∙ sym (grow_text b.0 (one i) b.1), grow_fits l b.0 (one i) (opens k) a.3 b.3, b.4)

  un_end : (ls : List Leaf) (q : Kind) → t.kind ≡ Some q → After l (cond (is_end q) done (no unexpected)) ls → Stands l [] (shown t ∷ ls)
  un_end ls End e a = ap (λ x. x ∷ ls) (shows End e) ∙ ap (λ x. last ∷ x) a
  un_end ls (Reserved w) e a = absurd a
  un_end ls Name e a = absurd a
  un_end ls Variable e a = absurd a
  un_end ls Word e a = absurd a
  un_end ls (Number v) e a = absurd a
  un_end ls (Sign b) e a = absurd a

  pub un_step : (k : List Sym) (ls : List Leaf) (q : Kind) → t.kind ≡ Some q → After l (step l k q) ls → Stands l k (shown t ∷ ls)
  un_step [] ls q e a = un_end ls q e a
  un_step (leaf c ∷ k) ls q e a = un_leaf c k ls q e (fits c q) refl a
  un_step (entry E ∷ k) ls q e a = un_entry E k ls q e a
  un_step (more E zero ∷ k) ls q e a = (tt, shown t ∷ ls, refl, tt, un_step k ls q e a)
  un_step (more E (suc n) ∷ k) ls q e a = un_more E n k ls q e (un_step k ls q e) (is_sign 44 q) refl a
  un_step (upto E ∷ k) ls q e a = un_upto E k ls q e (un_step k ls q e) (starts E q) a
  un_step (many R ∷ k) ls q e a = un_many R k ls q e (un_step k ls q e) (heads R q) refl a
  un_step (proc ∷ k) ls q e a = un_proc k (shown t ∷ ls) (un_begins (many bars ∷ k) ls q e a)
  un_step (item ∷ k) ls q e a = un_begins k ls q e a
  un_step (opening ∷ k) ls q e a = un_open k ls q e (is_sign 40 q) refl a
  un_step (closing ∷ k) ls q e a = un_leaf (ASign 41) k ls q e (is_sign 41 q) refl a
