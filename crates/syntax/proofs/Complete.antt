-- The machine accepts every net that keeps to the limits.
use Rattle.std.proofs.Common.{◌≡◌, ℕ, zero, suc, Bool, true, false, List, [], ◌∷◌, Some, None, Option, refl, ap, ◌∙◌}
use Rattle.std.proofs.lemmas.Bool.{cond-true}
use Rattle.lex.specs.declared.Kind.{Kind}
use Rattle.lex.specs.declared.Kind.TheVariants.{End, Reserved, Name, Variable, Word, Number, Sign}
use Rattle.syntax.specs.Limits.{Limits, FieldFits, MoreFit, SomeFit, UptoFit, ProcFits, ItemFits, ActionFits, AllFit, NetFits}
use Rattle.syntax.specs.Machine.{aliases, bars, lines, Sym, leaf, entry, more, upto, many, proc, item, opening, closing, sign, deep, outside, Step, go, no, done, opens, net, step}
use Rattle.syntax.specs.Tree.{Field, number, word, name, variable, Target, to_name, to_variable, Ty, num_type, word_type, site_type, Typed, field, formal, More, OneToFour, UpToFour, Proc, one, par, Item, nil, call, act, group, Action, out, inp, read, eval, newloc, Alias, DefLine, PutLine, RunLine, Net, Leaf, last, mark, bar, key, name_leaf, variable_leaf, word_leaf, number_leaf, odd, field_text, target_text, type_key, typed_text, more_text, some_text, upto_text, proc_text, item_text, action_text, many_text, def_text, put_text, run_text, net_text}
use Rattle.syntax.specs.declared.Entries.{Entries}
use Rattle.syntax.specs.declared.Entries.TheVariants.{Fields, Places, Params}
use Rattle.syntax.specs.declared.Lines.{Lines}
use Rattle.syntax.specs.declared.Lines.TheVariants.{Sites, Defs, Puts, Runs}
use Rattle.syntax.specs.declared.Terminal.TheVariants.{TypeWord as AType, Target as ATarget}
use Rattle.syntax.proofs.Shape.{EntryOf, entry_text, EntryFits, LineOf, line_text, LineFits, body_text}

abbrev pub kind_of : Leaf → Option Kind
kind_of last = Some End
kind_of (mark b) = Some (Sign b)
kind_of (bar s) = Some (Sign 124)
kind_of (key w s) = Some (Reserved w)
kind_of (name_leaf w) = Some Name
kind_of (variable_leaf w) = Some Variable
kind_of (word_leaf w) = Some Word
kind_of (number_leaf v s) = Some (Number v)
kind_of odd = None

abbrev pub is_nil : List Leaf → Bool
is_nil [] = true
is_nil (x ∷ xs) = false

module _ (l : Limits) where
  -- whether the machine accepts the leaves
  unfoldable pub acc : List Sym → List Leaf → Bool
  acc k [] = false
  acc k (x ∷ xs) = elim (kind_of x) [ Some q ↦ elim (step l k q) [ go k' ↦ acc k' xs | no w ↦ false | done ↦ is_nil xs ] | None ↦ false ]

  all-number : (k : List Sym) (r : List Leaf) (f : Field) → FieldFits l f → acc (entry Fields ∷ k) (field_text f r) ≡ acc k r
  unfolding acc
  all-number k r (number v s) h =
      let f : Step → Bool = elim [ go k' ↦ acc k' r | no w ↦ false | done ↦ is_nil r ] in
      ap f (cond-true (l.range v) (go k) (no outside) h)
  all-number k r (word w) h = refl
  all-number k r (name w) h = refl
  all-number k r (variable w) h = refl

  place-field : (k : List Sym) (r : List Leaf) (f : Field) → acc (entry Places ∷ k) (field_text f r) ≡ acc (entry Fields ∷ k) (field_text f r)
  unfolding acc
  place-field k r (number v s) = refl
  place-field k r (word w) = refl
  place-field k r (name w) = refl
  place-field k r (variable w) = refl

  all-type : (k : List Sym) (r : List Leaf) (y : Ty) (s : ℕ) → acc (leaf AType ∷ k) (key (type_key y) s ∷ r) ≡ acc k r
  unfolding acc
  all-type k r num_type s = refl
  all-type k r word_type s = refl
  all-type k r site_type s = refl

  all-entry : (E : Entries) (k : List Sym) (r : List Leaf) (x : EntryOf E) → EntryFits l E x → acc (entry E ∷ k) (entry_text E x r) ≡ acc k r
  unfolding acc
  all-entry Fields k r f h = all-number k r f h
  all-entry Places k r (field f) h = place-field k r f ∙ all-number k r f h
  all-entry Places k r (formal v) h = all-type k r v.type v.at
  all-entry Params k r v h = all-type k r v.type v.at

  -- lists, which a closing bracket ends

  all_more : (E : Entries) (n : ℕ) (m : More (EntryOf E) n) (k : List Sym) (r : List Leaf) → MoreFit (EntryFits l E) n m → acc (more E n ∷ k) (more_text (entry_text E) n m (mark 41 ∷ r)) ≡ acc k (mark 41 ∷ r)
  unfolding acc
  all_more E zero m k r h = refl
  all_more E (suc n) None k r h = refl
  all_more E (suc n) (Some am) k r h = all-entry E (more E n ∷ k) (more_text (entry_text E) n am.1 (mark 41 ∷ r)) am.0 h.0 ∙ all_more E n am.1 k r h.1

  all_some : (E : Entries) (am : OneToFour (EntryOf E)) (k : List Sym) (r : List Leaf) → SomeFit (EntryFits l E) am → acc (entry E ∷ more E 3 ∷ k) (some_text (entry_text E) am (mark 41 ∷ r)) ≡ acc k (mark 41 ∷ r)
  all_some E am k r h = all-entry E (more E 3 ∷ k) (more_text (entry_text E) 3 am.1 (mark 41 ∷ r)) am.0 h.0 ∙ all_more E 3 am.1 k r h.1

  upto-field : (k : List Sym) (r : List Leaf) (f : Field) → acc (upto Fields ∷ k) (field_text f r) ≡ acc (entry Fields ∷ more Fields 3 ∷ k) (field_text f r)
  unfolding acc
  upto-field k r (number v s) = refl
  upto-field k r (word w) = refl
  upto-field k r (name w) = refl
  upto-field k r (variable w) = refl

  all-fields : (o : UpToFour Field) (k : List Sym) (r : List Leaf) → UptoFit (FieldFits l) o → acc (upto Fields ∷ k) (upto_text field_text o (mark 41 ∷ r)) ≡ acc k (mark 41 ∷ r)
  unfolding acc
  all-fields None k r h = refl
  all-fields (Some am) k r h = upto-field k (more_text field_text 3 am.1 (mark 41 ∷ r)) am.0 ∙ all_some Fields am k r h

  fit_params : (n : ℕ) (m : More Typed n) → MoreFit (EntryFits l Params) n m
  fit_params zero m = tt
  fit_params (suc n) None = tt
  fit_params (suc n) (Some am) = (tt, fit_params n am.1)

  all_params : (o : UpToFour Typed) (k : List Sym) (r : List Leaf) → acc (upto Params ∷ k) (upto_text typed_text o (mark 41 ∷ r)) ≡ acc k (mark 41 ∷ r)
  unfolding acc
  all_params None k r = refl
  all_params (Some am) k r = all_some Params am k r (tt, fit_params 3 am.1)

  all-target : (t : Target) (k : List Sym) (r : List Leaf) → acc (leaf ATarget ∷ k) (target_text t r) ≡ acc k r
  unfolding acc
  all-target (to_name w) k r = refl
  all-target (to_variable w) k r = refl

  -- processes

  at-opening : (k : List Sym) (r : List Leaf) → l.room (opens k) ≡ true → acc (opening ∷ k) (mark 40 ∷ r) ≡ acc (proc ∷ closing ∷ k) r
  unfolding acc
  at-opening k r h =
      let f : Step → Bool = elim [ go k' ↦ acc k' r | no w ↦ false | done ↦ is_nil r ] in
      ap f (cond-true (l.room (opens k)) (go (proc ∷ closing ∷ k)) (no deep) h)

  at-group : (k : List Sym) (r : List Leaf) → acc (item ∷ k) (mark 40 ∷ r) ≡ acc (opening ∷ k) (mark 40 ∷ r)
  unfolding acc
  at-group k r = refl

  at-proc : (k : List Sym) (r : List Leaf) → acc (proc ∷ k) r ≡ acc (item ∷ many bars ∷ k) r
  unfolding acc
  at-proc k [] = refl
  at-proc k (x ∷ r) = refl

  mutual
    unfolding acc

    pub all-proc : (p : Proc) (k : List Sym) (r : List Leaf) → ProcFits l p (opens k) → acc (proc ∷ k) (proc_text p r) ≡ acc (many bars ∷ k) r
    all-proc (one i) k r h = at-proc k (item_text i r) ∙ all-item i (many bars ∷ k) r h
    all-proc (par p b i) k r h = all-proc p k (bar b ∷ item_text i r) h.0 ∙ all-item i (many bars ∷ k) r h.1

    all-item : (i : Item) (k : List Sym) (r : List Leaf) → ItemFits l i (opens k) → acc (item ∷ k) (item_text i r) ≡ acc k r
    all-item (nil s) k r h = refl
    all-item (call w fs) k r h = all-fields fs (sign 41 ∷ k) r h
    all-item (act a i) k r h = all_action a k (mark 46 ∷ item_text i r) h.0 ∙ all-item i k r h.1
    all-item (group p) k r h = at-group k (proc_text p (mark 41 ∷ r)) ∙ at-opening k (proc_text p (mark 41 ∷ r)) h.0 ∙ all-proc p (closing ∷ k) (mark 41 ∷ r) h.1

    -- the word of an action leaves its item's rest to come
    all_action : (a : Action) (k : List Sym) (r : List Leaf) → ActionFits l a (opens k) → acc (item ∷ k) (action_text a r) ≡ acc (sign 46 ∷ item ∷ k) r
    all_action (out s fs t) k r h =
        all_some Fields fs (sign 41 ∷ sign 64 ∷ leaf ATarget ∷ sign 46 ∷ item ∷ k) (mark 64 ∷ target_text t r) h ∙ all-target t (sign 46 ∷ item ∷ k) r
    all_action (inp s ps t) k r h =
        all_some Places ps (sign 41 ∷ sign 64 ∷ leaf ATarget ∷ sign 46 ∷ item ∷ k) (mark 64 ∷ target_text t r) h ∙ all-target t (sign 46 ∷ item ∷ k) r
    all_action (read s ps t) k r h =
        all_some Places ps (sign 41 ∷ sign 64 ∷ leaf ATarget ∷ sign 46 ∷ item ∷ k) (mark 64 ∷ target_text t r) h ∙ all-target t (sign 46 ∷ item ∷ k) r
    all_action (eval s p t) k r h =
        at-opening (sign 64 ∷ leaf ATarget ∷ sign 46 ∷ item ∷ k) (proc_text p (mark 41 ∷ mark 64 ∷ target_text t r)) h.0
        ∙ all-proc p (closing ∷ sign 64 ∷ leaf ATarget ∷ sign 46 ∷ item ∷ k) (mark 41 ∷ mark 64 ∷ target_text t r) h.1 ∙ all-target t (sign 46 ∷ item ∷ k) r
    all_action (newloc s v) k r h = refl

  -- lines

  all-aliases : (xs : List Alias) (k : List Sym) (r : List Leaf) → acc (many aliases ∷ k) (many_text (body_text aliases) xs r) ≡ acc (many aliases ∷ k) r
  unfolding acc
  all-aliases [] k r = refl
  all-aliases (x ∷ xs) k r = all-aliases xs k r

  all_line : (L : Lines) (x : LineOf L) (k : List Sym) (r : List Leaf) → LineFits l L x (opens k) → acc (many (lines L) ∷ k) (line_text L x r) ≡ acc (many (lines L) ∷ k) r
  unfolding acc
  all_line Sites x k r h = all-aliases x.aliases (sign 125 ∷ many (lines Sites) ∷ k) (mark 125 ∷ r)
  all_line Defs x k r h =
      all_params x.params (sign 41 ∷ sign 61 ∷ proc ∷ sign 59 ∷ many (lines Defs) ∷ k) (mark 61 ∷ proc_text x.body (mark 59 ∷ r))
      ∙ all-proc x.body (sign 59 ∷ many (lines Defs) ∷ k) (mark 59 ∷ r) h
  all_line Puts x k r h = all_some Fields x.fields (sign 41 ∷ sign 59 ∷ many (lines Puts) ∷ k) (mark 59 ∷ r) h
  all_line Runs x k r h = all-proc x.body (sign 59 ∷ many (lines Runs) ∷ k) (mark 59 ∷ r) h

  all_lines : (L : Lines) (xs : List (LineOf L)) (k : List Sym) (r : List Leaf) → AllFit (λ x. LineFits l L x (opens k)) xs → acc (many (lines L) ∷ k) (many_text (line_text L) xs r) ≡ acc (many (lines L) ∷ k) r
  all_lines L [] k r h = refl
  all_lines L (x ∷ xs) k r h = all_line L x k (many_text (line_text L) xs r) h.0 ∙ all_lines L xs k r h.1

  all_fit : {A : Type 0} (xs : List A) → AllFit (λ x. Unit {0}) xs
  all_fit [] = tt
  all_fit (x ∷ xs) = (tt, all_fit xs)

  -- where the lines of one sort end

  abbrev runs_text : List RunLine → List Leaf
  runs_text rs = many_text run_text rs (last ∷ [])

  abbrev puts_text : List PutLine → List RunLine → List Leaf
  puts_text ps rs = many_text put_text ps (runs_text rs)

  abbrev defs_text : List DefLine → List PutLine → List RunLine → List Leaf
  defs_text ds ps rs = many_text def_text ds (puts_text ps rs)

  no-sites : (ds : List DefLine) (ps : List PutLine) (rs : List RunLine) (k : List Sym) → acc (many (lines Sites) ∷ k) (defs_text ds ps rs) ≡ acc k (defs_text ds ps rs)
  unfolding acc
  no-sites (d ∷ ds) ps rs k = refl
  no-sites [] (p ∷ ps) rs k = refl
  no-sites [] [] (r ∷ rs) k = refl
  no-sites [] [] [] k = refl

  no-defs : (ps : List PutLine) (rs : List RunLine) (k : List Sym) → acc (many (lines Defs) ∷ k) (puts_text ps rs) ≡ acc k (puts_text ps rs)
  unfolding acc
  no-defs (p ∷ ps) rs k = refl
  no-defs [] (r ∷ rs) k = refl
  no-defs [] [] k = refl

  no-puts : (rs : List RunLine) (k : List Sym) → acc (many (lines Puts) ∷ k) (runs_text rs) ≡ acc k (runs_text rs)
  unfolding acc
  no-puts (r ∷ rs) k = refl
  no-puts [] k = refl

  at-end : acc (many (lines Runs) ∷ []) (last ∷ []) ≡ true
  unfolding acc
  at-end = refl

  pub all-net : (n : Net) → NetFits l n → acc net (net_text n (last ∷ [])) ≡ true
  all-net n h =
      all_lines Sites n.sites _ (defs_text n.defs n.puts n.runs) (all_fit n.sites) ∙ no-sites n.defs n.puts n.runs _
      ∙ all_lines Defs n.defs _ (puts_text n.puts n.runs) h.0 ∙ no-defs n.puts n.runs _
      ∙ all_lines Puts n.puts _ (runs_text n.runs) h.1 ∙ no-puts n.runs _
      ∙ all_lines Runs n.runs _ (last ∷ []) h.2 ∙ at-end
