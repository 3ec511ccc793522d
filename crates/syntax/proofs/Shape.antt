-- What each symbol of the stack stands for, and that a step of the machine builds it.
use Rattle.std.proofs.Common.{◌≡◌, ℕ, suc, true, cond, eqb, List, [], ◌∷◌, ◌++◌, is_some, sym, refl, ap, ◌∙◌}
use Rattle.std.proofs.lemmas.Bool.{false≢true, eqb-true}
use Rattle.lex.specs.declared.Keyword.{Keyword}
use Rattle.lex.specs.declared.Keyword.TheVariants.{Site, Def, Put, Run, Nil, Out, In, Read, Eval, Newloc, Num, Word as WordKey}
use Rattle.lex.specs.declared.Kind.{Kind}
use Rattle.lex.specs.declared.Kind.TheVariants.{End, Reserved, Name, Variable, Word, Number, Sign}
use Rattle.syntax.specs.Limits.{Limits, FieldFits, PlaceFits, MoreFit, SomeFit, UptoFit, ProcFits, ItemFits, AllFit}
use Rattle.syntax.specs.Machine.{Repeat, aliases, bars, lines, Sym, leaf, entry, more, upto, many, proc, item, opening, closing, Step, go, no, done, tag, is_key, is_sign, is_name, is_variable, type_of, is_type, opens}
use Rattle.syntax.specs.Tree.{Named, Field, Target, Ty, num_type, word_type, site_type, Typed, Place, More, UpToFour, Proc, par, Item, Alias, SiteLine, DefLine, PutLine, RunLine, Leaf, last, mark, bar, key, name_leaf, variable_leaf, field_text, target_text, type_key, typed_text, place_text, more_text, upto_text, proc_text, item_text, many_text, alias_text, site_text, def_text, put_text, run_text}
use Rattle.syntax.specs.declared.Entries.{Entries}
use Rattle.syntax.specs.declared.Entries.TheVariants.{Fields, Places, Params}
use Rattle.syntax.specs.declared.Lines.{Lines}
use Rattle.syntax.specs.declared.Lines.TheVariants.{Sites, Defs, Puts, Runs}
use Rattle.syntax.specs.declared.Terminal.{Terminal}
use Rattle.syntax.specs.declared.Terminal.TheVariants.{Sign as ASign, Name as AName, Variable as AVariable, TypeWord as AType, Target as ATarget}

-- what stands for a terminal, and how it is written

abbrev pub TermOf : Terminal → Type 0
TermOf (ASign c) = ℕ
TermOf AName = Named
TermOf AVariable = Named
TermOf AType = Ty × ℕ
TermOf ATarget = Target

abbrev pub term_text : (c : Terminal) → TermOf c → List Leaf → List Leaf
term_text (ASign c) s r = cond (eqb c 124) (bar s) (mark c) ∷ r
term_text AName w r = name_leaf w ∷ r
term_text AVariable w r = variable_leaf w ∷ r
term_text AType y r = key (type_key y.0) y.1 ∷ r
term_text ATarget t r = target_text t r

-- for an entry

abbrev pub EntryOf : Entries → Type 0
EntryOf Fields = Field
EntryOf Places = Place
EntryOf Params = Typed

abbrev pub entry_text : (E : Entries) → EntryOf E → List Leaf → List Leaf
entry_text Fields f r = field_text f r
entry_text Places p r = place_text p r
entry_text Params v r = typed_text v r

abbrev pub EntryFits : Limits → (E : Entries) → EntryOf E → Type 0
EntryFits l Fields f = FieldFits l f
EntryFits l Places p = PlaceFits l p
EntryFits l Params v = Unit {0}

-- for what is repeated

abbrev pub LineOf : Lines → Type 0
LineOf Sites = SiteLine
LineOf Defs = DefLine
LineOf Puts = PutLine
LineOf Runs = RunLine

abbrev pub BodyOf : Repeat → Type 0
BodyOf aliases = Alias
BodyOf bars = ℕ × Item
BodyOf (lines L) = LineOf L

abbrev pub line_text : (L : Lines) → LineOf L → List Leaf → List Leaf
line_text Sites x r = site_text x r
line_text Defs x r = def_text x r
line_text Puts x r = put_text x r
line_text Runs x r = run_text x r

abbrev pub body_text : (R : Repeat) → BodyOf R → List Leaf → List Leaf
body_text aliases x r = alias_text x r
body_text bars x r = bar x.0 ∷ item_text x.1 r
body_text (lines L) x r = line_text L x r

abbrev pub LineFits : Limits → (L : Lines) → LineOf L → ℕ → Type 0
LineFits l Sites x n = Unit {0}
LineFits l Defs x n = ProcFits l x.body n
LineFits l Puts x n = SomeFit (FieldFits l) x.fields
LineFits l Runs x n = ProcFits l x.body n

abbrev pub BodyFits : Limits → (R : Repeat) → BodyOf R → ℕ → Type 0
BodyFits l aliases x n = Unit {0}
BodyFits l bars x n = ItemFits l x.1 n
BodyFits l (lines L) x n = LineFits l L x n

-- for a symbol

abbrev pub Sort : Sym → Type 0
Sort (leaf c) = TermOf c
Sort (entry E) = EntryOf E
Sort (more E n) = More (EntryOf E) n
Sort (upto E) = UpToFour (EntryOf E)
Sort (many R) = List (BodyOf R)
Sort proc = Proc
Sort item = Item
Sort opening = Proc
Sort closing = ℕ

abbrev pub text : (s : Sym) → Sort s → List Leaf → List Leaf
text (leaf c) w r = term_text c w r
text (entry E) w r = entry_text E w r
text (more E n) w r = more_text (entry_text E) n w r
text (upto E) w r = upto_text (entry_text E) w r
text (many R) w r = many_text (body_text R) w r
text proc p r = proc_text p r
text item i r = item_text i r
text opening p r = mark 40 ∷ proc_text p (mark 41 ∷ r)
text closing s r = mark 41 ∷ r

abbrev pub Fits : Limits → (s : Sym) → Sort s → ℕ → Type 0
Fits l (leaf c) w n = Unit {0}
Fits l (entry E) w n = EntryFits l E w
Fits l (more E m) w n = MoreFit (EntryFits l E) m w
Fits l (upto E) w n = UptoFit (EntryFits l E) w
Fits l (many R) w n = AllFit (λ x. BodyFits l R x n) w
Fits l proc p n = ProcFits l p n
Fits l item i n = ItemFits l i n
Fits l opening p n = (l.room n ≡ true) × ProcFits l p (suc n)
Fits l closing s n = Unit {0}

-- for a stack, up to the text's end

abbrev pub Stands : Limits → List Sym → List Leaf → Type 0
Stands l [] ls = ls ≡ last ∷ []
Stands l (s ∷ k) ls = (w : Sort s) × (rest : List Leaf) × (ls ≡ text s w rest) × Fits l s w (opens k) × Stands l k rest

abbrev pub After : Limits → Step → List Leaf → Type 0
After l (go k) ls = Stands l k ls
After l (no w) ls = ⊥
After l done ls = ls ≡ []

-- for the front of a stack

abbrev pub Sorts : List Sym → Type 0
Sorts [] = Unit {0}
Sorts (s ∷ ss) = Sort s × Sorts ss

abbrev pub texts : (ss : List Sym) → Sorts ss → List Leaf → List Leaf
texts [] w r = r
texts (s ∷ ss) w r = text s w.0 (texts ss w.1 r)

abbrev pub AllFits : Limits → (ss : List Sym) → Sorts ss → List Sym → Type 0
AllFits l [] w k = Unit {0}
AllFits l (s ∷ ss) w k = Fits l s w.0 (opens (ss ++ k)) × AllFits l ss w.1 k

pub split : (l : Limits) (ss k : List Sym) (ls : List Leaf) → Stands l (ss ++ k) ls → (w : Sorts ss) × (rest : List Leaf) × (ls ≡ texts ss w rest) × AllFits l ss w k × Stands l k rest
split l [] k ls a = (tt, ls, refl, tt, a)
split l (s ∷ ss) k ls a =
    let b = split l ss k a.1 a.4 in
    ((a.0, b.0), b.1, a.2 ∙ ap (text s a.0) b.2, (a.3, b.3), b.4)

-- items behind the first of a process

abbrev pub grow : Proc → List (ℕ × Item) → Proc
grow p [] = p
grow p (x ∷ xs) = grow (par p x.0 x.1) xs

pub grow_text : (xs : List (ℕ × Item)) (p : Proc) (r : List Leaf) → proc_text (grow p xs) r ≡ proc_text p (many_text (body_text bars) xs r)
grow_text [] p r = refl
grow_text (x ∷ xs) p r = grow_text xs (par p x.0 x.1) r

pub grow_fits : (l : Limits) (xs : List (ℕ × Item)) (p : Proc) (n : ℕ) → ProcFits l p n → AllFit (λ x. BodyFits l bars x n) xs → ProcFits l (grow p xs) n
grow_fits l [] p n h g = h
grow_fits l (x ∷ xs) p n h g = grow_fits l xs (par p x.0 x.1) n (h, g.0) g.1

-- what a test says of a token

pub sign-is : (c : ℕ) (q : Kind) → is_sign c q ≡ true → q ≡ Sign c
sign-is c End h = absurd (false≢true h)
sign-is c (Reserved w) h = absurd (false≢true h)
sign-is c Name h = absurd (false≢true h)
sign-is c Variable h = absurd (false≢true h)
sign-is c Word h = absurd (false≢true h)
sign-is c (Number v) h = absurd (false≢true h)
sign-is c (Sign b) h = ap Sign (eqb-true b c h)

pub name-is : (q : Kind) → is_name q ≡ true → q ≡ Name
name-is End h = absurd (false≢true h)
name-is (Reserved w) h = absurd (false≢true h)
name-is Name h = refl
name-is Variable h = absurd (false≢true h)
name-is Word h = absurd (false≢true h)
name-is (Number v) h = absurd (false≢true h)
name-is (Sign b) h = absurd (false≢true h)

pub variable-is : (q : Kind) → is_variable q ≡ true → q ≡ Variable
variable-is End h = absurd (false≢true h)
variable-is (Reserved w) h = absurd (false≢true h)
variable-is Name h = absurd (false≢true h)
variable-is Variable h = refl
variable-is Word h = absurd (false≢true h)
variable-is (Number v) h = absurd (false≢true h)
variable-is (Sign b) h = absurd (false≢true h)

type-word : (w : Keyword) → is_some (type_of w) ≡ true → (y : Ty) × (w ≡ type_key y)
type-word Site h = (site_type, refl)
type-word Def h = absurd (false≢true h)
type-word Put h = absurd (false≢true h)
type-word Run h = absurd (false≢true h)
type-word Nil h = absurd (false≢true h)
type-word Out h = absurd (false≢true h)
type-word In h = absurd (false≢true h)
type-word Read h = absurd (false≢true h)
type-word Eval h = absurd (false≢true h)
type-word Newloc h = absurd (false≢true h)
type-word Num h = (num_type, refl)
type-word WordKey h = (word_type, refl)

pub type-is : (q : Kind) → is_type q ≡ true → (y : Ty) × (q ≡ Reserved (type_key y))
type-is End h = absurd (false≢true h)
type-is (Reserved w) h = let y = type-word w h in (y.0, ap Reserved y.1)
type-is Name h = absurd (false≢true h)
type-is Variable h = absurd (false≢true h)
type-is Word h = absurd (false≢true h)
type-is (Number v) h = absurd (false≢true h)
type-is (Sign b) h = absurd (false≢true h)

-- the reserved words, by their tags
abbrev untag : ℕ → Keyword
untag n =
    cond (eqb n 0) Site (cond (eqb n 1) Def (cond (eqb n 2) Put (cond (eqb n 3) Run (cond (eqb n 4) Nil (cond (eqb n 5) Out (cond (eqb n 6) In (cond (eqb n 7) Read (cond (eqb n 8) Eval (cond (eqb n 9) Newloc (cond (eqb n 10) Num WordKey))))))))))

untag_tag : (w : Keyword) → untag (tag w) ≡ w
untag_tag Site = refl
untag_tag Def = refl
untag_tag Put = refl
untag_tag Run = refl
untag_tag Nil = refl
untag_tag Out = refl
untag_tag In = refl
untag_tag Read = refl
untag_tag Eval = refl
untag_tag Newloc = refl
untag_tag Num = refl
untag_tag WordKey = refl

pub key-is : (w : Keyword) (q : Kind) → is_key w q ≡ true → q ≡ Reserved w
key-is w End h = absurd (false≢true h)
key-is w (Reserved v) h = ap Reserved (sym (untag_tag v) ∙ ap untag (eqb-true (tag v) (tag w) h) ∙ untag_tag w)
key-is w Name h = absurd (false≢true h)
key-is w Variable h = absurd (false≢true h)
key-is w Word h = absurd (false≢true h)
key-is w (Number v) h = absurd (false≢true h)
key-is w (Sign b) h = absurd (false≢true h)
