-- What is still to come can be written, within the limits where no bracket has to be opened.
use Rattle.std.proofs.Common.{◌≡◌, ℕ, zero, suc, Bool, true, false, cond, eqb, List, [], ◌∷◌, ◌++◌, None, codes, refl}
use Rattle.lex.specs.Next.{is_end}
use Rattle.lex.specs.declared.Keyword.{Keyword}
use Rattle.lex.specs.declared.Keyword.TheVariants.{Site, Def, Put, Run, Nil, Out, In, Read, Eval, Newloc, Num, Word as WordKey}
use Rattle.lex.specs.declared.Kind.{Kind}
use Rattle.lex.specs.declared.Kind.TheVariants.{End, Reserved, Name, Variable, Word, Number, Sign}
use Rattle.syntax.specs.Limits.{Limits, free, MoreFit}
use Rattle.syntax.specs.Machine.{Repeat, aliases, bars, lines, Sym, leaf, entry, more, upto, many, proc, item, opening, closing, sign, unexpected, deep, outside, Step, go, no, done, tag, is_sign, is_variable, fits, starts, heads, body, takes, fielded, entered, opens, opened, verb, acted, begins, step}
use Rattle.syntax.specs.Tree.{Named, name, to_name, num_type, field, More, one, nil, Leaf, last}
use Rattle.syntax.specs.declared.Entries.{Entries}
use Rattle.syntax.specs.declared.Entries.TheVariants.{Fields, Places, Params}
use Rattle.syntax.specs.declared.Lines.TheVariants.{Sites, Defs, Puts, Runs}
use Rattle.syntax.specs.declared.Terminal.{Terminal}
use Rattle.syntax.specs.declared.Terminal.TheVariants.{Sign as ASign, Name as AName, Variable as AVariable, TypeWord as AType, Target as ATarget}
use Rattle.syntax.proofs.Shape.{TermOf, EntryOf, EntryFits, Sort, text, Fits, Stands}

abbrev some_name : Named
some_name = record { text = codes "a"; start = 0 }

abbrev some_term : (c : Terminal) → TermOf c
some_term (ASign c) = 0
some_term AName = some_name
some_term AVariable = some_name
some_term AType = (num_type, 0)
some_term ATarget = to_name some_name

abbrev some_entry : (E : Entries) → EntryOf E
some_entry Fields = name some_name
some_entry Places = field (name some_name)
some_entry Params = record { var = some_name; type = num_type; at = 0 }

abbrev no_more : (A : Type 0) (n : ℕ) → More A n
no_more A zero = tt
no_more A (suc n) = None

abbrev some : (s : Sym) → Sort s
some (leaf c) = some_term c
some (entry E) = some_entry E
some (more E n) = no_more (EntryOf E) n
some (upto E) = None
some (many R) = []
some proc = one (nil 0)
some item = nil 0
some opening = one (nil 0)
some closing = 0

abbrev pub finish : List Sym → List Leaf
finish [] = last ∷ []
finish (s ∷ k) = text s (some s) (finish k)

-- there is room for each bracket that has to be opened

abbrev RoomFor : Limits → Sym → ℕ → Type 0
RoomFor l (leaf c) n = Unit {0}
RoomFor l (entry E) n = Unit {0}
RoomFor l (more E m) n = Unit {0}
RoomFor l (upto E) n = Unit {0}
RoomFor l (many R) n = Unit {0}
RoomFor l proc n = Unit {0}
RoomFor l item n = Unit {0}
RoomFor l opening n = l.room n ≡ true
RoomFor l closing n = Unit {0}

abbrev pub Room : Limits → List Sym → Type 0
Room l [] = Unit {0}
Room l (s ∷ k) = RoomFor l s (opens k) × Room l k

entry-fits : (l : Limits) (E : Entries) → EntryFits l E (some_entry E)
entry-fits l Fields = tt
entry-fits l Places = tt
entry-fits l Params = tt

more-fits : (l : Limits) (E : Entries) (n : ℕ) → MoreFit (EntryFits l E) n (no_more (EntryOf E) n)
more-fits l E zero = tt
more-fits l E (suc n) = tt

some_fits : (l : Limits) (s : Sym) (n : ℕ) → RoomFor l s n → Fits l s (some s) n
some_fits l (leaf c) n h = tt
some_fits l (entry E) n h = entry-fits l E
some_fits l (more E m) n h = more-fits l E m
some_fits l (upto E) n h = tt
some_fits l (many R) n h = tt
some_fits l proc n h = tt
some_fits l item n h = tt
some_fits l opening n h = (h, tt)
some_fits l closing n h = tt

pub finishes : (l : Limits) (k : List Sym) → Room l k → Stands l k (finish k)
finishes l [] h = refl
finishes l (s ∷ k) h = (some s, finish k, refl, some_fits l s (opens k) h.0, finishes l k h.1)

free-room : (s : Sym) (n : ℕ) → RoomFor free s n
free-room (leaf c) n = tt
free-room (entry E) n = tt
free-room (more E m) n = tt
free-room (upto E) n = tt
free-room (many R) n = tt
free-room proc n = tt
free-room item n = tt
free-room opening n = refl
free-room closing n = tt

all_room : (k : List Sym) → Room free k
all_room [] = tt
all_room (s ∷ k) = (free-room s (opens k), all_room k)

pub finishes_free : (k : List Sym) → Stands free k (finish k)
finishes_free k = finishes free k (all_room k)

-- no bracket has to be opened

abbrev Calm : Sym → Type 0
Calm (leaf c) = Unit {0}
Calm (entry E) = Unit {0}
Calm (more E m) = Unit {0}
Calm (upto E) = Unit {0}
Calm (many R) = Unit {0}
Calm proc = Unit {0}
Calm item = Unit {0}
Calm opening = ⊥
Calm closing = Unit {0}

abbrev pub Clean : List Sym → Type 0
Clean [] = Unit {0}
Clean (s ∷ k) = Calm s × Clean k

calm_room : (l : Limits) (s : Sym) (n : ℕ) → Calm s → RoomFor l s n
calm_room l (leaf c) n h = tt
calm_room l (entry E) n h = tt
calm_room l (more E m) n h = tt
calm_room l (upto E) n h = tt
calm_room l (many R) n h = tt
calm_room l proc n h = tt
calm_room l item n h = tt
calm_room l opening n h = absurd h
calm_room l closing n h = tt

clean-room : (l : Limits) (k : List Sym) → Clean k → Room l k
clean-room l [] h = tt
clean-room l (s ∷ k) h = (calm_room l s (opens k) h.0, clean-room l k h.1)

pub finishes_clean : (l : Limits) (k : List Sym) → Clean k → Stands l k (finish k)
finishes_clean l k h = finishes l k (clean-room l k h)

-- only the first thing to come may be a bracket that has to be opened

abbrev pub Tidy : List Sym → Type 0
Tidy [] = Unit {0}
Tidy (s ∷ k) = Clean k

abbrev pub TidyStep : Step → Type 0
TidyStep (go k) = Tidy k
TidyStep (no w) = Unit {0}
TidyStep done = Unit {0}

clean_tidy : (k : List Sym) → Clean k → Tidy k
clean_tidy [] h = tt
clean_tidy (s ∷ k) h = h.1

tidy_cond : (b : Bool) (x y : Step) → TidyStep x → TidyStep y → TidyStep (cond b x y)
tidy_cond true x y f g = f
tidy_cond false x y f g = g

tidy_takes : (b : Bool) (k : List Sym) → Clean k → TidyStep (takes b k)
tidy_takes b k h = tidy_cond b (go k) (no unexpected) (clean_tidy k h) tt

tidy_field : (l : Limits) (k : List Sym) (q : Kind) → Clean k → TidyStep (fielded l k q)
tidy_field l k End h = tt
tidy_field l k (Reserved w) h = tt
tidy_field l k Name h = clean_tidy k h
tidy_field l k Variable h = clean_tidy k h
tidy_field l k Word h = clean_tidy k h
tidy_field l k (Number v) h = tidy_cond (l.range v) (go k) (no outside) (clean_tidy k h) tt
tidy_field l k (Sign b) h = tt

tidy_entry : (l : Limits) (E : Entries) (k : List Sym) (q : Kind) → Clean k → TidyStep (entered l E k q)
tidy_entry l Fields k q h = tidy_field l k q h
tidy_entry l Places k q h = tidy_cond (is_sign 33 q) (go (leaf AVariable ∷ sign 58 ∷ leaf AType ∷ k)) (fielded l k q) (tt, (tt, h)) (tidy_field l k q h)
tidy_entry l Params k q h = tidy_takes (is_variable q) (sign 58 ∷ leaf AType ∷ k) (tt, (tt, h))

tidy_verb : (k : List Sym) (w : Keyword) → Clean k → TidyStep (acted k (verb w))
tidy_verb k Site h = tt
tidy_verb k Def h = tt
tidy_verb k Put h = tt
tidy_verb k Run h = tt
tidy_verb k Nil h = tt
tidy_verb k Out h = (tt, (tt, (tt, (tt, (tt, (tt, (tt, h)))))))
tidy_verb k In h = (tt, (tt, (tt, (tt, (tt, (tt, (tt, h)))))))
tidy_verb k Read h = (tt, (tt, (tt, (tt, (tt, (tt, (tt, h)))))))
tidy_verb k Eval h = (tt, (tt, (tt, (tt, h))))
tidy_verb k Newloc h = (tt, (tt, (tt, (tt, h))))
tidy_verb k Num h = tt
tidy_verb k WordKey h = tt

tidy_open : (l : Limits) (k : List Sym) → Clean k → TidyStep (opened l k)
tidy_open l k h = tidy_cond (l.room (opens k)) (go (proc ∷ closing ∷ k)) (no deep) (tt, h) tt

tidy_begins : (l : Limits) (k : List Sym) (q : Kind) → Clean k → TidyStep (begins l k q)
tidy_begins l k End h = tt
tidy_begins l k (Reserved w) h = tidy_cond (eqb (tag w) (tag Nil)) (go k) (acted k (verb w)) (clean_tidy k h) (tidy_verb k w h)
tidy_begins l k Name h = (tt, (tt, h))
tidy_begins l k Variable h = tt
tidy_begins l k Word h = tt
tidy_begins l k (Number v) h = tt
tidy_begins l k (Sign b) h = tidy_cond (eqb b 40) (opened l k) (no unexpected) (tidy_open l k h) tt

tidy_body : (R : Repeat) (k : List Sym) → Clean k → Tidy (body R ++ many R ∷ k)
tidy_body aliases k h = (tt, (tt, (tt, h)))
tidy_body bars k h = (tt, h)
tidy_body (lines Sites) k h = (tt, (tt, (tt, (tt, h))))
tidy_body (lines Defs) k h = (tt, (tt, (tt, (tt, (tt, (tt, (tt, h)))))))
tidy_body (lines Puts) k h = (tt, (tt, (tt, (tt, (tt, (tt, h))))))
tidy_body (lines Runs) k h = (tt, (tt, (tt, h)))

pub tidy_step : (l : Limits) (k : List Sym) (q : Kind) → Tidy k → TidyStep (step l k q)
tidy_step l [] q h = tidy_cond (is_end q) done (no unexpected) tt tt
tidy_step l (leaf c ∷ k) q h = tidy_takes (fits c q) k h
tidy_step l (entry E ∷ k) q h = tidy_entry l E k q h
tidy_step l (more E zero ∷ k) q h = tidy_step l k q (clean_tidy k h)
tidy_step l (more E (suc n) ∷ k) q h = tidy_cond (is_sign 44 q) (go (entry E ∷ more E n ∷ k)) (step l k q) (tt, h) (tidy_step l k q (clean_tidy k h))
tidy_step l (upto E ∷ k) q h = tidy_cond (starts E q) (entered l E (more E 3 ∷ k) q) (step l k q) (tidy_entry l E (more E 3 ∷ k) q (tt, h)) (tidy_step l k q (clean_tidy k h))
tidy_step l (many R ∷ k) q h = tidy_cond (heads R q) (go (body R ++ many R ∷ k)) (step l k q) (tidy_body R k h) (tidy_step l k q (clean_tidy k h))
tidy_step l (proc ∷ k) q h = tidy_begins l (many bars ∷ k) q (tt, h)
tidy_step l (item ∷ k) q h = tidy_begins l k q h
tidy_step l (opening ∷ k) q h = tidy_cond (is_sign 40 q) (opened l k) (no unexpected) (tidy_open l k h) tt
tidy_step l (closing ∷ k) q h = tidy_takes (is_sign 41 q) k h

-- and none is, behind an opening bracket

abbrev pub CleanStep : Step → Type 0
CleanStep (go k) = Clean k
CleanStep (no w) = Unit {0}
CleanStep done = Unit {0}

clean-cond : (b : Bool) (x y : Step) → CleanStep x → CleanStep y → CleanStep (cond b x y)
clean-cond true x y f g = f
clean-cond false x y f g = g

clean_open : (l : Limits) (k : List Sym) → Clean k → CleanStep (opened l k)
clean_open l k h = clean-cond (l.room (opens k)) (go (proc ∷ closing ∷ k)) (no deep) (tt, (tt, h)) tt

pub clean_step : (l : Limits) (k : List Sym) → Tidy k → CleanStep (step l k (Sign 40))
clean_step l [] h = tt
clean_step l (leaf c ∷ k) h = clean-cond (fits c (Sign 40)) (go k) (no unexpected) h tt
clean_step l (entry Fields ∷ k) h = tt
clean_step l (entry Places ∷ k) h = tt
clean_step l (entry Params ∷ k) h = tt
clean_step l (more E zero ∷ k) h = clean_step l k (clean_tidy k h)
clean_step l (more E (suc n) ∷ k) h = clean_step l k (clean_tidy k h)
clean_step l (upto Fields ∷ k) h = clean_step l k (clean_tidy k h)
clean_step l (upto Places ∷ k) h = clean_step l k (clean_tidy k h)
clean_step l (upto Params ∷ k) h = clean_step l k (clean_tidy k h)
clean_step l (many aliases ∷ k) h = clean_step l k (clean_tidy k h)
clean_step l (many bars ∷ k) h = clean_step l k (clean_tidy k h)
clean_step l (many (lines L) ∷ k) h = clean_step l k (clean_tidy k h)
clean_step l (proc ∷ k) h = clean_open l (many bars ∷ k) (tt, h)
clean_step l (item ∷ k) h = clean_open l k h
clean_step l (opening ∷ k) h = clean_open l k h
clean_step l (closing ∷ k) h = tt
