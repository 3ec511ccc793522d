-- The grammar as a machine that reads one token at a time over a stack of what is still to come.
use Rattle.std.specs.Prelude.{ℕ, zero, suc, Bool, true, false, cond, ◌||◌, List, [], ◌∷◌, ◌++◌, is_some, Some, None, Option, ◌==◌}
use Rattle.lex.specs.Tokens.{Tok}
use Rattle.lex.specs.Next.{is_end}
use Rattle.lex.specs.declared.Keyword.{Keyword}
use Rattle.lex.specs.declared.Keyword.TheVariants.{Site, Def, Put, Run, Nil, Out, In, Read, Eval, Newloc, Num, Word as WordKey}
use Rattle.lex.specs.declared.Kind.{Kind}
use Rattle.lex.specs.declared.Kind.TheVariants.{End, Reserved, Name, Variable, Word, Number, Sign}
use Rattle.syntax.specs.Limits.{Limits, strict}
use Rattle.syntax.specs.Tree.{Ty, num_type, word_type, site_type}
use Rattle.syntax.specs.declared.Terminal.{Terminal}
use Rattle.syntax.specs.declared.Terminal.TheVariants.{Sign as ASign, Name as AName, Variable as AVariable, TypeWord as AType, Target as ATarget}
use Rattle.syntax.specs.declared.Entries.{Entries}
use Rattle.syntax.specs.declared.Entries.TheVariants.{Fields, Places, Params}
use Rattle.syntax.specs.declared.Lines.{Lines}
use Rattle.syntax.specs.declared.Lines.TheVariants.{Sites, Defs, Puts, Runs}

-- what may come any number of times
pub data Repeat : Type 0 where
  aliases : Repeat
  bars : Repeat
  lines : Lines → Repeat

-- what may be still to come; a closing bracket is one of a process
pub data Sym : Type 0 where
  leaf : Terminal → Sym
  entry : Entries → Sym
  more : Entries → ℕ → Sym
  upto : Entries → Sym
  many : Repeat → Sym
  proc : Sym
  item : Sym
  opening : Sym
  closing : Sym

-- this sign
abbrev pub sign : ℕ → Sym
sign c = leaf (ASign c)

-- why a token is refused
pub data Why : Type 0 where
  unexpected : Why
  deep : Why
  outside : Why

-- the number of a refusal
abbrev pub number : Why → ℕ
number unexpected = 2
number deep = 3
number outside = 4

-- what a token does: something is then to come, or it is refused, or all was read
pub data Step : Type 0 where
  go : List Sym → Step
  no : Why → Step
  done : Step

-- the reserved words, numbered
abbrev pub tag : Keyword → ℕ
tag Site = 0
tag Def = 1
tag Put = 2
tag Run = 3
tag Nil = 4
tag Out = 5
tag In = 6
tag Read = 7
tag Eval = 8
tag Newloc = 9
tag Num = 10
tag WordKey = 11

-- whether the token is this reserved word
abbrev pub is_key : Keyword → Kind → Bool
is_key w End = false
is_key w (Reserved v) = tag v == tag w
is_key w Name = false
is_key w Variable = false
is_key w Word = false
is_key w (Number v) = false
is_key w (Sign b) = false

-- whether it is this sign
abbrev pub is_sign : ℕ → Kind → Bool
is_sign c End = false
is_sign c (Reserved w) = false
is_sign c Name = false
is_sign c Variable = false
is_sign c Word = false
is_sign c (Number v) = false
is_sign c (Sign b) = b == c

-- whether it is a name
abbrev pub is_name : Kind → Bool
is_name End = false
is_name (Reserved w) = false
is_name Name = true
is_name Variable = false
is_name Word = false
is_name (Number v) = false
is_name (Sign b) = false

-- whether it is a variable
abbrev pub is_variable : Kind → Bool
is_variable End = false
is_variable (Reserved w) = false
is_variable Name = false
is_variable Variable = true
is_variable Word = false
is_variable (Number v) = false
is_variable (Sign b) = false

-- the type that a reserved word names
abbrev pub type_of : Keyword → Option Ty
type_of Site = Some site_type
type_of Def = None
type_of Put = None
type_of Run = None
type_of Nil = None
type_of Out = None
type_of In = None
type_of Read = None
type_of Eval = None
type_of Newloc = None
type_of Num = Some num_type
type_of WordKey = Some word_type

-- whether the token names a type
abbrev pub is_type : Kind → Bool
is_type End = false
is_type (Reserved w) = is_some (type_of w)
is_type Name = false
is_type Variable = false
is_type Word = false
is_type (Number v) = false
is_type (Sign b) = false

-- a token that stands for a terminal
abbrev pub fits : Terminal → Kind → Bool
fits (ASign c) t = is_sign c t
fits AName t = is_name t
fits AVariable t = is_variable t
fits AType t = is_type t
fits ATarget t = is_name t || is_variable t

-- whether a field may be this token
abbrev pub is_field : Kind → Bool
is_field End = false
is_field (Reserved w) = false
is_field Name = true
is_field Variable = true
is_field Word = true
is_field (Number v) = true
is_field (Sign b) = false

-- a token that an entry begins with
abbrev pub starts : Entries → Kind → Bool
starts Fields t = is_field t
starts Places t = is_sign 33 t || is_field t
starts Params t = is_variable t

-- the token is taken where the test holds, and k is then to come
abbrev pub takes : Bool → List Sym → Step
takes b k = cond b (go k) (no unexpected)

-- a field is this token, and k comes after it
abbrev pub fielded : Limits → List Sym → Kind → Step
fielded l k End = no unexpected
fielded l k (Reserved w) = no unexpected
fielded l k Name = go k
fielded l k Variable = go k
fielded l k Word = go k
fielded l k (Number v) = cond (l.range v) (go k) (no outside)
fielded l k (Sign b) = no unexpected

-- an entry begins with this token, and k comes after it
abbrev pub entered : Limits → Entries → List Sym → Kind → Step
entered l Fields k t = fielded l k t
entered l Places k t = cond (is_sign 33 t) (go (leaf AVariable ∷ sign 58 ∷ leaf AType ∷ k)) (fielded l k t)
entered l Params k t = takes (is_variable t) (sign 58 ∷ leaf AType ∷ k)

-- the word that lines begin with
abbrev pub line_key : Lines → Keyword
line_key Sites = Site
line_key Defs = Def
line_key Puts = Put
line_key Runs = Run

-- whether one more of the repeated begins with the token
abbrev pub heads : Repeat → Kind → Bool
heads aliases t = is_name t
heads bars t = is_sign 124 t
heads (lines L) t = is_key (line_key L) t

-- what follows the first word of a line
abbrev pub line_body : Lines → List Sym
line_body Sites = leaf AName ∷ sign 123 ∷ many aliases ∷ sign 125 ∷ []
line_body Defs = leaf AName ∷ sign 40 ∷ upto Params ∷ sign 41 ∷ sign 61 ∷ proc ∷ sign 59 ∷ []
line_body Puts = leaf AName ∷ sign 40 ∷ entry Fields ∷ more Fields 3 ∷ sign 41 ∷ sign 59 ∷ []
line_body Runs = leaf AName ∷ proc ∷ sign 59 ∷ []

-- what follows the token that the repeated begins with
abbrev pub body : Repeat → List Sym
body aliases = sign 61 ∷ leaf AName ∷ sign 59 ∷ []
body bars = item ∷ []
body (lines L) = line_body L

-- whether a process bracket is to be closed
abbrev pub is_closing : Sym → Bool
is_closing (leaf c) = false
is_closing (entry E) = false
is_closing (more E n) = false
is_closing (upto E) = false
is_closing (many R) = false
is_closing proc = false
is_closing item = false
is_closing opening = false
is_closing closing = true

-- how many brackets are open: as many as are to be closed
abbrev pub opens : List Sym → ℕ
opens [] = 0
opens (s ∷ k) = cond (is_closing s) (suc (opens k)) (opens k)

-- one more bracket is opened, where there is room
abbrev pub opened : Limits → List Sym → Step
opened l k = cond (l.room (opens k)) (go (proc ∷ closing ∷ k)) (no deep)

-- what follows the word of an action that lists entries, and its target
abbrev pub listed : Entries → List Sym
listed E = sign 40 ∷ entry E ∷ more E 3 ∷ sign 41 ∷ sign 64 ∷ leaf ATarget ∷ []

-- what follows an action's word
abbrev pub verb : Keyword → Option (List Sym)
verb Site = None
verb Def = None
verb Put = None
verb Run = None
verb Nil = None
verb Out = Some (listed Fields)
verb In = Some (listed Places)
verb Read = Some (listed Places)
verb Eval = Some (opening ∷ sign 64 ∷ leaf ATarget ∷ [])
verb Newloc = Some (sign 40 ∷ leaf AVariable ∷ sign 41 ∷ [])
verb Num = None
verb WordKey = None

-- behind an action comes a dot and an item
abbrev pub acted : List Sym → Option (List Sym) → Step
acted k (Some ss) = go (ss ++ sign 46 ∷ item ∷ k)
acted k None = no unexpected

-- an item begins with this reserved word, and k comes after it
abbrev pub worded : List Sym → Keyword → Step
worded k w = cond (tag w == tag Nil) (go k) (acted k (verb w))

-- an item begins with this token, and k comes after it
abbrev pub begins : Limits → List Sym → Kind → Step
begins l k End = no unexpected
begins l k (Reserved w) = worded k w
begins l k Name = go (sign 40 ∷ upto Fields ∷ sign 41 ∷ k)
begins l k Variable = no unexpected
begins l k Word = no unexpected
begins l k (Number v) = no unexpected
begins l k (Sign b) = cond (b == 40) (opened l k) (no unexpected)

-- the step at a token, where the stack is still to come
abbrev pub step : Limits → List Sym → Kind → Step
step l [] t = cond (is_end t) done (no unexpected)
step l (leaf c ∷ k) t = takes (fits c t) k
step l (entry E ∷ k) t = entered l E k t
step l (more E zero ∷ k) t = step l k t
step l (more E (suc n) ∷ k) t = cond (is_sign 44 t) (go (entry E ∷ more E n ∷ k)) (step l k t)
step l (upto E ∷ k) t = cond (starts E t) (entered l E (more E 3 ∷ k) t) (step l k t)
step l (many R ∷ k) t = cond (heads R t) (go (body R ++ many R ∷ k)) (step l k t)
step l (proc ∷ k) t = begins l (many bars ∷ k) t
step l (item ∷ k) t = begins l k t
step l (opening ∷ k) t = cond (is_sign 40 t) (opened l k) (no unexpected)
step l (closing ∷ k) t = takes (is_sign 41 t) k

-- what a whole text is made of
abbrev pub net : List Sym
net = many (lines Sites) ∷ many (lines Defs) ∷ many (lines Puts) ∷ many (lines Runs) ∷ []

-- the number and the place of the answer: (0, the place of the end) where all is read.
-- Each text has its end as a token, so that no answer is (5, 0).
unfoldable pub run : List Sym → List Tok → ℕ × ℕ
run k [] = (5, 0)
run k (t ∷ ts) = elim t.kind [ Some q ↦ elim (step strict k q) [ go k' ↦ run k' ts | no w ↦ (number w, t.start) | done ↦ (0, t.start) ] | None ↦ (2, t.start) ]
