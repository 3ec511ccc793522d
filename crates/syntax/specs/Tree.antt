-- The trees of the grammar, and how each is written.
use Rattle.std.specs.Prelude.{ℕ, zero, suc, List, [], ◌∷◌, ℤ, Some, None, Option}
use Rattle.lex.specs.declared.Keyword.{Keyword}
use Rattle.lex.specs.declared.Keyword.TheVariants.{Site, Def, Put, Run, Nil, Out, In, Read, Eval, Newloc, Num, Word}

-- a name, a variable or a word, and where it stands
pub record Named : Type 0 where
  pub text : List ℕ
  pub start : ℕ

-- a number that has not 32 bits has no value
pub data Field : Type 0 where
  number : Option ℤ → ℕ → Field
  word : Named → Field
  name : Named → Field
  variable : Named → Field

-- where an action is aimed
pub data Target : Type 0 where
  to_name : Named → Target
  to_variable : Named → Target

-- the types of variables
pub data Ty : Type 0 where
  num_type : Ty
  word_type : Ty
  site_type : Ty

-- `$v:type`, and where the type stands
pub record Typed : Type 0 where
  pub var : Named
  pub type : Ty
  pub at : ℕ

-- a place of a template
pub data Place : Type 0 where
  field : Field → Place
  formal : Typed → Place

-- up to n more entries
abbrev pub More : Type 0 → ℕ → Type 0
More A zero = Unit {0}
More A (suc n) = Option (A × More A n)

-- one to four entries
abbrev pub OneToFour : Type 0 → Type 0
OneToFour A = A × More A 3

-- up to four entries
abbrev pub UpToFour : Type 0 → Type 0
UpToFour A = Option (OneToFour A)

-- items joined by `|`, grouped from the left; each `|`, `nil` and action has its place
mutual
  pub data Proc : Type 0 where
    one : Item → Proc
    par : Proc → ℕ → Item → Proc

  pub data Item : Type 0 where
    nil : ℕ → Item
    call : Named → UpToFour Field → Item
    act : Action → Item → Item
    group : Proc → Item

  pub data Action : Type 0 where
    out : ℕ → OneToFour Field → Target → Action
    inp : ℕ → OneToFour Place → Target → Action
    read : ℕ → OneToFour Place → Target → Action
    eval : ℕ → Proc → Target → Action
    newloc : ℕ → Named → Action

-- `A = N;`
pub record Alias : Type 0 where
  pub alias : Named
  pub site : Named

-- the lines, each with the place of its first token
pub record SiteLine : Type 0 where
  pub start : ℕ
  pub site : Named
  pub aliases : List Alias

pub record DefLine : Type 0 where
  pub start : ℕ
  pub def : Named
  pub params : UpToFour Typed
  pub body : Proc

pub record PutLine : Type 0 where
  pub start : ℕ
  pub site : Named
  pub fields : OneToFour Field

pub record RunLine : Type 0 where
  pub start : ℕ
  pub site : Named
  pub body : Proc

-- a whole text
pub record Net : Type 0 where
  pub sites : List SiteLine
  pub defs : List DefLine
  pub puts : List PutLine
  pub runs : List RunLine

-- a token as a tree shows it: the places of signs other than `|` do not matter
pub data Leaf : Type 0 where
  last : Leaf
  mark : ℕ → Leaf
  bar : ℕ → Leaf
  key : Keyword → ℕ → Leaf
  name_leaf : Named → Leaf
  variable_leaf : Named → Leaf
  word_leaf : Named → Leaf
  number_leaf : Option ℤ → ℕ → Leaf
  odd : Leaf

-- each tree as it is written before the tokens r

abbrev pub field_text : Field → List Leaf → List Leaf
field_text (number v s) r = number_leaf v s ∷ r
field_text (word w) r = word_leaf w ∷ r
field_text (name w) r = name_leaf w ∷ r
field_text (variable w) r = variable_leaf w ∷ r

abbrev pub target_text : Target → List Leaf → List Leaf
target_text (to_name w) r = name_leaf w ∷ r
target_text (to_variable w) r = variable_leaf w ∷ r

-- the reserved word that names a type
abbrev pub type_key : Ty → Keyword
type_key num_type = Num
type_key word_type = Word
type_key site_type = Site

abbrev pub typed_text : Typed → List Leaf → List Leaf
typed_text v r = variable_leaf v.var ∷ mark 58 ∷ key (type_key v.type) v.at ∷ r

abbrev pub place_text : Place → List Leaf → List Leaf
place_text (field f) r = field_text f r
place_text (formal v) r = mark 33 ∷ typed_text v r

abbrev pub more_text : {A : Type 0} → (A → List Leaf → List Leaf) → (n : ℕ) → More A n → List Leaf → List Leaf
more_text f zero m r = r
more_text f (suc n) None r = r
more_text f (suc n) (Some am) r = mark 44 ∷ f am.0 (more_text f n am.1 r)

abbrev pub some_text : {A : Type 0} → (A → List Leaf → List Leaf) → OneToFour A → List Leaf → List Leaf
some_text f am r = f am.0 (more_text f 3 am.1 r)

abbrev pub upto_text : {A : Type 0} → (A → List Leaf → List Leaf) → UpToFour A → List Leaf → List Leaf
upto_text f None r = r
upto_text f (Some am) r = some_text f am r

abbrev mutual
  pub proc_text : Proc → List Leaf → List Leaf
  proc_text (one i) r = item_text i r
  proc_text (par p b i) r = proc_text p (bar b ∷ item_text i r)

  pub item_text : Item → List Leaf → List Leaf
  item_text (nil s) r = key Nil s ∷ r
  item_text (call w fs) r = name_leaf w ∷ mark 40 ∷ upto_text field_text fs (mark 41 ∷ r)
  item_text (act a i) r = action_text a (mark 46 ∷ item_text i r)
  item_text (group p) r = mark 40 ∷ proc_text p (mark 41 ∷ r)

  pub action_text : Action → List Leaf → List Leaf
  action_text (out s fs t) r = key Out s ∷ mark 40 ∷ some_text field_text fs (mark 41 ∷ mark 64 ∷ target_text t r)
  action_text (inp s ps t) r = key In s ∷ mark 40 ∷ some_text place_text ps (mark 41 ∷ mark 64 ∷ target_text t r)
  action_text (read s ps t) r = key Read s ∷ mark 40 ∷ some_text place_text ps (mark 41 ∷ mark 64 ∷ target_text t r)
  action_text (eval s p t) r = key Eval s ∷ mark 40 ∷ proc_text p (mark 41 ∷ mark 64 ∷ target_text t r)
  action_text (newloc s v) r = key Newloc s ∷ mark 40 ∷ variable_leaf v ∷ mark 41 ∷ r

abbrev pub many_text : {A : Type 0} → (A → List Leaf → List Leaf) → List A → List Leaf → List Leaf
many_text f [] r = r
many_text f (x ∷ xs) r = f x (many_text f xs r)

abbrev pub alias_text : Alias → List Leaf → List Leaf
alias_text a r = name_leaf a.alias ∷ mark 61 ∷ name_leaf a.site ∷ mark 59 ∷ r

abbrev pub site_text : SiteLine → List Leaf → List Leaf
site_text l r = key Site l.start ∷ name_leaf l.site ∷ mark 123 ∷ many_text alias_text l.aliases (mark 125 ∷ r)

abbrev pub def_text : DefLine → List Leaf → List Leaf
def_text l r =
    key Def l.start ∷ name_leaf l.def ∷ mark 40 ∷ upto_text typed_text l.params (mark 41 ∷ mark 61 ∷ proc_text l.body (mark 59 ∷ r))

abbrev pub put_text : PutLine → List Leaf → List Leaf
put_text l r = key Put l.start ∷ name_leaf l.site ∷ mark 40 ∷ some_text field_text l.fields (mark 41 ∷ mark 59 ∷ r)

abbrev pub run_text : RunLine → List Leaf → List Leaf
run_text l r = key Run l.start ∷ name_leaf l.site ∷ proc_text l.body (mark 59 ∷ r)

abbrev pub net_text : Net → List Leaf → List Leaf
net_text n r = many_text site_text n.sites (many_text def_text n.defs (many_text put_text n.puts (many_text run_text n.runs r)))
