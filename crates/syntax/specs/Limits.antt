-- How deep brackets may nest, and which numbers may stand in a text.
use Rattle.std.specs.Prelude.{◌≡◌, ℕ, zero, suc, Bool, true, List, [], ◌∷◌, ℤ, is_some, Some, None, Option, nat_lt}
use Rattle.syntax.specs.Tree.{Field, number, word, name, variable, Place, field, formal, More, OneToFour, UpToFour, Proc, one, par, Item, nil, call, act, group, Action, out, inp, read, eval, newloc, DefLine, PutLine, RunLine, Net}

-- whether one more bracket may be opened under so many, and whether a number may stand
pub record Limits : Type 0 where
  pub room : ℕ → Bool
  pub range : Option ℤ → Bool

-- at most 16 brackets are open, and each number has 32 bits
abbrev pub strict : Limits
strict = record { room = λ n. nat_lt n 16; range = is_some }

-- any number of brackets may be open, and any number may stand
abbrev pub free : Limits
free = record { room = λ n. true; range = λ v. true }

-- a tree keeps to the limits, under n open brackets

abbrev pub FieldFits : Limits → Field → Type 0
FieldFits l (number v s) = l.range v ≡ true
FieldFits l (word w) = Unit {0}
FieldFits l (name w) = Unit {0}
FieldFits l (variable w) = Unit {0}

abbrev pub PlaceFits : Limits → Place → Type 0
PlaceFits l (field f) = FieldFits l f
PlaceFits l (formal v) = Unit {0}

abbrev pub MoreFit : {A : Type 0} → (A → Type 0) → (n : ℕ) → More A n → Type 0
MoreFit P zero m = Unit {0}
MoreFit P (suc n) None = Unit {0}
MoreFit P (suc n) (Some am) = P am.0 × MoreFit P n am.1

abbrev pub SomeFit : {A : Type 0} → (A → Type 0) → OneToFour A → Type 0
SomeFit P am = P am.0 × MoreFit P 3 am.1

abbrev pub UptoFit : {A : Type 0} → (A → Type 0) → UpToFour A → Type 0
UptoFit P None = Unit {0}
UptoFit P (Some am) = SomeFit P am

abbrev mutual
  pub ProcFits : Limits → Proc → ℕ → Type 0
  ProcFits l (one i) n = ItemFits l i n
  ProcFits l (par p b i) n = ProcFits l p n × ItemFits l i n

  pub ItemFits : Limits → Item → ℕ → Type 0
  ItemFits l (nil s) n = Unit {0}
  ItemFits l (call w fs) n = UptoFit (FieldFits l) fs
  ItemFits l (act a i) n = ActionFits l a n × ItemFits l i n
  ItemFits l (group p) n = (l.room n ≡ true) × ProcFits l p (suc n)

  pub ActionFits : Limits → Action → ℕ → Type 0
  ActionFits l (out s fs t) n = SomeFit (FieldFits l) fs
  ActionFits l (inp s ps t) n = SomeFit (PlaceFits l) ps
  ActionFits l (read s ps t) n = SomeFit (PlaceFits l) ps
  ActionFits l (eval s p t) n = (l.room n ≡ true) × ProcFits l p (suc n)
  ActionFits l (newloc s v) n = Unit {0}

abbrev pub AllFit : {A : Type 0} → (A → Type 0) → List A → Type 0
AllFit P [] = Unit {0}
AllFit P (x ∷ xs) = P x × AllFit P xs

abbrev pub DefFits : Limits → DefLine → Type 0
DefFits l d = ProcFits l d.body 0

abbrev pub PutFits : Limits → PutLine → Type 0
PutFits l p = SomeFit (FieldFits l) p.fields

abbrev pub RunFits : Limits → RunLine → Type 0
RunFits l p = ProcFits l p.body 0

abbrev pub NetFits : Limits → Net → Type 0
NetFits l n = AllFit (DefFits l) n.defs × AllFit (PutFits l) n.puts × AllFit (RunFits l) n.runs
