-- The variables in scope, their slots and types. Assumes nothing.
use Rattle.std.specs.Prelude.{ℕ, suc, Bool, true, false, cond, List, [], ◌∷◌, ◌++◌, map, Some, None, Option}
use Rattle.std.specs.Str.{bytes_eq}
use Rattle.syntax.specs.Tree.{Named, Ty, num_type, word_type, site_type, Typed, Place, field, formal}

-- a variable that is bound, and its type
pub record Bound : Type 0 where
  pub name : List ℕ
  pub type : Ty

-- the variables in scope, outermost first: a variable's slot is its place
abbrev pub Scope : Type 0
Scope = List Bound

-- a variable that is found: its slot, and its type
pub record Slot : Type 0 where
  pub slot : ℕ
  pub type : Ty

-- the first of two that is there
abbrev pub or_else : {A : Type 0} → Option A → Option A → Option A
or_else (Some x) o = Some x
or_else None o = o

-- the innermost of a name, where the scope begins with slot k
abbrev pub look_from : ℕ → Scope → List ℕ → Option Slot
look_from k [] w = None
look_from k (b ∷ bs) w = or_else (look_from (suc k) bs w) (cond (bytes_eq b.name w) (Some (record { slot = k; type = b.type })) None)

-- the variable that a name means: the innermost of that name
abbrev pub look : Scope → List ℕ → Option Slot
look s w = look_from 0 s w

-- a formal or a parameter, as it is bound
abbrev pub bound : Typed → Bound
bound v = record { name = v.var.text; type = v.type }

-- the formals among places
abbrev pub formals_of : List Place → List Typed
formals_of [] = []
formals_of (field f ∷ ps) = formals_of ps
formals_of (formal v ∷ ps) = v ∷ formals_of ps

-- the scope of what follows an action with these formals
abbrev pub within : Scope → List Typed → Scope
within s vs = s ++ map bound vs

-- the scope of what follows the making of a site
abbrev pub with_site : Scope → Named → Scope
with_site s v = s ++ (record { name = v.text; type = site_type } ∷ [])

-- whether two types are the same
abbrev pub same_ty : Ty → Ty → Bool
same_ty num_type num_type = true
same_ty num_type word_type = false
same_ty num_type site_type = false
same_ty word_type num_type = false
same_ty word_type word_type = true
same_ty word_type site_type = false
same_ty site_type num_type = false
same_ty site_type word_type = false
same_ty site_type site_type = true
