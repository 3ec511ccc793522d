-- The faults of a net in names, types and tables, each with its place and its number: 5 a variable that is not in scope or a
-- name that is not declared as what is needed, 6 what is declared or bound twice, 7 a wrong type or number of arguments,
-- 8 more than a table holds. Assumes nothing.
use Rattle.std.specs.Prelude.{ℕ, suc, Bool, true, cond, not, ◌&&◌, ◌||◌, List, [], ◌∷◌, ◌++◌, map, length, drop, is_some, Some, None, Option, ◌==◌, nat_le, nat_lt}
use Rattle.std.specs.Str.{bytes_eq}
use Rattle.syntax.specs.Tree.{Named, Ty, num_type, word_type, site_type, Field, number, word, name, variable, Target, to_name, to_variable, Place, field, formal, Typed, Proc, one, par, Item, nil, call, act, group, Action, out, inp, read, eval, newloc, SiteLine, DefLine, PutLine, RunLine, Net}
use Rattle.reader.specs.Names.{place_of, same, gathered, some_of, upto_of, words, aliases, self, site_number, alias_number}
use Rattle.reader.specs.Scopes.{Scope, Slot, look, formals_of, within, with_site, same_ty}

-- what is wrong with a text: the place of the token, and the number of the refusal
pub record Fault : Type 0 where
  pub place : ℕ
  pub number : ℕ

-- the fault of a number at a place
abbrev pub fault : ℕ → ℕ → Fault
fault n p = record { place = p; number = n }

-- a fault where the test fails
abbrev pub unless : Bool → ℕ → ℕ → List Fault
unless b n p = cond b [] (fault n p ∷ [])

-- a table of so many entries is full at each of the others
abbrev pub beyond : ℕ → List ℕ → List Fault
beyond most places = map (fault 8) (drop most places)

-- declarations: of a site, of an alias in a block, of a definition

-- what a declaration declares
pub data Declares : Type 0 where
  site_name : Declares
  alias_in : ℕ → Declares
  def_name : Declares

-- a declaration, with the name that it gives
pub record Declared : Type 0 where
  pub what : Declares
  pub name : Named

-- an alias may stand again in another block; any other name may not stand again
abbrev pub clash : Declares → Declares → Bool
clash site_name site_name = true
clash site_name (alias_in b) = true
clash site_name def_name = true
clash (alias_in a) site_name = true
clash (alias_in a) (alias_in b) = a == b
clash (alias_in a) def_name = true
clash def_name site_name = true
clash def_name (alias_in b) = true
clash def_name def_name = true

-- whether a declaration repeats one of those before it, or that of the site itself
abbrev pub repeats : List Declared → Declared → Bool
repeats before d = bytes_eq d.name.text self || is_some (place_of (λ e. same d.name.text e.name && clash e.what d.what) before)

-- the declarations that repeat, behind some others
abbrev pub repeated : List Declared → List Declared → List Fault
repeated before [] = []
repeated before (d ∷ ds) = unless (not (repeats before d)) 6 d.name.start ++ repeated (d ∷ before) ds

-- the declarations of site lines, the first of which has number b
abbrev pub blocks : ℕ → List SiteLine → List Declared
blocks b [] = []
blocks b (l ∷ ls) = record { what = site_name; name = l.site } ∷ (map (λ a. record { what = alias_in b; name = a.alias }) l.aliases ++ blocks (suc b) ls)

-- the declarations of a text, in its order
abbrev pub declared : Net → List Declared
declared n = blocks 0 n.sites ++ map (λ d. record { what = def_name; name = d.def }) n.defs

-- fields, targets, places

-- whether some line declares the name as a site
abbrev pub is_site : Net → List ℕ → Bool
is_site n w = is_some (site_number n w)

-- whether some line declares the name as a site or an alias
abbrev pub is_site_or_alias : Net → List ℕ → Bool
is_site_or_alias n w = is_site n w || is_some (alias_number n w)

-- a name in a process is a site or an alias, and a variable is in scope
abbrev pub field_faults : Net → Scope → Field → List Fault
field_faults n s (number v p) = []
field_faults n s (word w) = []
field_faults n s (name w) = unless (is_site_or_alias n w.text) 5 w.start
field_faults n s (variable w) = unless (is_some (look s w.text)) 5 w.start

-- in a line of opening tuples a name is a site, and no variable is in scope
abbrev pub opening_faults : Net → Field → List Fault
opening_faults n (number v p) = []
opening_faults n (word w) = []
opening_faults n (name w) = unless (is_site n w.text) 5 w.start
opening_faults n (variable w) = fault 5 w.start ∷ []

-- a variable that has to be in scope and of type site
abbrev pub sited : ℕ → Option Slot → List Fault
sited p None = fault 5 p ∷ []
sited p (Some v) = unless (same_ty v.type site_type) 7 p

-- a target is a site, an alias, or a variable of type site
abbrev pub target_faults : Net → Scope → Target → List Fault
target_faults n s (to_name w) = unless (is_site_or_alias n w.text) 5 w.start
target_faults n s (to_variable w) = sited w.start (look s w.text)

-- a field of a template is judged as any field; what a formal binds is judged below
abbrev pub place_faults : Net → Scope → Place → List Fault
place_faults n s (field f) = field_faults n s f
place_faults n s (formal v) = []

-- variables that are bound together, where k are in scope: none twice, and at most eight in all
abbrev pub bound_faults : ℕ → List Named → List Named → List Fault
bound_faults k before [] = []
bound_faults k before (v ∷ vs) =
    unless (not (is_some (place_of (same v.text) before))) 6 v.start ++ (unless (nat_lt k 8) 8 v.start ++ bound_faults (suc k) (v ∷ before) vs)

-- calls

-- where a field stands
abbrev pub field_start : Field → ℕ
field_start (number v p) = p
field_start (word w) = w.start
field_start (name w) = w.start
field_start (variable w) = w.start

-- the type of a variable, where it is in scope
abbrev pub type_of_slot : Option Slot → Option Ty
type_of_slot None = None
type_of_slot (Some v) = Some v.type

-- the type of a field as it is written; a variable has its own
abbrev pub field_type : Scope → Field → Option Ty
field_type s (number v p) = Some num_type
field_type s (word w) = Some word_type
field_type s (name w) = Some site_type
field_type s (variable w) = type_of_slot (look s w.text)

-- an argument, whose type may be unknown, beside the type of its parameter
abbrev pub argument_faults : ℕ → Option Ty → Ty → List Fault
argument_faults p None t = []
argument_faults p (Some u) t = unless (same_ty u t) 7 p

-- arguments beside the parameters; p is the place of the call's name
abbrev pub arguments_faults : ℕ → Scope → List Field → List Typed → List Fault
arguments_faults p s [] [] = []
arguments_faults p s [] (v ∷ vs) = fault 7 p ∷ []
arguments_faults p s (f ∷ fs) [] = fault 7 p ∷ []
arguments_faults p s (f ∷ fs) (v ∷ vs) = argument_faults (field_start f) (field_type s f) v.type ++ arguments_faults p s fs vs

-- the first definition of a name
abbrev pub first_def : List ℕ → List DefLine → Option DefLine
first_def w [] = None
first_def w (d ∷ ds) = cond (same w d.def) (Some d) (first_def w ds)

-- a call is held to the first definition of its name
abbrev pub call_faults : Scope → Named → List Field → Option DefLine → List Fault
call_faults s w fs None = fault 5 w.start ∷ []
call_faults s w fs (Some d) = arguments_faults w.start s fs (upto_of d.params)

-- processes: what an action binds is in scope in what follows it, and nowhere else

-- the variable of a formal or a parameter
abbrev pub var_of : Typed → Named
var_of v = v.var

-- the places and the target of an input: neither sees what the places bind
abbrev pub input_faults : Net → Scope → List Place → Target → List Fault
input_faults n s ps t = gathered (place_faults n s) ps ++ (bound_faults (length s) [] (map var_of (formals_of ps)) ++ target_faults n s t)

-- the scope behind an action
abbrev pub behind : Scope → Action → Scope
behind s (out p fs t) = s
behind s (inp p ps t) = within s (formals_of (some_of ps))
behind s (read p ps t) = within s (formals_of (some_of ps))
behind s (eval p q t) = s
behind s (newloc p v) = with_site s v

abbrev mutual
  pub proc_faults : Net → Scope → Proc → List Fault
  proc_faults n s (one i) = item_faults n s i
  proc_faults n s (par p b i) = proc_faults n s p ++ item_faults n s i

  pub item_faults : Net → Scope → Item → List Fault
  item_faults n s (nil p) = []
  item_faults n s (call w fs) = call_faults s w (upto_of fs) (first_def w.text n.defs) ++ gathered (field_faults n s) (upto_of fs)
  item_faults n s (act a i) = action_faults n s a ++ item_faults n (behind s a) i
  item_faults n s (group p) = proc_faults n s p

  pub action_faults : Net → Scope → Action → List Fault
  action_faults n s (out p fs t) = gathered (field_faults n s) (some_of fs) ++ target_faults n s t
  action_faults n s (inp p ps t) = input_faults n s (some_of ps) t
  action_faults n s (read p ps t) = input_faults n s (some_of ps) t
  action_faults n s (eval p q t) = proc_faults n s q ++ target_faults n s t
  action_faults n s (newloc p v) = bound_faults (length s) [] (v ∷ [])

-- the places of nodes, in the order of the text

abbrev mutual
  pub proc_nodes : Proc → List ℕ
  proc_nodes (one i) = item_nodes i
  proc_nodes (par p b i) = proc_nodes p ++ (b ∷ item_nodes i)

  pub item_nodes : Item → List ℕ
  item_nodes (nil p) = p ∷ []
  item_nodes (call w fs) = w.start ∷ []
  item_nodes (act a i) = action_nodes a ++ item_nodes i
  item_nodes (group p) = proc_nodes p

  pub action_nodes : Action → List ℕ
  action_nodes (out p fs t) = p ∷ []
  action_nodes (inp p ps t) = p ∷ []
  action_nodes (read p ps t) = p ∷ []
  action_nodes (eval p q t) = p ∷ proc_nodes q
  action_nodes (newloc p v) = p ∷ []

-- the places of all nodes of a net
abbrev pub nodes_of : Net → List ℕ
nodes_of n = gathered (λ d. proc_nodes d.body) n.defs ++ gathered (λ r. proc_nodes r.body) n.runs

-- lines

-- the parameters of a definition
abbrev pub params_of : DefLine → List Typed
params_of d = upto_of d.params

-- each alias of a block names a site
abbrev pub site_faults : Net → SiteLine → List Fault
site_faults n l = gathered (λ a. unless (is_site n a.site.text) 5 a.site.start) l.aliases

-- parameters are bound together, and are in scope in the body
abbrev pub def_faults : Net → DefLine → List Fault
def_faults n d = bound_faults 0 [] (map var_of (params_of d)) ++ proc_faults n (within [] (params_of d)) d.body

-- an opening tuple lies at a site
abbrev pub put_faults : Net → PutLine → List Fault
put_faults n l = unless (is_site n l.site.text) 5 l.site.start ++ gathered (opening_faults n) (some_of l.fields)

-- an agent runs at a site, with no variable in scope
abbrev pub run_faults : Net → RunLine → List Fault
run_faults n l = unless (is_site n l.site.text) 5 l.site.start ++ proc_faults n [] l.body

-- more lines, aliases, nodes or words than the tables hold
abbrev pub table_faults : Net → List Fault
table_faults n =
    beyond 32 (map (λ l. l.start) n.sites) ++ (beyond 7 (map (λ a. a.start) (aliases n)) ++ (beyond 32 (map (λ l. l.start) n.defs) ++ (beyond 256 (map (λ l. l.start) n.puts) ++ (beyond 64 (map (λ l. l.start) n.runs) ++ (beyond 256 (nodes_of n) ++ beyond 128 (map (λ w. w.start) (words n)))))))

-- all faults of a net
abbrev pub faults : Net → List Fault
faults n =
    repeated [] (declared n) ++ (gathered (site_faults n) n.sites ++ (gathered (def_faults n) n.defs ++ (gathered (put_faults n) n.puts ++ (gathered (run_faults n) n.runs ++ table_faults n))))

-- whether a fault stands before another, or at its place with a smaller number
abbrev pub before : Fault → Fault → Bool
before f g = nat_lt f.place g.place || (f.place == g.place && nat_le f.number g.number)

-- the one of two that decides
abbrev pub earlier : Fault → Option Fault → Option Fault
earlier f None = Some f
earlier f (Some g) = cond (before f g) (Some f) (Some g)

-- the fault that decides: the smallest place, then the smallest number
abbrev pub least : List Fault → Option Fault
least [] = None
least (f ∷ fs) = earlier f (least fs)
