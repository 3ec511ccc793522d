-- The net that a text without faults stands for. Assumes nothing.
use Rattle.std.specs.Prelude.{ℕ, suc, ◌+◌, List, [], ◌∷◌, ◌++◌, map, length, replicate, ℤ, pos, Some, None, Option, slice_set}
use Rattle.std.specs.Option.{unwrap_or}
use Rattle.syntax.specs.Tree.{Ty, Field, number, word, name, variable, Target, to_name, to_variable, Place, field, formal, Proc, one, par, Item, nil, call, act, group, Action, out, inp, read, eval, newloc, Alias, SiteLine, DefLine, RunLine, Net}
use Rattle.reader.specs.Names.{gathered, some_of, upto_of, words, aliases, site_number, alias_number, def_number, word_number}
use Rattle.reader.specs.Scopes.{Scope, Slot, look, within}
use Rattle.reader.specs.Faults.{behind, proc_nodes, action_nodes, params_of}

-- what a field of a process says: a number, a word, a site, an alias, or the slot of a variable
pub data Term : Type 0 where
  num : ℤ → Term
  word_no : ℕ → Term
  site_no : ℕ → Term
  alias_no : ℕ → Term
  slot_no : ℕ → Term

-- a place of a template: a term, or a formal with its type and its slot
pub data Spot : Type 0 where
  actual : Term → Spot
  bind : Ty → ℕ → Spot

-- one `nil`, call, action or `|` of a text, with the numbers of the nodes that it leads to
pub data Node : Type 0 where
  nil_node : Node
  par_node : ℕ → ℕ → Node
  call_node : ℕ → List Term → Node
  out_node : List Term → Term → ℕ → Node
  in_node : List Spot → Term → ℕ → Node
  read_node : List Spot → Term → ℕ → Node
  eval_node : ℕ → Term → ℕ → Node
  new_node : ℕ → ℕ → Node

-- a site's name, and the site that each alias names there, or none
pub record SiteEntry : Type 0 where
  pub name : List ℕ
  pub env : List (Option ℕ)

-- a definition's name, the types of its parameters, and its first node
pub record Definition : Type 0 where
  pub name : List ℕ
  pub params : List Ty
  pub first : ℕ

-- a tuple that lies at a site at the beginning
pub record Opening : Type 0 where
  pub site : ℕ
  pub fields : List Term

-- a process that starts at a site, by its first node
pub record Agent : Type 0 where
  pub site : ℕ
  pub first : ℕ

-- what a text stands for
pub record ReadNet : Type 0 where
  pub sites : List SiteEntry
  pub aliases : List (List ℕ)
  pub words : List (List ℕ)
  pub definitions : List Definition
  pub nodes : List Node
  pub openings : List Opening
  pub agents : List Agent

-- the number that is found; a text without faults finds each
abbrev pub found : Option ℕ → ℕ
found o = unwrap_or o 0

-- a name in a process: a site, or else an alias
abbrev pub named : Net → List ℕ → Term
named n w = elim (site_number n w) [ Some k ↦ site_no k | None ↦ alias_no (found (alias_number n w)) ]

-- the slot of a variable; in a text without faults each is in scope
abbrev pub slot_of : Option Slot → ℕ
slot_of None = 0
slot_of (Some v) = v.slot

-- what a field says
abbrev pub term : Net → Scope → Field → Term
term n s (number v p) = num (unwrap_or v (pos 0))
term n s (word w) = word_no (found (word_number n w.text))
term n s (name w) = named n w.text
term n s (variable w) = slot_no (slot_of (look s w.text))

-- what a target says
abbrev pub target : Net → Scope → Target → Term
target n s (to_name w) = named n w.text
target n s (to_variable w) = slot_no (slot_of (look s w.text))

-- places, where the next formal has slot k
abbrev pub spots : Net → Scope → ℕ → List Place → List Spot
spots n s k [] = []
spots n s k (field f ∷ ps) = actual (term n s f) ∷ spots n s k ps
spots n s k (formal v ∷ ps) = bind v.type k ∷ spots n s (suc k) ps

-- the places of a template: its formals have the slots behind those in scope
abbrev pub spots_of : Net → Scope → List Place → List Spot
spots_of n s ps = spots n s (length s) ps

-- how many nodes a process has
abbrev pub proc_size : Proc → ℕ
proc_size p = length (proc_nodes p)

-- the first node of a process whose nodes begin with number k: its last `|` outside brackets, or that of its one item
abbrev mutual
  pub proc_first : ℕ → Proc → ℕ
  proc_first k (one i) = item_first k i
  proc_first k (par p b i) = k + proc_size p

  pub item_first : ℕ → Item → ℕ
  item_first k (nil p) = k
  item_first k (call w fs) = k
  item_first k (act a i) = k
  item_first k (group p) = proc_first k p

-- the nodes of a process from number k on, in the order of the text
abbrev mutual
  pub proc_table : Net → Scope → ℕ → Proc → List Node
  proc_table n s k (one i) = item_table n s k i
  proc_table n s k (par p b i) =
      let m = k + proc_size p in
      proc_table n s k p ++ (par_node (proc_first k p) (item_first (suc m) i) ∷ item_table n s (suc m) i)

  pub item_table : Net → Scope → ℕ → Item → List Node
  item_table n s k (nil p) = nil_node ∷ []
  item_table n s k (call w fs) = call_node (found (def_number n w.text)) (map (term n s) (upto_of fs)) ∷ []
  item_table n s k (act a i) =
      let m = k + length (action_nodes a) in
      action_table n s k (item_first m i) a ++ item_table n (behind s a) m i
  item_table n s k (group p) = proc_table n s k p

  -- the nodes of an action, where what follows it begins with node j
  pub action_table : Net → Scope → ℕ → ℕ → Action → List Node
  action_table n s k j (out p fs t) = out_node (map (term n s) (some_of fs)) (target n s t) j ∷ []
  action_table n s k j (inp p ps t) = in_node (spots_of n s (some_of ps)) (target n s t) j ∷ []
  action_table n s k j (read p ps t) = read_node (spots_of n s (some_of ps)) (target n s t) j ∷ []
  action_table n s k j (eval p q t) = eval_node (proc_first (suc k) q) (target n s t) j ∷ proc_table n s (suc k) q
  action_table n s k j (newloc p v) = new_node (length s) j ∷ []

-- a line's process, one line behind the other

-- the definitions, where the nodes of the first begin with number k
abbrev pub defs_from : Net → ℕ → List DefLine → List Definition
defs_from n k [] = []
defs_from n k (d ∷ ds) = record { name = d.def.text; params = map (λ v. v.type) (params_of d); first = proc_first k d.body } ∷ defs_from n (k + proc_size d.body) ds

-- the nodes of the definitions
abbrev pub def_tables : Net → ℕ → List DefLine → List Node
def_tables n k [] = []
def_tables n k (d ∷ ds) = proc_table n (within [] (params_of d)) k d.body ++ def_tables n (k + proc_size d.body) ds

-- the agents, where the nodes of the first begin with number k
abbrev pub runs_from : Net → ℕ → List RunLine → List Agent
runs_from n k [] = []
runs_from n k (r ∷ rs) = record { site = found (site_number n r.site.text); first = proc_first k r.body } ∷ runs_from n (k + proc_size r.body) rs

-- the nodes of the agents
abbrev pub run_tables : Net → ℕ → List RunLine → List Node
run_tables n k [] = []
run_tables n k (r ∷ rs) = proc_table n [] k r.body ++ run_tables n (k + proc_size r.body) rs

-- how many nodes the definitions have
abbrev pub defs_size : Net → ℕ
defs_size n = length (gathered (λ d. proc_nodes d.body) n.defs)

-- the environment of the site with number i: `self` names it, and each alias what its block says
abbrev pub environment : Net → ℕ → List Alias → List (Option ℕ)
environment n i [] = Some i ∷ replicate 7 None
environment n i (a ∷ as') = slice_set (environment n i as') (found (alias_number n a.alias.text)) (Some (found (site_number n a.site.text)))

-- the sites, the first of which has number i
abbrev pub sites_from : Net → ℕ → List SiteLine → List SiteEntry
sites_from n i [] = []
sites_from n i (l ∷ ls) = record { name = l.site.text; env = environment n i l.aliases } ∷ sites_from n (suc i) ls

-- the read net of a text
abbrev pub read_net : Net → ReadNet
read_net n = record {
  sites = sites_from n 0 n.sites;
  aliases = map (λ a. a.text) (aliases n);
  words = map (λ w. w.text) (words n);
  definitions = defs_from n 0 n.defs;
  nodes = def_tables n 0 n.defs ++ run_tables n (defs_size n) n.runs;
  openings = map (λ l. record { site = found (site_number n l.site.text); fields = map (term n []) (some_of l.fields) }) n.puts;
  agents = runs_from n (defs_size n) n.runs;
}
