-- The laws of texts that contracts name. Assumes nothing.
use Rattle.std.specs.Prelude.{◌≡◌, ℕ, ◌+◌, ◌<◌, ◌≤◌, true, List, [], ◌∷◌, length, Some, None, slice_index_or}
use Rattle.syntax.specs.Tree.{Proc, Net}
use Rattle.reader.specs.Scopes.{Scope}
use Rattle.reader.specs.Faults.{Fault, before, least, proc_nodes}
use Rattle.reader.specs.ReadNets.{Node, nil_node, par_node, call_node, out_node, in_node, read_node, eval_node, new_node, proc_first, proc_table}

-- the fault that decides is one of the faults, and none stands before it; where there is none, no fault decides
pub record DecidesLeast (fs : List Fault) (f : Fault) : Type 0 where
  pub at : ℕ
  pub within : at < length fs
  pub is : slice_index_or fs at f ≡ f
  pub first : (k : ℕ) → k < length fs → before f (slice_index_or fs k f) ≡ true

-- of every list of faults the least decides
abbrev pub LeastDecides : Type 0
LeastDecides = (fs : List Fault) → (least fs ≡ None → fs ≡ []) × ((f : Fault) → least fs ≡ Some f → DecidesLeast fs f)

-- a process has a node for each of its tokens that is one, in the order of the text
abbrev pub NodesNumbered : Type 0
NodesNumbered = (n : Net) (s : Scope) (k : ℕ) (p : Proc) → length (proc_table n s k p) ≡ length (proc_nodes p)

-- a number from one on and below another
abbrev pub Between : ℕ → ℕ → ℕ → Type 0
Between low high k = (low ≤ k) × (k < high)

-- a process begins with a node of its own
abbrev pub BeginsInside : Type 0
BeginsInside = (k : ℕ) (p : Proc) → Between k (k + length (proc_nodes p)) (proc_first k p)

-- the nodes that a node leads to lie between two numbers
abbrev pub Leads : ℕ → ℕ → Node → Type 0
Leads low high nil_node = Unit {0}
Leads low high (par_node l r) = Between low high l × Between low high r
Leads low high (call_node d ts) = Unit {0}
Leads low high (out_node ts t j) = Between low high j
Leads low high (in_node ps t j) = Between low high j
Leads low high (read_node ps t j) = Between low high j
Leads low high (eval_node i t j) = Between low high i × Between low high j
Leads low high (new_node v j) = Between low high j

-- what holds of each node
abbrev pub Each : (Node → Type 0) → List Node → Type 0
Each P [] = Unit {0}
Each P (x ∷ xs) = P x × Each P xs

-- no node of a process leads out of it
abbrev pub NodesClosed : Type 0
NodesClosed = (n : Net) (s : Scope) (k : ℕ) (p : Proc) → Each (Leads k (k + length (proc_nodes p))) (proc_table n s k p)
