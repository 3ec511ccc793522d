-- Worked texts: the net or the fault that each stands for. Assumes nothing.
use Rattle.std.specs.Prelude.{◌≡◌, ℕ, List, [], ◌∷◌, replicate, pos, Some, None, codes, Option}
use Rattle.lex.specs.Tokens.{from}
use Rattle.syntax.specs.Grammar.{leaves}
use Rattle.syntax.specs.Tree.{Named, num_type, site_type, number, name, variable, to_name, to_variable, field, formal, one, par, nil, call, act, group, out, inp, read, eval, newloc, Net, net_text, last}
use Rattle.reader.specs.Faults.{Fault, fault, faults, least}
use Rattle.reader.specs.ReadNets.{num, site_no, alias_no, slot_no, actual, bind, Node, nil_node, par_node, call_node, out_node, in_node, read_node, eval_node, new_node, ReadNet, read_net}

abbrev named : List ℕ → ℕ → Named
named w s = record { text = w; start = s }

-- the text is this tree
abbrev pub IsText : List ℕ → Net → Type 0
IsText text n = leaves (from text 0) ≡ net_text n (last ∷ [])

-- one site's claim, and an agent at another that withdraws it
abbrev pub claim_text : List ℕ
claim_text = codes "site a{}site b{next=a;}def Claim($d:num)=in($d)@next.nil;put a(7);run b Claim(7);"

-- the tree of that text
abbrev pub claim_tree : Net
claim_tree = record {
  sites = record { start = 0; site = named (codes "a") 5; aliases = [] } ∷ record { start = 8; site = named (codes "b") 13; aliases = record { alias = named (codes "next") 15; site = named (codes "a") 20 } ∷ [] } ∷ [];
  defs = record { start = 23; def = named (codes "Claim") 27; params = Some (record { var = named (codes "d") 33; type = num_type; at = 36 }, None); body = one (act (inp 41 (field (variable (named (codes "d") 44)), None) (to_name (named (codes "next") 48))) (nil 53)) } ∷ [];
  puts = record { start = 57; site = named (codes "a") 61; fields = (number (Some (pos 7)) 63, None) } ∷ [];
  runs = record { start = 66; site = named (codes "b") 70; body = one (call (named (codes "Claim") 72) (Some (number (Some (pos 7)) 78, None))) } ∷ [];
}

-- the net that it stands for
abbrev pub claim_net : ReadNet
claim_net = record {
  sites = record { name = codes "a"; env = Some 0 ∷ replicate 7 None } ∷ record { name = codes "b"; env = Some 1 ∷ Some 0 ∷ replicate 6 None } ∷ [];
  aliases = codes "next" ∷ [];
  words = [];
  definitions = record { name = codes "Claim"; params = num_type ∷ []; first = 0 } ∷ [];
  nodes = in_node (actual (slot_no 0) ∷ []) (alias_no 1) 1 ∷ nil_node ∷ call_node 0 (num (pos 7) ∷ []) ∷ [];
  openings = record { site = 0; fields = num (pos 7) ∷ [] } ∷ [];
  agents = record { site = 1; first = 2 } ∷ [];
}

-- from the bytes of the text to its net
pub record ClaimNetRead : Type 0 where
  pub text : IsText claim_text claim_tree
  pub clean : faults claim_tree ≡ []
  pub read : read_net claim_tree ≡ claim_net

-- a text, its tree, and the fault that decides
pub record Example (text : List ℕ) (n : Net) (answer : Option Fault) : Type 0 where
  pub is : IsText text n
  pub decides : least (faults n) ≡ answer

-- one text for each rule of names, types and tables
pub record FaultsShown : Type 0 where
  pub a_site_twice : Example (codes "site a{}site a{}") (record { sites = record { start = 0; site = (named (codes "a") 5); aliases = [] } ∷ record { start = 8; site = (named (codes "a") 13); aliases = [] } ∷ []; defs = []; puts = []; runs = [] }) (Some (fault 6 13))
  pub an_alias_for_what_is_no_site : Example (codes "site a{x=b;}") (record { sites = record { start = 0; site = (named (codes "a") 5); aliases = record { alias = (named (codes "x") 7); site = (named (codes "b") 9) } ∷ [] } ∷ []; defs = []; puts = []; runs = [] }) (Some (fault 5 9))
  pub an_alias_twice_in_one_block : Example (codes "site a{x=a;x=a;}") (record { sites = record { start = 0; site = (named (codes "a") 5); aliases = record { alias = (named (codes "x") 7); site = (named (codes "a") 9) } ∷ record { alias = (named (codes "x") 11); site = (named (codes "a") 13) } ∷ [] } ∷ []; defs = []; puts = []; runs = [] }) (Some (fault 6 11))
  pub an_alias_again_in_another_block : Example (codes "site a{x=a;}site b{x=a;}") (record { sites = record { start = 0; site = (named (codes "a") 5); aliases = record { alias = (named (codes "x") 7); site = (named (codes "a") 9) } ∷ [] } ∷ record { start = 12; site = (named (codes "b") 17); aliases = record { alias = (named (codes "x") 19); site = (named (codes "a") 21) } ∷ [] } ∷ []; defs = []; puts = []; runs = [] }) None
  pub a_site_under_the_name_of_the : Example (codes "site self{}") (record { sites = record { start = 0; site = (named (codes "self") 5); aliases = [] } ∷ []; defs = []; puts = []; runs = [] }) (Some (fault 6 5))
  pub a_call_of_what_is_not_defined : Example (codes "site a{}run a B();") (record { sites = record { start = 0; site = (named (codes "a") 5); aliases = [] } ∷ []; defs = []; puts = []; runs = record { start = 8; site = (named (codes "a") 12); body = (one (call (named (codes "B") 14) None)) } ∷ [] }) (Some (fault 5 14))
  pub an_argument_of_another_type : Example (codes "site a{}def D($x:num)=nil;run a D(a);") (record { sites = record { start = 0; site = (named (codes "a") 5); aliases = [] } ∷ []; defs = record { start = 8; def = (named (codes "D") 12); params = (Some ((record { var = (named (codes "x") 14); type = num_type; at = 17 }), None)); body = (one (nil 22)) } ∷ []; puts = []; runs = record { start = 26; site = (named (codes "a") 30); body = (one (call (named (codes "D") 32) (Some ((name (named (codes "a") 34)), None)))) } ∷ [] }) (Some (fault 7 34))
  pub an_argument_too_many : Example (codes "site a{}def D()=nil;run a D(1);") (record { sites = record { start = 0; site = (named (codes "a") 5); aliases = [] } ∷ []; defs = record { start = 8; def = (named (codes "D") 12); params = None; body = (one (nil 16)) } ∷ []; puts = []; runs = record { start = 20; site = (named (codes "a") 24); body = (one (call (named (codes "D") 26) (Some ((number (Some (pos 1)) 28), None)))) } ∷ [] }) (Some (fault 7 26))
  pub a_variable_that_nothing_binds : Example (codes "site a{}run a out($x)@a.nil;") (record { sites = record { start = 0; site = (named (codes "a") 5); aliases = [] } ∷ []; defs = []; puts = []; runs = record { start = 8; site = (named (codes "a") 12); body = (one (act (out 14 ((variable (named (codes "x") 18)), None) (to_name (named (codes "a") 22))) (nil 24))) } ∷ [] }) (Some (fault 5 18))
  pub a_number_as_a_target : Example (codes "site a{}run a in(!$x:num)@a.out(1)@$x.nil;") (record { sites = record { start = 0; site = (named (codes "a") 5); aliases = [] } ∷ []; defs = []; puts = []; runs = record { start = 8; site = (named (codes "a") 12); body = (one (act (inp 14 ((formal (record { var = (named (codes "x") 18); type = num_type; at = 21 })), None) (to_name (named (codes "a") 26))) (act (out 28 ((number (Some (pos 1)) 32), None) (to_variable (named (codes "x") 35))) (nil 38)))) } ∷ [] }) (Some (fault 7 35))
  pub a_target_that_its_own_action_would : Example (codes "site a{}run a in(!$x:site)@$x.nil;") (record { sites = record { start = 0; site = (named (codes "a") 5); aliases = [] } ∷ []; defs = []; puts = []; runs = record { start = 8; site = (named (codes "a") 12); body = (one (act (inp 14 ((formal (record { var = (named (codes "x") 18); type = site_type; at = 21 })), None) (to_variable (named (codes "x") 27))) (nil 30))) } ∷ [] }) (Some (fault 5 27))
  pub two_formals_of_one_name : Example (codes "site a{}run a in(!$x:num,!$x:num)@a.nil;") (record { sites = record { start = 0; site = (named (codes "a") 5); aliases = [] } ∷ []; defs = []; puts = []; runs = record { start = 8; site = (named (codes "a") 12); body = (one (act (inp 14 ((formal (record { var = (named (codes "x") 18); type = num_type; at = 21 })), (Some ((formal (record { var = (named (codes "x") 26); type = num_type; at = 29 })), None))) (to_name (named (codes "a") 34))) (nil 36))) } ∷ [] }) (Some (fault 6 26))
  pub a_variable_that_was_bound_inside_what : Example (codes "site a{}run a eval(newloc($x).nil)@a.out($x)@a.nil;") (record { sites = record { start = 0; site = (named (codes "a") 5); aliases = [] } ∷ []; defs = []; puts = []; runs = record { start = 8; site = (named (codes "a") 12); body = (one (act (eval 14 (one (act (newloc 19 (named (codes "x") 26)) (nil 30))) (to_name (named (codes "a") 35))) (act (out 37 ((variable (named (codes "x") 41)), None) (to_name (named (codes "a") 45))) (nil 47)))) } ∷ [] }) (Some (fault 5 41))
  pub a_variable_in_an_opening_tuple : Example (codes "site a{}put a($x);") (record { sites = record { start = 0; site = (named (codes "a") 5); aliases = [] } ∷ []; defs = []; puts = record { start = 8; site = (named (codes "a") 12); fields = ((variable (named (codes "x") 14)), None) } ∷ []; runs = [] }) (Some (fault 5 14))
  pub the_earlier_of_two_faults_though_the : Example (codes "site a{x=b;}site a{}") (record { sites = record { start = 0; site = (named (codes "a") 5); aliases = record { alias = (named (codes "x") 7); site = (named (codes "b") 9) } ∷ [] } ∷ record { start = 12; site = (named (codes "a") 17); aliases = [] } ∷ []; defs = []; puts = []; runs = [] }) (Some (fault 5 9))
  pub a_ninth_variable_in_scope : Example (codes "site a{}run a newloc($b).newloc($c).newloc($d).newloc($e).newloc($f).newloc($g).newloc($h).newloc($i).newloc($j).nil;") (record { sites = record { start = 0; site = (named (codes "a") 5); aliases = [] } ∷ []; defs = []; puts = []; runs = record { start = 8; site = (named (codes "a") 12); body = (one (act (newloc 14 (named (codes "b") 21)) (act (newloc 25 (named (codes "c") 32)) (act (newloc 36 (named (codes "d") 43)) (act (newloc 47 (named (codes "e") 54)) (act (newloc 58 (named (codes "f") 65)) (act (newloc 69 (named (codes "g") 76)) (act (newloc 80 (named (codes "h") 87)) (act (newloc 91 (named (codes "i") 98)) (act (newloc 102 (named (codes "j") 109)) (nil 113))))))))))) } ∷ [] }) (Some (fault 8 109))

-- a text with no fault, its tree, its nodes and the node of its one agent
pub record Shown (text : List ℕ) (n : Net) (nodes : List Node) (first : ℕ) : Type 0 where
  pub is : IsText text n
  pub clean : faults n ≡ []
  pub table : (read_net n).nodes ≡ nodes
  pub begins : (read_net n).agents ≡ record { site = 0; first = first } ∷ []

-- how nodes are numbered and linked
pub record NodesShown : Type 0 where
  -- a process in brackets begins with its last bar
  pub grouped : Shown (codes "site a{}run a out(1)@a.(nil|nil)|nil;") (record { sites = record { start = 0; site = (named (codes "a") 5); aliases = [] } ∷ []; defs = []; puts = []; runs = record { start = 8; site = (named (codes "a") 12); body = (par (one (act (out 14 ((number (Some (pos 1)) 18), None) (to_name (named (codes "a") 21))) (group (par (one (nil 24)) 27 (nil 28))))) 32 (nil 33)) } ∷ [] }) (out_node (num (pos 1) ∷ []) (site_no 0) 2 ∷ nil_node ∷ par_node 1 3 ∷ nil_node ∷ par_node 0 5 ∷ nil_node ∷ []) 4
  -- what is evaluated elsewhere stands between the action and what follows it
  pub elsewhere : Shown (codes "site a{}run a eval(nil|nil)@self.nil;") (record { sites = record { start = 0; site = (named (codes "a") 5); aliases = [] } ∷ []; defs = []; puts = []; runs = record { start = 8; site = (named (codes "a") 12); body = (one (act (eval 14 (par (one (nil 19)) 22 (nil 23)) (to_name (named (codes "self") 28))) (nil 33))) } ∷ [] }) (eval_node 2 (alias_no 0) 4 ∷ nil_node ∷ par_node 1 3 ∷ nil_node ∷ nil_node ∷ []) 0
  -- a hidden variable keeps its slot
  pub hidden : Shown (codes "site a{}run a in(!$x:num)@a.read(!$x:num)@a.out($x)@a.nil;") (record { sites = record { start = 0; site = (named (codes "a") 5); aliases = [] } ∷ []; defs = []; puts = []; runs = record { start = 8; site = (named (codes "a") 12); body = (one (act (inp 14 ((formal (record { var = (named (codes "x") 18); type = num_type; at = 21 })), None) (to_name (named (codes "a") 26))) (act (read 28 ((formal (record { var = (named (codes "x") 34); type = num_type; at = 37 })), None) (to_name (named (codes "a") 42))) (act (out 44 ((variable (named (codes "x") 48)), None) (to_name (named (codes "a") 52))) (nil 54))))) } ∷ [] }) (in_node (bind num_type 0 ∷ []) (site_no 0) 1 ∷ read_node (bind num_type 1 ∷ []) (site_no 0) 2 ∷ out_node (slot_no 1 ∷ []) (site_no 0) 3 ∷ nil_node ∷ []) 0
  -- a new site is bound in the next slot
  pub made : Shown (codes "site a{}run a newloc($s).eval(nil)@$s.nil;") (record { sites = record { start = 0; site = (named (codes "a") 5); aliases = [] } ∷ []; defs = []; puts = []; runs = record { start = 8; site = (named (codes "a") 12); body = (one (act (newloc 14 (named (codes "s") 21)) (act (eval 25 (one (nil 30)) (to_variable (named (codes "s") 35))) (nil 38)))) } ∷ [] }) (new_node 0 1 ∷ eval_node 2 (slot_no 0) 3 ∷ nil_node ∷ nil_node ∷ []) 0
