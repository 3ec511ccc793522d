-- Nodes are numbered in the order of the text, and none leads out of its process. Assumes nothing.
use Rattle.std.proofs.Common.{◌≡◌, ℕ, suc, ◌+◌, ◌<◌, ◌≤◌, List, [], ◌∷◌, ◌++◌, length, refl, arith, length-append}
use Rattle.syntax.specs.Tree.{one, par, Item, nil, call, act, group, Action, out, inp, read, eval, newloc, Net}
use Rattle.reader.specs.Scopes.{Scope}
use Rattle.reader.specs.Faults.{proc_nodes, item_nodes, action_nodes, behind}
use Rattle.reader.specs.ReadNets.{Node, nil_node, par_node, call_node, out_node, in_node, read_node, eval_node, new_node, proc_first, item_first, proc_table, item_table, action_table}
use Rattle.reader.specs.Laws.{NodesNumbered, BeginsInside, Between, Leads, Each, NodesClosed}

mutual
  pub nodes_numbered : NodesNumbered
  nodes_numbered n s k (one i) = item_numbered n s k i
  nodes_numbered n s k (par p b i) =
      let m = k + length (proc_nodes p) in
      omega (arith, length-append (proc_table n s k p) (par_node (proc_first k p) (item_first (suc m) i) ∷ item_table n s (suc m) i), length-append (proc_nodes p) (b ∷ item_nodes i), nodes_numbered n s k p, item_numbered n s (suc m) i)

  item_numbered : (n : Net) (s : Scope) (k : ℕ) (i : Item) → length (item_table n s k i) ≡ length (item_nodes i)
  item_numbered n s k (nil p) = refl
  item_numbered n s k (call w fs) = refl
  item_numbered n s k (act a i) =
      let m = k + length (action_nodes a) in
      omega (arith, length-append (action_table n s k (item_first m i) a) (item_table n (behind s a) m i), length-append (action_nodes a) (item_nodes i), action_numbered n s k (item_first m i) a, item_numbered n (behind s a) m i)
  item_numbered n s k (group p) = nodes_numbered n s k p

  action_numbered : (n : Net) (s : Scope) (k j : ℕ) (a : Action) → length (action_table n s k j a) ≡ length (action_nodes a)
  action_numbered n s k j (out p fs t) = refl
  action_numbered n s k j (inp p ps t) = refl
  action_numbered n s k j (read p ps t) = refl
  action_numbered n s k j (eval p q t) = let h = nodes_numbered n s (suc k) q in omega arith
  action_numbered n s k j (newloc p v) = refl

action_some : (a : Action) → 0 < length (action_nodes a)
action_some (out p fs t) = omega arith
action_some (inp p ps t) = omega arith
action_some (read p ps t) = omega arith
action_some (eval p q t) = omega arith
action_some (newloc p v) = omega arith

mutual
  pub begins_inside : BeginsInside
  begins_inside k (one i) = item-begins k i
  begins_inside k (par p b i) = let h = length-append (proc_nodes p) (b ∷ item_nodes i) in (omega arith, omega arith)

  item-begins : (k : ℕ) (i : Item) → Between k (k + length (item_nodes i)) (item_first k i)
  item-begins k (nil p) = (omega arith, omega arith)
  item-begins k (call w fs) = (omega arith, omega arith)
  item-begins k (act a i) = let h = length-append (action_nodes a) (item_nodes i) in let g = action_some a in (omega arith, omega arith)
  item-begins k (group p) = begins_inside k p

-- what lies between two numbers lies between two that are further apart
between : (a b c d j : ℕ) → c ≤ a → b ≤ d → Between a b j → Between c d j
between a b c d j f g h = (omega (arith, h.0), omega (arith, h.1))

widen : (a b c d : ℕ) → c ≤ a → b ≤ d → (x : Node) → Leads a b x → Leads c d x
widen a b c d f g nil_node h = tt
widen a b c d f g (par_node l r) h = (between a b c d l f g h.0, between a b c d r f g h.1)
widen a b c d f g (call_node e ts) h = tt
widen a b c d f g (out_node ts t j) h = between a b c d j f g h
widen a b c d f g (in_node ps t j) h = between a b c d j f g h
widen a b c d f g (read_node ps t j) h = between a b c d j f g h
widen a b c d f g (eval_node i t j) h = (between a b c d i f g h.0, between a b c d j f g h.1)
widen a b c d f g (new_node v j) h = between a b c d j f g h

widen_each : (a b c d : ℕ) → c ≤ a → b ≤ d → (xs : List Node) → Each (Leads a b) xs → Each (Leads c d) xs
widen_each a b c d f g [] h = tt
widen_each a b c d f g (x ∷ xs) h = (widen a b c d f g x h.0, widen_each a b c d f g xs h.1)

each_append : (P : Node → Type 0) (xs ys : List Node) → Each P xs → Each P ys → Each P (xs ++ ys)
each_append P [] ys f g = g
each_append P (x ∷ xs) ys f g = (f.0, each_append P xs ys f.1 g)

mutual
  pub nodes_closed : NodesClosed
  nodes_closed n s k (one i) = item_closed n s k i
  nodes_closed n s k (par p b i) =
      let m = k + length (proc_nodes p) in
      let high = k + length (proc_nodes p ++ (b ∷ item_nodes i)) in
      let size = length-append (proc_nodes p) (b ∷ item_nodes i) in
      let l = begins_inside k p in
      let r = item-begins (suc m) i in
      each_append (Leads k high) (proc_table n s k p) (par_node (proc_first k p) (item_first (suc m) i) ∷ item_table n s (suc m) i)
      (widen_each k m k high (omega arith) (omega arith) (proc_table n s k p) (nodes_closed n s k p)) (
        ((l.0, omega (arith, l.1)), (omega (arith, r.0), omega (arith, r.1))),
        widen_each (suc m) (suc m + length (item_nodes i)) k high (omega arith) (omega arith) (item_table n s (suc m) i) (item_closed n s (suc m) i),
      )

  item_closed : (n : Net) (s : Scope) (k : ℕ) (i : Item) → Each (Leads k (k + length (item_nodes i))) (item_table n s k i)
  item_closed n s k (nil p) = (tt, tt)
  item_closed n s k (call w fs) = (tt, tt)
  item_closed n s k (act a i) =
      let m = k + length (action_nodes a) in
      let high = k + length (action_nodes a ++ item_nodes i) in
      let size = length-append (action_nodes a) (item_nodes i) in
      let r = item-begins m i in
      each_append (Leads k high) (action_table n s k (item_first m i) a) (item_table n (behind s a) m i)
      (action_closed n s k (item_first m i) high a (omega arith) (omega (arith, r.0), omega (arith, r.1)))
      (widen_each m (m + length (item_nodes i)) k high (omega arith) (omega arith) (item_table n (behind s a) m i) (item_closed n (behind s a) m i))
  item_closed n s k (group p) = nodes_closed n s k p

  action_closed : (n : Net) (s : Scope) (k j high : ℕ) (a : Action) → k + length (action_nodes a) ≤ high → Between k high j → Each (Leads k high) (action_table n s k j a)
  action_closed n s k j high (out p fs t) g h = (h, tt)
  action_closed n s k j high (inp p ps t) g h = (h, tt)
  action_closed n s k j high (read p ps t) g h = (h, tt)
  action_closed n s k j high (eval p q t) g h =
      let l = begins_inside (suc k) q in
      (((omega (arith, l.0), omega (arith, l.1)), h), widen_each (suc k) (suc k + length (proc_nodes q)) k high (omega arith) (omega arith) (proc_table n s (suc k) q) (nodes_closed n s (suc k) q))
  action_closed n s k j high (newloc p v) g h = (h, tt)
