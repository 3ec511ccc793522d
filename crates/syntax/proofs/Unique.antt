-- A list of tokens has at most one tree.
use Rattle.std.proofs.Common.{◌≡◌, ℕ, zero, suc, ◌+◌, ◌≤◌, List, [], ◌∷◌, Some, None, sym, refl, ap, ◌∙◌, arith}
use Rattle.syntax.specs.Grammar.{Unique}
use Rattle.syntax.specs.Machine.{tag, bars, type_of}
use Rattle.syntax.specs.Tree.{Field, number, word, name, variable, Target, to_name, to_variable, Ty, num_type, word_type, site_type, Typed, Place, field, formal, More, OneToFour, UpToFour, Proc, one, par, Item, nil, call, act, group, Action, out, inp, read, eval, newloc, Alias, SiteLine, DefLine, PutLine, RunLine, Net, Leaf, last, mark, bar, key, name_leaf, variable_leaf, word_leaf, number_leaf, odd, field_text, target_text, type_key, typed_text, place_text, more_text, some_text, upto_text, proc_text, item_text, action_text, many_text, alias_text, site_text, def_text, put_text, run_text}
use Rattle.syntax.proofs.Shape.{body_text, grow}

-- the first token, by a number

abbrev leaf_tag : Leaf → ℕ
leaf_tag last = 0
leaf_tag (mark b) = 1
leaf_tag (bar s) = 2
leaf_tag (name_leaf w) = 3
leaf_tag (variable_leaf w) = 4
leaf_tag (word_leaf w) = 5
leaf_tag (number_leaf v s) = 6
leaf_tag odd = 7
leaf_tag (key w s) = tag w + 10

abbrev head_tag : List Leaf → ℕ
head_tag [] = 8
head_tag (x ∷ xs) = leaf_tag x

pub one_field : (x y : Field) (r s : List Leaf) → field_text x r ≡ field_text y s → (x ≡ y) × (r ≡ s)
one_field (number v1 a1) (number v2 a2) r s e = (cc, cc)
one_field (number v1 a1) (word w2) r s e = let z : ◌≡◌ {A = ℕ} 6 5 = ap head_tag e in absurd (omega arith)
one_field (number v1 a1) (name w2) r s e = let z : ◌≡◌ {A = ℕ} 6 3 = ap head_tag e in absurd (omega arith)
one_field (number v1 a1) (variable w2) r s e = let z : ◌≡◌ {A = ℕ} 6 4 = ap head_tag e in absurd (omega arith)
one_field (word w1) (number v2 a2) r s e = let z : ◌≡◌ {A = ℕ} 5 6 = ap head_tag e in absurd (omega arith)
one_field (word w1) (word w2) r s e = (cc, cc)
one_field (word w1) (name w2) r s e = let z : ◌≡◌ {A = ℕ} 5 3 = ap head_tag e in absurd (omega arith)
one_field (word w1) (variable w2) r s e = let z : ◌≡◌ {A = ℕ} 5 4 = ap head_tag e in absurd (omega arith)
one_field (name w1) (number v2 a2) r s e = let z : ◌≡◌ {A = ℕ} 3 6 = ap head_tag e in absurd (omega arith)
one_field (name w1) (word w2) r s e = let z : ◌≡◌ {A = ℕ} 3 5 = ap head_tag e in absurd (omega arith)
one_field (name w1) (name w2) r s e = (cc, cc)
one_field (name w1) (variable w2) r s e = let z : ◌≡◌ {A = ℕ} 3 4 = ap head_tag e in absurd (omega arith)
one_field (variable w1) (number v2 a2) r s e = let z : ◌≡◌ {A = ℕ} 4 6 = ap head_tag e in absurd (omega arith)
one_field (variable w1) (word w2) r s e = let z : ◌≡◌ {A = ℕ} 4 5 = ap head_tag e in absurd (omega arith)
one_field (variable w1) (name w2) r s e = let z : ◌≡◌ {A = ℕ} 4 3 = ap head_tag e in absurd (omega arith)
one_field (variable w1) (variable w2) r s e = (cc, cc)

pub one-target : (x y : Target) (r s : List Leaf) → target_text x r ≡ target_text y s → (x ≡ y) × (r ≡ s)
one-target (to_name w1) (to_name w2) r s e = (cc, cc)
one-target (to_name w1) (to_variable w2) r s e = let z : ◌≡◌ {A = ℕ} 3 4 = ap head_tag e in absurd (omega arith)
one-target (to_variable w1) (to_name w2) r s e = let z : ◌≡◌ {A = ℕ} 4 3 = ap head_tag e in absurd (omega arith)
one-target (to_variable w1) (to_variable w2) r s e = (cc, cc)

type_back : (y : Ty) → type_of (type_key y) ≡ Some y
type_back num_type = refl
type_back word_type = refl
type_back site_type = refl

one_type : (x y : Ty) → type_key x ≡ type_key y → x ≡ y
one_type x y e = let p : Some x ≡ Some y = sym (type_back x) ∙ ap type_of e ∙ type_back y in cc

pub one_typed : (x y : Typed) (r s : List Leaf) → typed_text x r ≡ typed_text y s → (x ≡ y) × (r ≡ s)
one_typed x y r s e =
    let v : x.var ≡ y.var = cc in
    let k : type_key x.type ≡ type_key y.type = cc in
    let a : x.at ≡ y.at = cc in
    let t = one_type x.type y.type k in
    ((λ i. record { var = v i; type = t i; at = a i }), cc)

field-tag : (f : Field) (r : List Leaf) → 3 ≤ head_tag (field_text f r)
field-tag (number v a) r = omega arith
field-tag (word w) r = omega arith
field-tag (name w) r = omega arith
field-tag (variable w) r = omega arith

pub one_place : (x y : Place) (r s : List Leaf) → place_text x r ≡ place_text y s → (x ≡ y) × (r ≡ s)
one_place (field f) (field g) r s e = let h = one_field f g r s e in (ap field h.0, h.1)
one_place (field f) (formal v) r s e = absurd (omega (arith, field-tag f r, ap head_tag e))
one_place (formal v) (field g) r s e = absurd (omega (arith, field-tag g s, ap head_tag e))
one_place (formal v) (formal u) r s e =
    let t : typed_text v r ≡ typed_text u s = cc in
    let h = one_typed v u r s t in
    (ap formal h.0, h.1)

-- lists in brackets

module _ {A : Type 0} (f : A → List Leaf → List Leaf) (one-by : (x y : A) (r s : List Leaf) → f x r ≡ f y s → (x ≡ y) × (r ≡ s)) where
  one_more : (n : ℕ) (x y : More A n) (r s : List Leaf) → more_text f n x (mark 41 ∷ r) ≡ more_text f n y (mark 41 ∷ s) → (x ≡ y) × (r ≡ s)
  one_more zero x y r s e = (refl, cc)
  one_more (suc n) None None r s e = (refl, cc)
  one_more (suc n) None (Some y) r s e = let z : ◌≡◌ {A = ℕ} 41 44 = cc in absurd (omega arith)
  one_more (suc n) (Some x) None r s e = let z : ◌≡◌ {A = ℕ} 44 41 = cc in absurd (omega arith)
  one_more (suc n) (Some x) (Some y) r s e =
      let t : f x.0 (more_text f n x.1 (mark 41 ∷ r)) ≡ f y.0 (more_text f n y.1 (mark 41 ∷ s)) = cc in
      let h = one-by x.0 y.0 _ _ t in
      let g = one_more n x.1 y.1 r s h.1 in
      ((λ i. Some (h.0 i, g.0 i)), g.1)

  pub one_some : (x y : OneToFour A) (r s : List Leaf) → some_text f x (mark 41 ∷ r) ≡ some_text f y (mark 41 ∷ s) → (x ≡ y) × (r ≡ s)
  one_some x y r s e =
      let h = one-by x.0 y.0 _ _ e in
      let g = one_more 3 x.1 y.1 r s h.1 in
      ((λ i. (h.0 i, g.0 i)), g.1)

  pub one-upto : ((x : A) (r : List Leaf) → 3 ≤ head_tag (f x r)) → (x y : UpToFour A) (r s : List Leaf) → upto_text f x (mark 41 ∷ r) ≡ upto_text f y (mark 41 ∷ s) → (x ≡ y) × (r ≡ s)
  one-upto large None None r s e = (refl, cc)
  one-upto large None (Some y) r s e = absurd (omega (arith, large y.0 (more_text f 3 y.1 (mark 41 ∷ s)), ap head_tag e))
  one-upto large (Some x) None r s e = absurd (omega (arith, large x.0 (more_text f 3 x.1 (mark 41 ∷ r)), ap head_tag e))
  one-upto large (Some x) (Some y) r s e = let h = one_some x y r s e in (ap Some h.0, h.1)

-- processes

abbrev pub One : Item → Type 0
One i = (j : Item) (r s : List Leaf) → item_text i r ≡ item_text j s → (i ≡ j) × (r ≡ s)

abbrev Each : List (ℕ × Item) → Type 0
Each [] = Unit {0}
Each (x ∷ xs) = One x.1 × Each xs

abbrev Items : Proc → Type 0
Items (one i) = One i
Items (par p b i) = Items p × One i

abbrev bars_text : List (ℕ × Item) → List Leaf → List Leaf
bars_text xs r = many_text (body_text bars) xs r

abbrev first : Proc → Item
first (one i) = i
first (par p b i) = first p

-- the items behind the first, before xs
abbrev spine : Proc → List (ℕ × Item) → List (ℕ × Item)
spine (one i) xs = xs
spine (par p b i) xs = spine p ((b, i) ∷ xs)

spine_text : (p : Proc) (xs : List (ℕ × Item)) (r : List Leaf) → proc_text p (bars_text xs r) ≡ item_text (first p) (bars_text (spine p xs) r)
spine_text (one i) xs r = refl
spine_text (par p b i) xs r = spine_text p ((b, i) ∷ xs) r

rebuilt : (p : Proc) (xs : List (ℕ × Item)) → grow (one (first p)) (spine p xs) ≡ grow p xs
rebuilt (one i) xs = refl
rebuilt (par p b i) xs = rebuilt p ((b, i) ∷ xs)

items_first : (p : Proc) → Items p → One (first p)
items_first (one i) h = h
items_first (par p b i) h = items_first p h.0

items_spine : (p : Proc) (xs : List (ℕ × Item)) → Items p → Each xs → Each (spine p xs)
items_spine (one i) xs h g = g
items_spine (par p b i) xs h g = items_spine p ((b, i) ∷ xs) h.0 (h.1, g)

one-bars : (xs ys : List (ℕ × Item)) → Each xs → (c : ℕ) (r s : List Leaf) → bars_text xs (mark c ∷ r) ≡ bars_text ys (mark c ∷ s) → (xs ≡ ys) × (r ≡ s)
one-bars [] [] h c r s e = (refl, cc)
one-bars [] (y ∷ ys) h c r s e = let z : ◌≡◌ {A = ℕ} 1 2 = ap head_tag e in absurd (omega arith)
one-bars (x ∷ xs) [] h c r s e = let z : ◌≡◌ {A = ℕ} 2 1 = ap head_tag e in absurd (omega arith)
one-bars (x ∷ xs) (y ∷ ys) h c r s e =
    let b : x.0 ≡ y.0 = cc in
    let t : item_text x.1 (bars_text xs (mark c ∷ r)) ≡ item_text y.1 (bars_text ys (mark c ∷ s)) = cc in
    let i = h.0 y.1 _ _ t in
    let g = one-bars xs ys h.1 c r s i.1 in
    ((λ j. (b j, i.0 j) ∷ g.0 j), g.1)

one_proc_by : (p q : Proc) → Items p → (c : ℕ) (r s : List Leaf) → proc_text p (mark c ∷ r) ≡ proc_text q (mark c ∷ s) → (p ≡ q) × (r ≡ s)
one_proc_by p q h c r s e =
    let t = sym (spine_text p [] (mark c ∷ r)) ∙ e ∙ spine_text q [] (mark c ∷ s) in
    let i = items_first p h (first q) _ _ t in
    let g = one-bars (spine p []) (spine q []) (items_spine p [] h tt) c r s i.1 in
    (sym (rebuilt p []) ∙ (λ j. grow (one (i.0 j)) (g.0 j)) ∙ rebuilt q [], g.1)

abbrev action_tag : Action → ℕ
action_tag (out a fs t) = 15
action_tag (inp a ps t) = 16
action_tag (read a ps t) = 17
action_tag (eval a p t) = 18
action_tag (newloc a v) = 19

abbrev item_tag : Item → ℕ
item_tag (nil a) = 14
item_tag (call w fs) = 3
item_tag (act a i) = action_tag a
item_tag (group p) = 1

action_head : (a : Action) (r : List Leaf) → head_tag (action_text a r) ≡ action_tag a
action_head (out a fs t) r = refl
action_head (inp a ps t) r = refl
action_head (read a ps t) r = refl
action_head (eval a p t) r = refl
action_head (newloc a v) r = refl

item_head : (i : Item) (r : List Leaf) → head_tag (item_text i r) ≡ item_tag i
item_head (nil a) r = refl
item_head (call w fs) r = refl
item_head (act a i) r = action_head a (mark 46 ∷ item_text i r)
item_head (group p) r = refl

action_large : (a : Action) → 15 ≤ action_tag a
action_large (out a fs t) = omega arith
action_large (inp a ps t) = omega arith
action_large (read a ps t) = omega arith
action_large (eval a p t) = omega arith
action_large (newloc a v) = omega arith

item_tags : (i j : Item) (r s : List Leaf) → item_text i r ≡ item_text j s → item_tag i ≡ item_tag j
item_tags i j r s e = sym (item_head i r) ∙ ap head_tag e ∙ item_head j s

action_tags : (a b : Action) (r s : List Leaf) → action_text a r ≡ action_text b s → action_tag a ≡ action_tag b
action_tags a b r s e = sym (action_head a r) ∙ ap head_tag e ∙ action_head b s

-- the target and what follows it
one_aimed : (t u : Target) (r s : List Leaf) → mark 64 ∷ target_text t r ≡ mark 64 ∷ target_text u s → (t ≡ u) × (r ≡ s)
one_aimed t u r s e = let q : target_text t r ≡ target_text u s = cc in one-target t u r s q

mutual
  one-item : (i : Item) → One i
  one-item (nil a1) (nil a2) r s e = (cc, cc)
  one-item (nil a1) (call w2 fs2) r s e = let z : ◌≡◌ {A = ℕ} (14) (3) = item_tags (nil a1) (call w2 fs2) r s e in absurd (omega arith)
  one-item (nil a1) (act a2 i2) r s e = let z : ◌≡◌ {A = ℕ} (14) (action_tag a2) = item_tags (nil a1) (act a2 i2) r s e in absurd (omega (arith, action_large a2))
  one-item (nil a1) (group pb) r s e = let z : ◌≡◌ {A = ℕ} (14) (1) = item_tags (nil a1) (group pb) r s e in absurd (omega arith)
  one-item (call w1 fs1) (nil a2) r s e = let z : ◌≡◌ {A = ℕ} (3) (14) = item_tags (call w1 fs1) (nil a2) r s e in absurd (omega arith)
  one-item (call w1 fs1) (call w2 fs2) r s e =
      let w : w1 ≡ w2 = cc in
      let t : upto_text field_text fs1 (mark 41 ∷ r) ≡ upto_text field_text fs2 (mark 41 ∷ s) = cc in
      let h = one-upto field_text one_field field-tag fs1 fs2 r s t in
      ((λ j. call (w j) (h.0 j)), h.1)
  one-item (call w1 fs1) (act a2 i2) r s e = let z : ◌≡◌ {A = ℕ} (3) (action_tag a2) = item_tags (call w1 fs1) (act a2 i2) r s e in absurd (omega (arith, action_large a2))
  one-item (call w1 fs1) (group pb) r s e = let z : ◌≡◌ {A = ℕ} (3) (1) = item_tags (call w1 fs1) (group pb) r s e in absurd (omega arith)
  one-item (act a1 i1) (nil a2) r s e = let z : ◌≡◌ {A = ℕ} (action_tag a1) (14) = item_tags (act a1 i1) (nil a2) r s e in absurd (omega (arith, action_large a1))
  one-item (act a1 i1) (call w2 fs2) r s e = let z : ◌≡◌ {A = ℕ} (action_tag a1) (3) = item_tags (act a1 i1) (call w2 fs2) r s e in absurd (omega (arith, action_large a1))
  one-item (act a1 i1) (act a2 i2) r s e =
      let h = one_action a1 a2 _ _ e in
      let t : item_text i1 r ≡ item_text i2 s = (let u = h.1 in cc) in
      let g = one-item i1 i2 r s t in
      ((λ j. act (h.0 j) (g.0 j)), g.1)
  one-item (act a1 i1) (group pb) r s e = let z : ◌≡◌ {A = ℕ} (action_tag a1) (1) = item_tags (act a1 i1) (group pb) r s e in absurd (omega (arith, action_large a1))
  one-item (group pa) (nil a2) r s e = let z : ◌≡◌ {A = ℕ} (1) (14) = item_tags (group pa) (nil a2) r s e in absurd (omega arith)
  one-item (group pa) (call w2 fs2) r s e = let z : ◌≡◌ {A = ℕ} (1) (3) = item_tags (group pa) (call w2 fs2) r s e in absurd (omega arith)
  one-item (group pa) (act a2 i2) r s e = let z : ◌≡◌ {A = ℕ} (1) (action_tag a2) = item_tags (group pa) (act a2 i2) r s e in absurd (omega (arith, action_large a2))
  one-item (group pa) (group pb) r s e =
      let t : proc_text pa (mark 41 ∷ r) ≡ proc_text pb (mark 41 ∷ s) = cc in
      let h = one_proc_by pa pb (all_items pa) 41 r s t in
      (ap group h.0, h.1)

  one_action : (a b : Action) (r s : List Leaf) → action_text a r ≡ action_text b s → (a ≡ b) × (r ≡ s)
  one_action (out a1 fs1 t1) (out a2 fs2 t2) r s e =
      let w : a1 ≡ a2 = cc in
      let q : some_text field_text fs1 (mark 41 ∷ mark 64 ∷ target_text t1 r) ≡ some_text field_text fs2 (mark 41 ∷ mark 64 ∷ target_text t2 s) = cc in
      let h = one_some field_text one_field fs1 fs2 _ _ q in
      let g = one_aimed t1 t2 r s h.1 in
      ((λ j. out (w j) (h.0 j) (g.0 j)), g.1)
  one_action (out a1 fs1 t1) (inp a2 ps2 t2) r s e = let z : ◌≡◌ {A = ℕ} 15 16 = action_tags (out a1 fs1 t1) (inp a2 ps2 t2) r s e in absurd (omega arith)
  one_action (out a1 fs1 t1) (read a2 ps2 t2) r s e = let z : ◌≡◌ {A = ℕ} 15 17 = action_tags (out a1 fs1 t1) (read a2 ps2 t2) r s e in absurd (omega arith)
  one_action (out a1 fs1 t1) (eval a2 pb t2) r s e = let z : ◌≡◌ {A = ℕ} 15 18 = action_tags (out a1 fs1 t1) (eval a2 pb t2) r s e in absurd (omega arith)
  one_action (out a1 fs1 t1) (newloc a2 v2) r s e = let z : ◌≡◌ {A = ℕ} 15 19 = action_tags (out a1 fs1 t1) (newloc a2 v2) r s e in absurd (omega arith)
  one_action (inp a1 ps1 t1) (out a2 fs2 t2) r s e = let z : ◌≡◌ {A = ℕ} 16 15 = action_tags (inp a1 ps1 t1) (out a2 fs2 t2) r s e in absurd (omega arith)
  one_action (inp a1 ps1 t1) (inp a2 ps2 t2) r s e =
      let w : a1 ≡ a2 = cc in
      let q : some_text place_text ps1 (mark 41 ∷ mark 64 ∷ target_text t1 r) ≡ some_text place_text ps2 (mark 41 ∷ mark 64 ∷ target_text t2 s) = cc in
      let h = one_some place_text one_place ps1 ps2 _ _ q in
      let g = one_aimed t1 t2 r s h.1 in
      ((λ j. inp (w j) (h.0 j) (g.0 j)), g.1)
  one_action (inp a1 ps1 t1) (read a2 ps2 t2) r s e = let z : ◌≡◌ {A = ℕ} 16 17 = action_tags (inp a1 ps1 t1) (read a2 ps2 t2) r s e in absurd (omega arith)
  one_action (inp a1 ps1 t1) (eval a2 pb t2) r s e = let z : ◌≡◌ {A = ℕ} 16 18 = action_tags (inp a1 ps1 t1) (eval a2 pb t2) r s e in absurd (omega arith)
  one_action (inp a1 ps1 t1) (newloc a2 v2) r s e = let z : ◌≡◌ {A = ℕ} 16 19 = action_tags (inp a1 ps1 t1) (newloc a2 v2) r s e in absurd (omega arith)
  one_action (read a1 ps1 t1) (out a2 fs2 t2) r s e = let z : ◌≡◌ {A = ℕ} 17 15 = action_tags (read a1 ps1 t1) (out a2 fs2 t2) r s e in absurd (omega arith)
  one_action (read a1 ps1 t1) (inp a2 ps2 t2) r s e = let z : ◌≡◌ {A = ℕ} 17 16 = action_tags (read a1 ps1 t1) (inp a2 ps2 t2) r s e in absurd (omega arith)
  one_action (read a1 ps1 t1) (read a2 ps2 t2) r s e =
      let w : a1 ≡ a2 = cc in
      let q : some_text place_text ps1 (mark 41 ∷ mark 64 ∷ target_text t1 r) ≡ some_text place_text ps2 (mark 41 ∷ mark 64 ∷ target_text t2 s) = cc in
      let h = one_some place_text one_place ps1 ps2 _ _ q in
      let g = one_aimed t1 t2 r s h.1 in
      ((λ j. read (w j) (h.0 j) (g.0 j)), g.1)
  one_action (read a1 ps1 t1) (eval a2 pb t2) r s e = let z : ◌≡◌ {A = ℕ} 17 18 = action_tags (read a1 ps1 t1) (eval a2 pb t2) r s e in absurd (omega arith)
  one_action (read a1 ps1 t1) (newloc a2 v2) r s e = let z : ◌≡◌ {A = ℕ} 17 19 = action_tags (read a1 ps1 t1) (newloc a2 v2) r s e in absurd (omega arith)
  one_action (eval a1 pa t1) (out a2 fs2 t2) r s e = let z : ◌≡◌ {A = ℕ} 18 15 = action_tags (eval a1 pa t1) (out a2 fs2 t2) r s e in absurd (omega arith)
  one_action (eval a1 pa t1) (inp a2 ps2 t2) r s e = let z : ◌≡◌ {A = ℕ} 18 16 = action_tags (eval a1 pa t1) (inp a2 ps2 t2) r s e in absurd (omega arith)
  one_action (eval a1 pa t1) (read a2 ps2 t2) r s e = let z : ◌≡◌ {A = ℕ} 18 17 = action_tags (eval a1 pa t1) (read a2 ps2 t2) r s e in absurd (omega arith)
  one_action (eval a1 pa t1) (eval a2 pb t2) r s e =
      let w : a1 ≡ a2 = cc in
      let q : proc_text pa (mark 41 ∷ mark 64 ∷ target_text t1 r) ≡ proc_text pb (mark 41 ∷ mark 64 ∷ target_text t2 s) = cc in
      let h = one_proc_by pa pb (all_items pa) 41 _ _ q in
      let g = one_aimed t1 t2 r s h.1 in
      ((λ j. eval (w j) (h.0 j) (g.0 j)), g.1)
  one_action (eval a1 pa t1) (newloc a2 v2) r s e = let z : ◌≡◌ {A = ℕ} 18 19 = action_tags (eval a1 pa t1) (newloc a2 v2) r s e in absurd (omega arith)
  one_action (newloc a1 v1) (out a2 fs2 t2) r s e = let z : ◌≡◌ {A = ℕ} 19 15 = action_tags (newloc a1 v1) (out a2 fs2 t2) r s e in absurd (omega arith)
  one_action (newloc a1 v1) (inp a2 ps2 t2) r s e = let z : ◌≡◌ {A = ℕ} 19 16 = action_tags (newloc a1 v1) (inp a2 ps2 t2) r s e in absurd (omega arith)
  one_action (newloc a1 v1) (read a2 ps2 t2) r s e = let z : ◌≡◌ {A = ℕ} 19 17 = action_tags (newloc a1 v1) (read a2 ps2 t2) r s e in absurd (omega arith)
  one_action (newloc a1 v1) (eval a2 pb t2) r s e = let z : ◌≡◌ {A = ℕ} 19 18 = action_tags (newloc a1 v1) (eval a2 pb t2) r s e in absurd (omega arith)
  one_action (newloc a1 v1) (newloc a2 v2) r s e = (cc, cc)

  all_items : (p : Proc) → Items p
  all_items (one i) = one-item i
  all_items (par p b i) = (all_items p, one-item i)

pub one-proc : (p q : Proc) (c : ℕ) (r s : List Leaf) → proc_text p (mark c ∷ r) ≡ proc_text q (mark c ∷ s) → (p ≡ q) × (r ≡ s)
one-proc p q c r s e = one_proc_by p q (all_items p) c r s e

-- lines

module _ {A : Type 0} (f : A → List Leaf → List Leaf) (T : ℕ) (begins : (x : A) (r : List Leaf) → head_tag (f x r) ≡ T) (one-by : (x y : A) (r s : List Leaf) → f x r ≡ f y s → (x ≡ y) × (r ≡ s)) where
  one-many : (xs ys : List A) (r s : List Leaf) → (head_tag r ≡ T → ⊥) → (head_tag s ≡ T → ⊥) → many_text f xs r ≡ many_text f ys s → (xs ≡ ys) × (r ≡ s)
  one-many [] [] r s g h e = (refl, e)
  one-many [] (y ∷ ys) r s g h e = absurd (g (ap head_tag e ∙ begins y (many_text f ys s)))
  one-many (x ∷ xs) [] r s g h e = absurd (h (sym (ap head_tag e) ∙ begins x (many_text f xs r)))
  one-many (x ∷ xs) (y ∷ ys) r s g h e =
      let i = one-by x y _ _ e in
      let m = one-many xs ys r s g h i.1 in
      ((λ j. i.0 j ∷ m.0 j), m.1)

one-alias : (x y : Alias) (r s : List Leaf) → alias_text x r ≡ alias_text y s → (x ≡ y) × (r ≡ s)
one-alias x y r s e =
    let a : x.alias ≡ y.alias = cc in
    let b : x.site ≡ y.site = cc in
    ((λ i. record { alias = a i; site = b i }), cc)

one-site : (x y : SiteLine) (r s : List Leaf) → site_text x r ≡ site_text y s → (x ≡ y) × (r ≡ s)
one-site x y r s e =
    let a : x.start ≡ y.start = cc in
    let b : x.site ≡ y.site = cc in
    let t : many_text alias_text x.aliases (mark 125 ∷ r) ≡ many_text alias_text y.aliases (mark 125 ∷ s) = cc in
    let m = one-many alias_text 3 (λ z q. refl) one-alias x.aliases y.aliases (mark 125 ∷ r) (mark 125 ∷ s) (λ z. omega arith) (λ z. omega arith) t in
    let q : r ≡ s = (let u = m.1 in cc) in
    ((λ i. record { start = a i; site = b i; aliases = m.0 i }), q)

typed_tag : (v : Typed) (r : List Leaf) → 3 ≤ head_tag (typed_text v r)
typed_tag v r = omega arith

one_def : (x y : DefLine) (r s : List Leaf) → def_text x r ≡ def_text y s → (x ≡ y) × (r ≡ s)
one_def x y r s e =
    let a : x.start ≡ y.start = cc in
    let b : x.def ≡ y.def = cc in
    let t : upto_text typed_text x.params (mark 41 ∷ mark 61 ∷ proc_text x.body (mark 59 ∷ r)) ≡ upto_text typed_text y.params (mark 41 ∷ mark 61 ∷ proc_text y.body (mark 59 ∷ s)) = cc in
    let m = one-upto typed_text one_typed typed_tag x.params y.params _ _ t in
    let u : proc_text x.body (mark 59 ∷ r) ≡ proc_text y.body (mark 59 ∷ s) = (let v = m.1 in cc) in
    let p = one-proc x.body y.body 59 r s u in
    ((λ i. record { start = a i; def = b i; params = m.0 i; body = p.0 i }), p.1)

one_put : (x y : PutLine) (r s : List Leaf) → put_text x r ≡ put_text y s → (x ≡ y) × (r ≡ s)
one_put x y r s e =
    let a : x.start ≡ y.start = cc in
    let b : x.site ≡ y.site = cc in
    let t : some_text field_text x.fields (mark 41 ∷ mark 59 ∷ r) ≡ some_text field_text y.fields (mark 41 ∷ mark 59 ∷ s) = cc in
    let m = one_some field_text one_field x.fields y.fields _ _ t in
    let q : r ≡ s = (let u = m.1 in cc) in
    ((λ i. record { start = a i; site = b i; fields = m.0 i }), q)

one-run : (x y : RunLine) (r s : List Leaf) → run_text x r ≡ run_text y s → (x ≡ y) × (r ≡ s)
one-run x y r s e =
    let a : x.start ≡ y.start = cc in
    let b : x.site ≡ y.site = cc in
    let t : proc_text x.body (mark 59 ∷ r) ≡ proc_text y.body (mark 59 ∷ s) = cc in
    let p = one-proc x.body y.body 59 r s t in
    ((λ i. record { start = a i; site = b i; body = p.0 i }), p.1)

-- what follows the lines of one sort

abbrev from_runs : Net → List Leaf
from_runs n = many_text run_text n.runs (last ∷ [])

abbrev from_puts : Net → List Leaf
from_puts n = many_text put_text n.puts (from_runs n)

abbrev from_defs : Net → List Leaf
from_defs n = many_text def_text n.defs (from_puts n)

other_many : {A : Type 0} (f : A → List Leaf → List Leaf) (T V : ℕ) → ((x : A) (r : List Leaf) → head_tag (f x r) ≡ T) → (T ≡ V → ⊥) → (xs : List A) (r : List Leaf) → (head_tag r ≡ V → ⊥) → head_tag (many_text f xs r) ≡ V → ⊥
other_many f T V b apart [] r h e = h e
other_many f T V b apart (x ∷ xs) r h e = apart (sym (b x (many_text f xs r)) ∙ e)

runs_other : (n : Net) (V : ℕ) → (0 ≡ V → ⊥) → (13 ≡ V → ⊥) → head_tag (from_runs n) ≡ V → ⊥
runs_other n V a b = other_many run_text 13 V (λ x r. refl) b n.runs (last ∷ []) a

puts_other : (n : Net) (V : ℕ) → (0 ≡ V → ⊥) → (13 ≡ V → ⊥) → (12 ≡ V → ⊥) → head_tag (from_puts n) ≡ V → ⊥
puts_other n V a b c = other_many put_text 12 V (λ x r. refl) c n.puts (from_runs n) (runs_other n V a b)

defs_other : (n : Net) → head_tag (from_defs n) ≡ 10 → ⊥
defs_other n = other_many def_text 11 10 (λ x r. refl) (λ z. omega arith) n.defs (from_puts n) (puts_other n 10 (λ z. omega arith) (λ z. omega arith) (λ z. omega arith))

pub unique : Unique
unique m n e =
    let a = one-many site_text 10 (λ x r. refl) one-site m.sites n.sites (from_defs m) (from_defs n) (defs_other m) (defs_other n) e in
    let b = one-many def_text 11 (λ x r. refl) one_def m.defs n.defs (from_puts m) (from_puts n)
    (puts_other m 11 (λ z. omega arith) (λ z. omega arith) (λ z. omega arith)) (puts_other n 11 (λ z. omega arith) (λ z. omega arith) (λ z. omega arith)) a.1 in
    let c = one-many put_text 12 (λ x r. refl) one_put m.puts n.puts (from_runs m) (from_runs n)
    (runs_other m 12 (λ z. omega arith) (λ z. omega arith)) (runs_other n 12 (λ z. omega arith) (λ z. omega arith)) b.1 in
    let d = one-many run_text 13 (λ x r. refl) one-run m.runs n.runs (last ∷ []) (last ∷ []) (λ z. omega arith) (λ z. omega arith) c.1 in
    λ i. record { sites = a.0 i; defs = b.0 i; puts = c.0 i; runs = d.0 i }
