-- Which texts are those of the grammar, and where the others are refused.
use Rattle.std.specs.Prelude.{◌≡◌, ℕ, cond, ◌⊎◌, List, [], ◌∷◌, ◌++◌, map, Some, None, Option, ◌==◌, ◌≢◌}
use Rattle.lex.specs.Tokens.{Tok, Ended}
use Rattle.lex.specs.declared.Kind.{Kind}
use Rattle.lex.specs.declared.Kind.TheVariants.{End, Reserved, Name, Variable, Word, Number, Sign}
use Rattle.syntax.specs.Limits.{Limits, strict, free, NetFits}
use Rattle.syntax.specs.Machine.{Why, unexpected, deep, outside, number, net, run}
use Rattle.syntax.specs.Tree.{Net, net_text, Leaf, last, mark, bar, key, name_leaf, variable_leaf, word_leaf, number_leaf, odd}

-- the leaf for a token of that kind, with those bytes, at that place
abbrev pub leaf_of : Option Kind → List ℕ → ℕ → Leaf
leaf_of None w s = odd
leaf_of (Some End) w s = last
leaf_of (Some (Reserved k)) w s = key k s
leaf_of (Some Name) w s = name_leaf (record { text = w; start = s })
leaf_of (Some Variable) w s = variable_leaf (record { text = w; start = s })
leaf_of (Some Word) w s = word_leaf (record { text = w; start = s })
leaf_of (Some (Number v)) w s = number_leaf v s
leaf_of (Some (Sign b)) w s = cond (b == 124) (bar s) (mark b)

-- a token as a tree shows it
abbrev pub shown : Tok → Leaf
shown t = leaf_of t.kind t.text t.start

-- tokens as a tree shows them
abbrev pub leaves : List Tok → List Leaf
leaves ts = map shown ts

-- the tokens are those of a net within the limits
abbrev pub Written : Limits → List Leaf → Type 0
Written l ls = (n : Net) × (ls ≡ net_text n (last ∷ [])) × NetFits l n

-- some net within the limits is written with these tokens first
abbrev pub Begins : Limits → List Leaf → Type 0
Begins l us = (more : List Leaf) × Written l (us ++ more)

-- exactly the nets within the limits are accepted, with the place of the text's end
abbrev pub Exact : Type 0
Exact = (ts : List Tok) (n : ℕ) → Ended n ts → ((run net ts).0 ≡ 0 → Written strict (leaves ts)) × (Written strict (leaves ts) → run net ts ≡ (0, n))

-- a token list has at most one tree
abbrev pub Unique : Type 0
Unique = (m n : Net) → net_text m (last ∷ []) ≡ net_text n (last ∷ []) → m ≡ n

-- nothing in these tokens is refused: some net begins with them, no number among them is outside 32 bits, and each
-- opening bracket among them begins a net within the limits
pub record Passes (us : List Tok) : Type 0 where
  pub begun : Begins free (leaves us)
  pub small : (vs ws : List Tok) (t : Tok) → us ≡ vs ++ t ∷ ws → t.kind ≢ Some (Number None)
  pub shallow : (vs ws : List Tok) (t : Tok) → us ≡ vs ++ t ∷ ws → t.kind ≡ Some (Sign 40) → Begins strict (leaves vs ++ shown t ∷ [])

-- why a token is refused behind others: no net goes on with it; or one does, but it is a bracket with which none goes on
-- within the limits; or one does, but it is a number outside 32 bits
abbrev pub Wrong : Why → List Tok → Tok → Type 0
Wrong unexpected us t = Begins free (leaves us ++ shown t ∷ []) → ⊥
Wrong deep us t = (t.kind ≡ Some (Sign 40)) × Begins free (leaves us ++ shown t ∷ []) × (Begins strict (leaves us ++ shown t ∷ []) → ⊥)
Wrong outside us t = (t.kind ≡ Some (Number None)) × Begins free (leaves us ++ shown t ∷ [])

-- the token at the place is the first at fault
pub record Fault (w : Why) (ts : List Tok) (place : ℕ) : Type 0 where
  pub before : List Tok
  pub at : Tok
  pub behind : List Tok
  pub whole : ts ≡ before ++ at ∷ behind
  pub here : place ≡ at.start
  pub passes : Passes before
  pub wrong : Wrong w before at

-- exactly the first token at fault is refused, with the number of its fault
abbrev pub Refused : Type 0
Refused = (ts : List Tok) (n : ℕ) → Ended n ts → (w : Why) (place : ℕ) → (run net ts ≡ (number w, place) → Fault w ts place) × (Fault w ts place → run net ts ≡ (number w, place))

-- each list of tokens is accepted or refused
abbrev pub Decided : Type 0
Decided = (ts : List Tok) (n : ℕ) → Ended n ts → (run net ts ≡ (0, n)) ⊎ ((w : Why) × (place : ℕ) × (run net ts ≡ (number w, place)))
