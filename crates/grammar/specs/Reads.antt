-- What reading a part of the text answers: what is then unread, or the refusal.
use Rattle.std.specs.Prelude.{◌≡◌, ℕ, ◌-◌, ◌<◌, ◌≤◌, ◌≢◌, false, cond, List, [], ◌∷◌, ◌++◌, length, Some, None, Ok, Err, Option, MatchOption, Result, MatchResult, nat_lt}
use Rattle.lex.specs.Next.{plain, is_end}
use Rattle.lex.specs.Refusals.{told}
use Rattle.lex.specs.Tokens.{Tok, from}
use Rattle.lex.specs.declared.Keyword.{Keyword}
use Rattle.lex.specs.declared.Kind.{Kind}
use Rattle.lex.specs.declared.Token.{Token}
use Rattle.lex.specs.declared.refusal.Refusal.{Refusal}
use Rattle.lex.specs.declared.refusal.Refusal.TheVariants.{NotAllowed}
use Rattle.syntax.specs.Machine.{Sym, Step, go, no, done, number, opens, run, verb, acted, item, net}
use Rattle.grammar.specs.declared.unread.Unread.{Unread}

-- the tokens that are unread
abbrev pub unread : Unread → List Tok
unread u = from u.text.now u.at

-- how many bytes are unread
abbrev pub left : Unread → ℕ
left u = length u.text.now - u.at

-- the same text, of which no more is unread than before
pub record Onward (before after : Unread) : Type 0 where
  pub same : after.text.now ≡ before.text.now
  pub falls : left after ≤ left before

-- t is the first of the unread tokens, and the others are then unread; behind any but the text's end there are fewer bytes
pub record Taken (before : Unread) (t : Token) (after : Unread) : Type 0 where
  pub same : after.text.now ≡ before.text.now
  pub moves : is_end t.kind ≡ false → left after < left before
  pub first : unread before ≡ plain t ∷ cond (is_end t.kind) [] (unread after)

-- the first of the unread tokens, or its refusal, whatever is to come
abbrev pub Takes : Unread → Result (Token × Unread) (Refusal × ℕ) → Type 0
Takes before r = MatchResult r (λ p. Taken before p.0 p.1) (λ e. (k : List Sym) → run k (unread before) ≡ told e)

-- the first of the unread tokens is of this kind, and the others are then unread
pub record Accepted (kind : Kind) (before after : Unread) : Type 0 where
  pub t : Token
  pub taken : Taken before t after
  pub is : t.kind ≡ kind

-- the first of the unread tokens is of another kind
pub record Other (kind : Kind) (before : Unread) : Type 0 where
  pub t : Token
  pub after : Unread
  pub taken : Taken before t after
  pub differs : t.kind ≢ kind

-- whether the first of the unread tokens is of this kind, or its refusal
abbrev pub Accepts : Kind → Unread → Result (Option Unread) (Refusal × ℕ) → Type 0
Accepts kind before r = MatchResult r (λ o. MatchOption o (Other kind before) (λ after. Accepted kind before after)) (λ e. (k : List Sym) → run k (unread before) ≡ told e)

-- what stands for ss is read from what is unread before, whatever is to come after it
abbrev pub Reads : List Sym → Unread → Result Unread (Refusal × ℕ) → Type 0
Reads ss before r =
    MatchResult r (λ after. Onward before after × ((k : List Sym) → run (ss ++ k) (unread before) ≡ run k (unread after)))
    (λ e. (k : List Sym) → run (ss ++ k) (unread before) ≡ told e)

-- the same under a number of open brackets
abbrev pub ReadsIn : ℕ → List Sym → Unread → Result Unread (Refusal × ℕ) → Type 0
ReadsIn depth ss before r =
    MatchResult r (λ after. Onward before after × ((k : List Sym) → opens k ≡ depth → run (ss ++ k) (unread before) ≡ run k (unread after)))
    (λ e. (k : List Sym) → opens k ≡ depth → run (ss ++ k) (unread before) ≡ told e)

-- what follows the word of an action that stands at the place start
abbrev pub Acts : ℕ → Keyword → ℕ → Unread → Result Unread (Refusal × ℕ) → Type 0
Acts depth w start before r = elim (verb w) [ Some ss ↦ ReadsIn depth ss before r | None ↦ r ≡ Err (NotAllowed, start) ]

-- the answer after a step at the place start, where ts follows
abbrev pub answer : ℕ → List Tok → Step → ℕ × ℕ
answer start ts (go k) = run k ts
answer start ts (no w) = (number w, start)
answer start ts done = (0, start)

-- what follows the word of an action at the place start, and the dot behind the action: an item is then to come
abbrev pub Prefixes : ℕ → Keyword → ℕ → Unread → Result Unread (Refusal × ℕ) → Type 0
Prefixes depth w start before r =
    MatchResult r (λ after. Onward before after × ((k : List Sym) → opens k ≡ depth → answer start (unread before) (acted k (verb w)) ≡ run (item ∷ k) (unread after)))
    (λ e. (k : List Sym) → opens k ≡ depth → answer start (unread before) (acted k (verb w)) ≡ told e)

-- what is told of a text: 0 and the place of its end, or the number and the place of the refusal
abbrev pub answered : Result ℕ (Refusal × ℕ) → ℕ × ℕ
answered (Ok n) = (0, n)
answered (Err e) = told e

-- the answer for a whole text
abbrev pub verdict : List ℕ → ℕ × ℕ
verdict text = cond (nat_lt 16384 (length text)) (1, 0) (run net (from text 0))
