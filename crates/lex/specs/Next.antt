-- What the tokeniser answers: the first token from a place on.
use Rattle.std.specs.Prelude.{◌≡◌, ℕ, ◌<◌, ◌≤◌, min, Bool, true, false, cond, List, [], ◌∷◌, length, Some, None, Result, MatchResult}
use Rattle.lex.specs.Tokens.{Tok, from}
use Rattle.lex.specs.declared.Kind.{Kind}
use Rattle.lex.specs.declared.Kind.TheVariants.{End, Reserved, Name, Variable, Word, Number, Sign}
use Rattle.lex.specs.declared.Token.{Token}
use Rattle.lex.specs.declared.refusal.Refusal.{Refusal}
use Rattle.lex.specs.declared.refusal.Refusal.TheVariants.{NotAllowed}

-- whether the kind is that of the text's end
abbrev pub is_end : Kind → Bool
is_end End = true
is_end (Reserved w) = false
is_end Name = false
is_end Variable = false
is_end Word = false
is_end (Number n) = false
is_end (Sign b) = false

-- a token as it is told, with its bytes for the part of the text
abbrev pub plain : Token → Tok
plain t = record { kind = Some t.kind; text = t.text.now; start = t.start; end = t.end }

-- the token is the first of those from the place on, and the others are those from its end on
pub record Found (text : List ℕ) (at : ℕ) (t : Token) : Type 0 where
  pub ahead : min at (length text) ≤ t.start
  pub moves : is_end t.kind ≡ false → t.start < t.end
  pub within : t.end ≤ length text
  pub last : is_end t.kind ≡ true → t.start ≡ length text
  pub first : from text at ≡ plain t ∷ cond (is_end t.kind) [] (from text t.end)

-- the first token is one that the grammar allows nowhere, and p says where it starts
pub record Stray (text : List ℕ) (at : ℕ) (p : Refusal × ℕ) : Type 0 where
  pub tok : Tok
  pub rest : List Tok
  pub first : from text at ≡ tok ∷ rest
  pub odd : tok.kind ≡ None
  pub told : p ≡ (NotAllowed, tok.start)

-- the first token from the place on, or the refusal where it has no kind
abbrev pub Next : List ℕ → ℕ → Result Token (Refusal × ℕ) → Type 0
Next text at r = MatchResult r (λ t. Found text at t) (λ p. Stray text at p)
