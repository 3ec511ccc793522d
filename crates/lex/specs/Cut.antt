-- What the tokeniser answers where the bytes bs begin with a token.
use Rattle.std.specs.Prelude.{◌≡◌, ℕ, ◌+◌, ◌<◌, ◌≤◌, Bool, true, false, List, length, None, Option, MatchOption}
use Rattle.lex.specs.Next.{plain, is_end}
use Rattle.lex.specs.Tokens.{Tok}
use Rattle.lex.specs.declared.Token.{Token}

-- the token, which ends within the bytes and is not the text's end
pub record Cut (bs : List ℕ) (tok : Tok) (t : Token) : Type 0 where
  pub same : tok ≡ plain t
  pub moves : t.start < t.end
  pub within : t.end ≤ t.start + length bs
  pub more : is_end t.kind ≡ false

-- the token, or none where it has no kind
abbrev pub Cuts : List ℕ → Tok → Option Token → Type 0
Cuts bs tok r = MatchOption r (tok.kind ≡ None) (λ t. Cut bs tok t)

-- the token where the bytes are of its form, and none where they are not
abbrev pub Tries : List ℕ → Bool → Tok → Option Token → Type 0
Tries bs fits tok r = MatchOption r (fits ≡ false) (λ t. (fits ≡ true) × Cut bs tok t)
