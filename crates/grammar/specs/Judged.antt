-- The answer for a whole text, in the words of the grammar.
use Rattle.std.specs.Prelude.{◌≡◌, ℕ, ◌<◌, ◌≤◌, List, length}
use Rattle.lex.specs.Tokens.{Tok, from}
use Rattle.syntax.specs.Grammar.{leaves, Written, Fault}
use Rattle.syntax.specs.Limits.{strict}
use Rattle.syntax.specs.Machine.{Why, number}

abbrev pub tokens : List ℕ → List Tok
tokens text = from text 0

-- r is (1, 0) for a text that is too long; else it is 0 and the length exactly for the text of a net within the limits,
-- and the number and place of a fault exactly where the text has that fault
pub record Judged (text : List ℕ) (r : ℕ × ℕ) : Type 0 where
  pub long : 16384 < length text → r ≡ (1, 0)
  pub accepted : length text ≤ 16384 → (r.0 ≡ 0 → Written strict (leaves (tokens text))) × (Written strict (leaves (tokens text)) → r ≡ (0, length text))
  pub refused : length text ≤ 16384 → (w : Why) (place : ℕ) → (r ≡ (number w, place) → Fault w (tokens text) place) × (Fault w (tokens text) place → r ≡ (number w, place))
