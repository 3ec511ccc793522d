-- How a text is cut into tokens.
use Rattle.std.specs.Prelude.{◌≡◌, ℕ, zero, suc, ◌+◌, ◌-◌, min, Bool, true, false, cond, ◌&&◌, List, [], ◌∷◌, length, drop, Some, None, Option, ◌==◌, ◌≢◌, nat_le, slice_index}
use Rattle.std.specs.Char.{is_ascii_alphabetic, is_ascii_alphanumeric, is_ascii_digit}
use Rattle.std.specs.List.{take_while}
use Rattle.lex.specs.Bytes.{is_blank, is_plain, is_mark, run_kind, is_name}
use Rattle.lex.specs.Number.{value, signed}
use Rattle.lex.specs.declared.Kind.{Kind}
use Rattle.lex.specs.declared.Kind.TheVariants.{End, Variable, Word, Number, Sign}

-- a token, of no kind where the grammar allows it nowhere
pub record Tok : Type 0 where
  pub kind : Option Kind
  pub text : List ℕ
  pub start : ℕ
  pub end : ℕ

-- the token of so many bytes from the place at on
abbrev pub tok : ℕ → Option Kind → List ℕ → ℕ → Tok
tok at kind text size = record { kind = kind; text = text; start = at; end = at + size }

-- a run of letters and digits
abbrev pub run_tok : ℕ → List ℕ → Tok
run_tok at bs = let w = take_while is_ascii_alphanumeric bs in tok at (run_kind w) w (length w)

-- how many bytes the sign of a number has
abbrev pub signs : Bool → ℕ
signs minus = cond minus 1 0

-- a number, whose digits stand behind its sign
abbrev pub number_tok : ℕ → Bool → List ℕ → Tok
number_tok at minus bs = let ds = take_while is_ascii_digit (drop (signs minus) bs) in tok at (Some (Number (signed minus (value ds)))) [] (signs minus + length ds)

-- `-` directly before a digit
abbrev pub is_negative : List ℕ → Bool
is_negative bs = slice_index bs 0 == 45 && is_ascii_digit (slice_index bs 1)

-- `$` directly before a name
abbrev pub is_variable : List ℕ → Bool
is_variable bs = slice_index bs 0 == 36 && (is_ascii_alphabetic (slice_index bs 1) && is_name (take_while is_ascii_alphanumeric (drop 1 bs)))

-- a variable, whose text is the name behind its `$`
abbrev pub variable_tok : ℕ → List ℕ → Tok
variable_tok at bs = let w = take_while is_ascii_alphanumeric (drop 1 bs) in tok at (Some Variable) w (1 + length w)

-- at most 16 plain bytes between two quotes
abbrev pub is_word : List ℕ → Bool
is_word bs = let w = take_while is_plain (drop 1 bs) in slice_index bs 0 == 34 && (slice_index bs (1 + length w) == 34 && nat_le (length w) 16)

-- a word, whose text is what its quotes hold
abbrev pub word_tok : ℕ → List ℕ → Tok
word_tok at bs = let w = take_while is_plain (drop 1 bs) in tok at (Some Word) w (2 + length w)

-- a sign of one byte, of no kind where it is none of the grammar's
abbrev pub sign_tok : ℕ → ℕ → Tok
sign_tok at b = tok at (cond (is_mark b) (Some (Sign b)) None) [] 1

-- the token at the place at, where bs follows
unfoldable pub tok_at : ℕ → List ℕ → Tok
tok_at at bs =
    cond (is_ascii_alphabetic (slice_index bs 0)) (run_tok at bs)
    (cond (is_ascii_digit (slice_index bs 0)) (number_tok at false bs)
    (cond (is_negative bs) (number_tok at true bs) (cond (is_variable bs) (variable_tok at bs) (cond (is_word bs) (word_tok at bs) (sign_tok at (slice_index bs 0))))))

-- the text's end is a token too
abbrev pub end_tok : ℕ → Tok
end_tok at = record { kind = Some End; text = []; start = at; end = at }

-- the tokens from the place at on, once skip more bytes are passed over
unfoldable pub toks : ℕ → ℕ → List ℕ → List Tok
toks at skip [] = end_tok at ∷ []
toks at zero (b ∷ bs) = cond (is_blank b) (toks (suc at) 0 bs) (tok_at at (b ∷ bs) ∷ toks (suc at) ((tok_at at (b ∷ bs)).end - suc at) bs)
toks at (suc n) (b ∷ bs) = toks (suc at) n bs

-- the tokens of a text from a place on; past the text's end there is the end alone
abbrev pub from : List ℕ → ℕ → List Tok
from text at = toks (min at (length text)) 0 (drop at text)

-- the text's end stands last at the place n, and nowhere else
abbrev pub Ended : ℕ → List Tok → Type 0
Ended n [] = ⊥
Ended n (t ∷ []) = t ≡ end_tok n
Ended n (t ∷ (u ∷ ts)) = (t.kind ≢ Some End) × Ended n (u ∷ ts)

-- so it is with the tokens of every text
abbrev pub TokensEnd : Type 0
TokensEnd = (text : List ℕ) (at : ℕ) → Ended (length text) (from text at)
