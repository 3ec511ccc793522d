-- Which way bytes begin with a token.
use Rattle.std.proofs.Common.{◌≡◌, ℕ, ◌+◌, ◌<◌, true, false, ◌&&◌, eqb, leb, List, length, get_or, drop, refl, ap, ◌∙◌}
use Rattle.std.proofs.lemmas.Bool.{cond-true, cond-false, and_parts}
use Rattle.std.specs.Char.{is_ascii_alphabetic, is_ascii_digit}
use Rattle.std.specs.List.{take_while}
use Rattle.lex.specs.Bytes.{is_plain}
use Rattle.lex.specs.Tokens.{run_tok, number_tok, variable_tok, word_tok, sign_tok, tok_at, is_negative, is_variable, is_word}
use Rattle.lex.proofs.Runs.{stands_within}

-- a word's closing quote is within the bytes
pub word-within : (bs : List ℕ) (n : ℕ) → is_word bs ≡ true → n ≡ 1 + length (take_while is_plain (drop 1 bs)) → n < length bs
word-within bs n word long =
    let w = length (take_while is_plain (drop 1 bs)) in
    let parts = and_parts (eqb (get_or bs 0 0) 34) (eqb (get_or bs (1 + w) 0) 34 && leb w 16) word in
    let quote = and_parts (eqb (get_or bs (1 + w) 0) 34) (leb w 16) parts.1 in
    stands_within (λ b. eqb b 34) refl bs n (ap (λ x. eqb (get_or bs x 0) 34) long ∙ quote.0)

module _ (at : ℕ) (bs : List ℕ) where
  pub at_letter : is_ascii_alphabetic (get_or bs 0 0) ≡ true → tok_at at bs ≡ run_tok at bs
  unfolding tok_at
  at_letter e = cond-true _ _ _ e

  module _ (no-letter : is_ascii_alphabetic (get_or bs 0 0) ≡ false) where
    pub at_digit : is_ascii_digit (get_or bs 0 0) ≡ true → tok_at at bs ≡ number_tok at false bs
    unfolding tok_at
    at_digit e = cond-false _ _ _ no-letter ∙ cond-true _ _ _ e

    module _ (no_digit : is_ascii_digit (get_or bs 0 0) ≡ false) where
      pub at_minus : is_negative bs ≡ true → tok_at at bs ≡ number_tok at true bs
      unfolding tok_at
      at_minus e = cond-false _ _ _ no-letter ∙ cond-false _ _ _ no_digit ∙ cond-true _ _ _ e

      module _ (no_minus : is_negative bs ≡ false) where
        pub at-variable : is_variable bs ≡ true → tok_at at bs ≡ variable_tok at bs
        unfolding tok_at
        at-variable e = cond-false _ _ _ no-letter ∙ cond-false _ _ _ no_digit ∙ cond-false _ _ _ no_minus ∙ cond-true _ _ _ e

        module _ (no-variable : is_variable bs ≡ false) where
          pub at-word : is_word bs ≡ true → tok_at at bs ≡ word_tok at bs
          unfolding tok_at
          at-word e = cond-false _ _ _ no-letter ∙ cond-false _ _ _ no_digit ∙ cond-false _ _ _ no_minus ∙ cond-false _ _ _ no-variable ∙ cond-true _ _ _ e

          pub at_sign : is_word bs ≡ false → tok_at at bs ≡ sign_tok at (get_or bs 0 0)
          unfolding tok_at
          at_sign e = cond-false _ _ _ no-letter ∙ cond-false _ _ _ no_digit ∙ cond-false _ _ _ no_minus ∙ cond-false _ _ _ no-variable ∙ cond-false _ _ _ e
