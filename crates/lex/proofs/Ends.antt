-- The text's end is the last token, and no other token is it.
use Rattle.std.proofs.Common.{◌≡◌, Bool, true, cond, ℕ, zero, suc, ◌+◌, ◌-◌, min, false, List, [], ◌∷◌, length, get_or, drop, Some, None, sym, refl, ap, arith, length-drop}
use Rattle.std.proofs.lemmas.Bool.{cond_both, both_ways}
use Rattle.std.specs.Char.{is_ascii_alphanumeric}
use Rattle.std.specs.List.{take_while}
use Rattle.lex.specs.Bytes.{is_blank, is_mark, run_kind}
use Rattle.lex.specs.Next.{is_end}
use Rattle.lex.specs.Tokens.{Tok, end_tok, tok_at, toks, Ended, TokensEnd}
use Rattle.lex.specs.declared.Kind.TheVariants.{End, Sign}
use Rattle.lex.proofs.Cutting.{tok_at-each}
use Rattle.lex.proofs.Runs.{run_goes}

abbrev NotEnd : Tok → Type 0
NotEnd t = t.kind ≡ Some End → ⊥

run_apart : (w : List ℕ) → run_kind w ≡ Some End → ⊥
run_apart w e = both_ways (is_end End) (run_goes w End (sym e)) refl

sign_apart : (b : ℕ) (mark : Bool) → cond mark (Some (Sign b)) None ≡ Some End → ⊥
sign_apart b true e = cc
sign_apart b false e = cc

-- a token that begins at a byte is not the text's end
tok-more : (at : ℕ) (bs : List ℕ) → NotEnd (tok_at at bs)
tok-more at bs = tok_at-each at bs NotEnd (run_apart (take_while is_ascii_alphanumeric bs)) (λ e. cc) (λ e. cc) (λ e. cc) (λ e. cc) (sign_apart (get_or bs 0 0) (is_mark (get_or bs 0 0)))

ended_more : (n : ℕ) (t : Tok) (ts : List Tok) → NotEnd t → Ended n ts → Ended n (t ∷ ts)
ended_more n t [] h e = absurd e
ended_more n t (u ∷ ts) h e = (h, e)

ended : (n at skip : ℕ) (bs : List ℕ) → n ≡ at + length bs → Ended n (toks at skip bs)
unfolding toks
ended n at skip [] e = let m : at ≡ n = omega arith in ap end_tok m
ended n at zero (b ∷ bs) e =
    let m : n ≡ suc at + length bs = omega arith in
    cond_both (is_blank b) (toks (suc at) 0 bs) (tok_at at (b ∷ bs) ∷ toks (suc at) ((tok_at at (b ∷ bs)).end - suc at) bs) (Ended n)
    (λ _. ended n (suc at) 0 bs m)
    (λ _. ended_more n (tok_at at (b ∷ bs)) _ (tok-more at (b ∷ bs)) (ended n (suc at) ((tok_at at (b ∷ bs)).end - suc at) bs m))
ended n at (suc s) (b ∷ bs) e = ended n (suc at) s bs (omega arith)

pub tokens-end : TokensEnd
tokens-end text at = ended (length text) (min at (length text)) 0 (drop at text) (omega (arith, length-drop at text))
