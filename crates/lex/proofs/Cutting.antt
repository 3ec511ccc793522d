-- The list of tokens from a place on begins with the token found there.
use Rattle.std.proofs.Common.{ok_or, ◌≡◌, ℕ, zero, suc, ◌+◌, ◌-◌, ◌<◌, ◌≤◌, min, Bool, true, false, cond, List, [], ◌∷◌, length, get_or, take, drop, Some, None, Option, sym, refl, ap, ◌∙◌, subst, ⊎_elim, add-zero, one-add, arith, length-drop, drop-cons, drop-drop, get_or-drop}
use Rattle.std.proofs.lemmas.List.{drop_all}
use Rattle.std.proofs.lemmas.List.Folds.{length-prefix_len}
use Rattle.std.proofs.lemmas.List.Sums.{prefix_len_stops}
use Rattle.std.proofs.lemmas.Bool.{cond-true, cond-false, cond_both, both_ways, cases_lt}
use Rattle.std.specs.Char.{is_ascii_alphabetic, is_ascii_digit}
use Rattle.std.specs.List.{prefix_len, take_while}
use Rattle.lex.specs.Bytes.{is_blank}
use Rattle.lex.specs.Cut.{Cut, Cuts}
use Rattle.lex.specs.Next.{Found, Next, plain, is_end}
use Rattle.lex.specs.Tokens.{Tok, run_tok, number_tok, variable_tok, word_tok, sign_tok, end_tok, tok_at, toks, from, is_negative, is_variable, is_word}
use Rattle.lex.specs.declared.Kind.TheVariants.{End}
use Rattle.lex.specs.declared.Token.{Token}
use Rattle.std.proofs.Math.Seq.{drop-length}
use Rattle.lex.proofs.Runs.{take-drop}
use Rattle.lex.specs.declared.refusal.Refusal.TheVariants.{NotAllowed}

toks_skip : (at n : ℕ) (bs : List ℕ) → n ≤ length bs → toks at n bs ≡ toks (at + n) 0 (drop n bs)
unfolding toks
toks_skip at zero bs h = rw add-zero refl
toks_skip at (suc n) [] h = absurd (omega arith)
toks_skip at (suc n) (b ∷ bs) h = toks_skip (suc at) n bs (omega arith) ∙ (let e : suc at + n ≡ at + suc n = omega arith in ap (λ x. toks x 0 (drop n bs)) e)

module _ (at b : ℕ) (bs : List ℕ) (ih : toks (suc at) 0 bs ≡ toks (suc at + prefix_len is_blank bs) 0 (drop (prefix_len is_blank bs) bs)) where
  blank_by : (t : Bool) → is_blank b ≡ t → toks at 0 (b ∷ bs) ≡ toks (at + cond t (1 + prefix_len is_blank bs) 0) 0 (drop (cond t (1 + prefix_len is_blank bs) 0) (b ∷ bs))
  unfolding toks
  blank_by true e = cond-true _ _ _ e ∙ ih ∙ (let m : suc at + prefix_len is_blank bs ≡ at + suc (prefix_len is_blank bs) = omega arith in rw (one-add, m))
  blank_by false e = rw add-zero refl

-- blanks are passed over
blanks : (at : ℕ) (bs : List ℕ) → toks at 0 bs ≡ toks (at + prefix_len is_blank bs) 0 (drop (prefix_len is_blank bs) bs)
unfolding toks
blanks at [] = rw add-zero refl
blanks at (b ∷ bs) = blank_by at b bs (blanks (suc at) bs) (is_blank b) refl

-- a place within the text
from-within : (text : List ℕ) (at : ℕ) → at ≤ length text → from text at ≡ toks at 0 (drop at text)
from-within text at h = let m : min at (length text) ≡ at = omega arith in ap (λ x. toks x 0 (drop at text)) m

-- a place past the end is the end
from-min : (text : List ℕ) (at : ℕ) → from text at ≡ from text (min at (length text))
from-min text at =
    ⊎_elim
    (λ lt. let m : at ≡ min at (length text) = omega arith in ap (from text) m)
    (λ le.
    let m : min at (length text) ≡ length text = omega arith in
    let n : min at (length text) ≡ min (min at (length text)) (length text) = omega arith in
    let d : drop at text ≡ drop (min at (length text)) text = drop_all at text le ∙ sym (drop-length text) ∙ ap (λ x. drop x text) (sym m) in
    λ i. toks (n i) 0 (d i))
    (cases_lt at (length text))

-- start is behind the blanks that stand from the place at on
abbrev pub Behind : List ℕ → ℕ → ℕ → Type 0
Behind text at start = start ≡ min at (length text) + prefix_len is_blank (drop (min at (length text)) text)

-- behind the run of them
pub behind : (text run : List ℕ) (at from : ℕ) → from ≡ min at (length text) → run ≡ take_while is_blank (take (length text - from) (drop from text)) → Behind text at (from + length run)
behind text run at from e r =
    let n : length run ≡ prefix_len is_blank (drop from text) = ap length (r ∙ ap (take_while is_blank) (take-drop from text)) ∙ length-prefix_len is_blank (drop from text) in
    rw (n, e) refl

-- the place of the next token is behind the blanks
pub from_blanks : (text : List ℕ) (at start : ℕ) → Behind text at start → start ≤ length text → from text at ≡ toks start 0 (drop start text)
from_blanks text at start e h =
    let a = min at (length text) in
    let b : a ≤ length text = omega arith in
    from-min text at ∙ from-within text a b ∙ blanks a (drop a text) ∙ rw (drop-drop, ← e)

-- where nothing but blanks is left
pub found-end : (text : List ℕ) (at : ℕ) (t : Token) → Behind text at t.start → t.start ≡ length text → plain t ≡ end_tok t.start → Found text at t
unfolding toks
found-end text at t e last is =
    let k : is_end t.kind ≡ true = (let q : t.kind ≡ End = (let p : Some t.kind ≡ Some End = ap (λ (x : Tok). x.kind) is in cc) in ap is_end q) in
    let z : t.end ≡ t.start = ap (λ (x : Tok). x.end) is in
    let none : drop t.start text ≡ [] = ap (λ x. drop x text) last ∙ drop-length text in
    record {
      ahead = omega arith;
      moves = λ n. absurd (both_ways _ n k);
      within = omega arith;
      last = λ _. last;
      first = from_blanks text at t.start e (omega arith) ∙ ap (toks t.start 0) none ∙ ap (λ (x : Tok). x ∷ []) (sym is) ∙ ap (λ (l : List Tok). plain t ∷ l) (sym (cond-true _ [] (from text t.end) k));
    }

-- what holds of each form holds of the token that stands at a place
pub tok_at-each : (at : ℕ) (bs : List ℕ) (P : Tok → Type 0) → P (run_tok at bs) → P (number_tok at false bs) → P (number_tok at true bs) → P (variable_tok at bs) → P (word_tok at bs) → P (sign_tok at (get_or bs 0 0)) → P (tok_at at bs)
unfolding tok_at
tok_at-each at bs P run unsigned minus variable word sign =
    cond_both (is_ascii_alphabetic (get_or bs 0 0)) _ _ P (λ _. run)
    (λ _. cond_both (is_ascii_digit (get_or bs 0 0)) _ _ P (λ _. unsigned)
    (λ _. cond_both (is_negative bs) _ _ P (λ _. minus) (λ _. cond_both (is_variable bs) _ _ P (λ _. variable) (λ _. cond_both (is_word bs) _ _ P (λ _. word) (λ _. sign)))))

tok-start : (at : ℕ) (bs : List ℕ) → (tok_at at bs).start ≡ at
tok-start at bs = tok_at-each at bs (λ x. x.start ≡ at) refl refl refl refl refl refl

-- the byte behind the blanks is none
dark : (text : List ℕ) (at start : ℕ) → Behind text at start → start < length text → is_blank (get_or text start 0) ≡ false
dark text at start e lt =
    let a = min at (length text) in
    let n = prefix_len is_blank (drop a text) in
    let same : get_or (drop a text) n 0 ≡ get_or text start 0 = get_or-drop a text n 0 ∙ ap (λ k. get_or text k 0) (sym e) in
    ap is_blank (sym same) ∙ prefix_len_stops is_blank (drop a text) 0 (omega (arith, length-drop a text))

-- where a token begins at a byte that is no blank
module _ (text : List ℕ) (at start : ℕ) (e : Behind text at start) (lt : start < length text) where
  abbrev T : Tok
  T = tok_at start (drop start text)

  begins : from text at ≡ T ∷ toks (suc start) (T.end - suc start) (drop (suc start) text)
  unfolding toks
  begins =
      let l = drop-cons text start 0 lt in
      from_blanks text at start e (omega arith) ∙ ap (toks start 0) l ∙ cond-false _ _ _ (dark text at start e lt)
      ∙ ap (λ (bs : List ℕ). tok_at start bs ∷ toks (suc start) ((tok_at start bs).end - suc start) (drop (suc start) text)) (sym l)

  found : (t : Token) → Cut (drop start text) T t → Found text at t
  found t c =
      let here : start ≡ t.start = sym (tok-start start (drop start text)) ∙ ap (λ (x : Tok). x.start) c.same in
      let there : T.end ≡ t.end = ap (λ (x : Tok). x.end) c.same in
      let n = T.end - suc start in
      let size = length-drop start text in
      let fits : t.end ≤ length text = omega (arith, c.within) in
      let long : n ≤ length (drop (suc start) text) = omega (arith, c.moves, length-drop (suc start) text) in
      let end : suc start + n ≡ t.end = omega (arith, c.moves) in
      record {
        ahead = omega arith;
        moves = λ _. c.moves;
        within = fits;
        last = λ y. absurd (both_ways _ c.more y);
        first = begins ∙ ap (λ (l : List Tok). T ∷ l) (toks_skip (suc start) n (drop (suc start) text) long ∙ rw (drop-drop, end) (sym (from-within text t.end fits)))
            ∙ ap (λ (x : Tok). x ∷ from text t.end) c.same ∙ ap (λ (l : List Tok). plain t ∷ l) (sym (cond-false _ [] _ c.more));
      }

  pub next_cut : (r : Option Token) → Cuts (drop start text) T r → Next text at (ok_or r (NotAllowed, start))
  next_cut (Some t) c = found t c
  next_cut None c = record { tok = T; rest = toks (suc start) (T.end - suc start) (drop (suc start) text); first = begins; odd = c; told = ap (λ n. (NotAllowed, n)) (sym (tok-start start (drop start text))) }

pub no_bytes : (xs : List ℕ) (a : ℕ) → take (a - a) xs ≡ []
no_bytes xs a = let z : a - a ≡ 0 = omega arith in rw z

-- what is left of the text from a place on
pub whole-rest : (text : List ℕ) (start : ℕ) (r : Option Token) → Cuts (take (length text - start) (drop start text)) (tok_at start (take (length text - start) (drop start text))) r → Cuts (drop start text) (tok_at start (drop start text)) r
whole-rest text start r h =
    subst (λ (bs : List ℕ). Cuts bs (tok_at start bs) r) (take-drop start text) h
