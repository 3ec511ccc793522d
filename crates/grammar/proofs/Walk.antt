-- What the machine does at the token that is taken.
use Rattle.std.proofs.Common.{◌≡◌, ℕ, zero, suc, ◌+◌, ◌≢◌, Bool, true, false, List, [], ◌∷◌, ◌++◌, Some, None, Ok, Err, Option, Result, sym, refl, ap, ◌∙◌, arith}
use Rattle.std.proofs.lemmas.Bool.{cond-true, cond-false, false≢true, false_from_ne_true}
use Rattle.std.specs.Result.{IsErrAnd}
use Rattle.lex.specs.Next.{Stray, plain, is_end}
use Rattle.lex.specs.Refusals.{told}
use Rattle.lex.specs.Tokens.{Tok, from}
use Rattle.lex.specs.declared.Kind.{Kind}
use Rattle.lex.specs.declared.Kind.TheVariants.{End, Reserved, Name, Variable as AVariable, Word, Number, Sign}
use Rattle.lex.specs.declared.Token.{Token}
use Rattle.lex.specs.declared.refusal.Refusal.{Refusal}
use Rattle.syntax.specs.Limits.{strict}
use Rattle.syntax.specs.Machine.{Sym, leaf, entry, more, upto, sign, Why, unexpected, number, Step, go, no, done, fits, starts, is_sign, opens, step, run}
use Rattle.syntax.specs.declared.Entries.{Entries}
use Rattle.syntax.specs.declared.Entries.TheVariants.{Params}
use Rattle.syntax.specs.declared.Terminal.{Terminal}
use Rattle.syntax.specs.declared.Terminal.TheVariants.{Sign as ASign, Name as AName, Variable, TypeWord, Target}
use Rattle.syntax.proofs.Exact.{go_apart}
use Rattle.syntax.proofs.Shape.{sign-is}
use Rattle.grammar.specs.Reads.{unread, Onward, Taken, Accepted, Other, Reads, ReadsIn, answer}
use Rattle.grammar.specs.declared.unread.Unread.{Unread}

pub run-plain : (k : List Sym) (t : Token) (ts : List Tok) (s : Step) → step strict k t.kind ≡ s → run k (plain t ∷ ts) ≡ answer t.start ts s
unfolding run
run-plain k t ts s e =
    let f : Step → ℕ × ℕ = elim [ go k' ↦ run k' ts | no w ↦ (number w, t.start) | done ↦ (0, t.start) ] in
    ap f e ∙ same s
  where
    same : (x : Step) → (elim x as (λ _. ℕ × ℕ) [ go k' ↦ run k' ts | no w ↦ (number w, t.start) | done ↦ (0, t.start) ]) ≡ answer t.start ts x
    same (go k') = refl
    same (no w) = refl
    same done = refl

-- a token that passes a test which the text's end fails is not the text's end
pub not_end : (f : Kind → Bool) → f End ≡ false → (q : Kind) → f q ≡ true → is_end q ≡ false
not_end f z End h = absurd (false≢true (sym z ∙ h))
not_end f z (Reserved w) h = refl
not_end f z Name h = refl
not_end f z AVariable h = refl
not_end f z Word h = refl
not_end f z (Number v) h = refl
not_end f z (Sign b) h = refl

fits-end : (c : Terminal) → fits c End ≡ false
fits-end (ASign b) = refl
fits-end AName = refl
fits-end Variable = refl
fits-end TypeWord = refl
fits-end Target = refl

pub fits_more : (c : Terminal) (q : Kind) → fits c q ≡ true → is_end q ≡ false
fits_more c q h = not_end (fits c) (fits-end c) q h

-- a token of no kind is refused whatever is to come
pub strays : {text : List ℕ} {at : ℕ} {p : Refusal × ℕ} → Stray text at p → (k : List Sym) → run k (from text at) ≡ told p
unfolding run
strays {text} {at} {p} s k =
    let f : Option Kind → ℕ × ℕ = elim [ Some q ↦ elim (step strict k q) [ go k' ↦ run k' s.rest | no w ↦ (number w, s.tok.start) | done ↦ (0, s.tok.start) ] | None ↦ (2, s.tok.start) ] in
    ap (run k) s.first ∙ ap f s.odd ∙ sym (ap told s.told)

-- the machine goes on at no text's end
not_last : (k k' : List Sym) (q : Kind) → step strict k q ≡ go k' → is_end q ≡ false
not_last k k' End e = absurd (go_apart k End k' e refl)
not_last k k' (Reserved w) e = refl
not_last k k' Name e = refl
not_last k k' AVariable e = refl
not_last k k' Word e = refl
not_last k k' (Number v) e = refl
not_last k k' (Sign b) e = refl

-- what the exit of a `?` answers
pub exit : (s : Sym) (u : Unread) (r : Result Unread (Refusal × ℕ)) (e : Refusal × ℕ) → IsErrAnd r (λ y. y ≡ e) → ((k : List Sym) → run (s ∷ k) (unread u) ≡ told e) → Reads (s ∷ []) u r
exit s u (Ok v) e is h = absurd is
exit s u (Err y) e is h = λ k. h k ∙ sym (ap told is)

pub exit_in : (depth : ℕ) (s : Sym) (u : Unread) (r : Result Unread (Refusal × ℕ)) (e : Refusal × ℕ) → IsErrAnd r (λ y. y ≡ e) → ((k : List Sym) → opens k ≡ depth → run (s ∷ k) (unread u) ≡ told e) → ReadsIn depth (s ∷ []) u r
exit_in depth s u (Ok v) e is h = absurd is
exit_in depth s u (Err y) e is h = λ k d. h k d ∙ sym (ap told is)

pub further : {u v w : Unread} → Onward u v → Onward v w → Onward u w
further a b = record { same = b.same ∙ a.same; falls = omega (arith, a.falls, b.falls) }

pub stays : (u : Unread) → Onward u u
stays u = record { same = refl; falls = omega arith }

-- from u to v the machine comes from ss to ss'
pub along : {u v : Unread} (ss ss' : List Sym) (r : Result Unread (Refusal × ℕ)) → Onward u v → ((k : List Sym) → run (ss ++ k) (unread u) ≡ run (ss' ++ k) (unread v)) → Reads ss' v r → Reads ss u r
along ss ss' (Ok w) on same h = (further on h.0, λ k. same k ∙ h.1 k)
along ss ss' (Err e) on same h = λ k. same k ∙ h k

pub along_in : {u v : Unread} (depth : ℕ) (ss ss' : List Sym) (r : Result Unread (Refusal × ℕ)) → Onward u v → ((k : List Sym) → opens k ≡ depth → run (ss ++ k) (unread u) ≡ run (ss' ++ k) (unread v)) → ReadsIn depth ss' v r → ReadsIn depth ss u r
along_in depth ss ss' (Ok w) on same h = (further on h.0, λ k d. same k d ∙ h.1 k d)
along_in depth ss ss' (Err e) on same h = λ k d. same k d ∙ h k d

-- the token t is taken from what is unread, and v is then unread
module _ {u v : Unread} {t : Token} (next : Taken u t v) where
  -- the machine goes on
  pub goes : (k k' : List Sym) → step strict k t.kind ≡ go k' → run k (unread u) ≡ run k' (unread v)
  goes k k' e = ap (run k) next.first ∙ run-plain k t _ (go k') e ∙ ap (run k') (cond-false _ _ _ (not_last k k' t.kind e))

  pub onward : is_end t.kind ≡ false → Onward u v
  onward on = record { same = next.same; falls = omega (arith, next.moves on) }

  -- the machine refuses the token
  pub refuses : (k : List Sym) (w : Why) → step strict k t.kind ≡ no w → run k (unread u) ≡ (number w, t.start)
  refuses k w e = ap (run k) next.first ∙ run-plain k t _ (no w) e

  -- the machine steps alike at two stacks
  pub alike : (k k' : List Sym) → step strict k t.kind ≡ step strict k' t.kind → run k (unread u) ≡ run k' (unread u)
  alike k k' e = ap (run k) next.first ∙ run-plain k t _ _ e ∙ sym (run-plain k' t _ _ refl) ∙ sym (ap (run k') next.first)

  -- nothing is to come after the token
  pub ends : is_end t.kind ≡ true → run [] (unread u) ≡ (0, t.start)
  ends h = ap (run []) next.first ∙ run-plain [] t _ done (cond-true _ _ _ h)

  pub no_more : is_end t.kind ≡ false → run [] (unread u) ≡ (2, t.start)
  no_more h = refuses [] unexpected (cond-false _ _ _ h)

  -- the token is the whole of what stands for s
  pub alone : (s : Sym) → ((k : List Sym) → step strict (s ∷ k) t.kind ≡ go k) → Reads (s ∷ []) u (Ok v)
  alone s steps = (onward (not_last (s ∷ []) [] t.kind (steps [])), λ k. goes (s ∷ k) k (steps k))

  -- nothing of s stands here
  pub skips : (s : Sym) → ((k : List Sym) → step strict (s ∷ k) t.kind ≡ step strict k t.kind) → Reads (s ∷ []) u (Ok u)
  skips s same = (stays u, λ k. alike (s ∷ k) k (same k))

  -- a list that may be empty begins, or does not
  pub upto_some : (E : Entries) (r : Result Unread (Refusal × ℕ)) → starts E t.kind ≡ true → Reads (entry E ∷ more E 3 ∷ []) u r → Reads (upto E ∷ []) u r
  upto_some E r is h = along (upto E ∷ []) (entry E ∷ more E 3 ∷ []) r (stays u) (λ k. alike (upto E ∷ k) (entry E ∷ more E 3 ∷ k) (cond-true _ _ _ is)) h

  pub upto_none : (E : Entries) → starts E t.kind ≡ false → Reads (upto E ∷ []) u (Ok u)
  upto_none E is = skips (upto E) (λ k. cond-false _ _ _ is)

-- the token of this kind is taken
module _ {kind : Kind} {u v : Unread} (took : Accepted kind u v) where
  -- the machine goes on
  pub passes : (k k' : List Sym) → step strict k kind ≡ go k' → run k (unread u) ≡ run k' (unread v)
  passes k k' e = goes took.taken k k' (ap (step strict k) took.is ∙ e)

  pub onwards : is_end kind ≡ false → Onward u v
  onwards on = onward took.taken (ap is_end took.is ∙ on)

pub not_sign : (c : ℕ) (q : Kind) → q ≢ Sign c → is_sign c q ≡ false
not_sign c q other = false_from_ne_true _ (λ e. other (sign-is c q e))

-- a parameter begins with a variable
pub param_goes : (k : List Sym) (ts : List Tok) → run (entry Params ∷ k) ts ≡ run (leaf Variable ∷ sign 58 ∷ leaf TypeWord ∷ k) ts
unfolding run
param_goes k [] = refl
param_goes k (t ∷ ts) = refl

-- no more entries may follow
pub more_none : (E : Entries) (n : ℕ) → n ≡ 0 → (k : List Sym) (ts : List Tok) → run (more E n ∷ k) ts ≡ run k ts
unfolding run
more_none E zero e k [] = refl
more_none E zero e k (t ∷ ts) = refl
more_none E (suc n) e k ts = absurd (omega arith)

-- a comma, and one entry fewer may follow
more_comma : (E : Entries) (n m : ℕ) (k : List Sym) → n ≡ m + 1 → step strict (more E n ∷ k) (Sign 44) ≡ go (entry E ∷ more E m ∷ k)
more_comma E zero m k e = absurd (omega arith)
more_comma E (suc n) m k e = let z : n ≡ m = omega arith in ap (λ x. go (entry E ∷ more E x ∷ k)) z

pub comma : {u v : Unread} → Accepted (Sign 44) u v → (E : Entries) (n m : ℕ) → n ≡ m + 1 → (k : List Sym) → run (more E n ∷ k) (unread u) ≡ run (entry E ∷ more E m ∷ k) (unread v)
comma took E n m e k = passes took _ _ (more_comma E n m k e)

more_other : (E : Entries) (n : ℕ) (k : List Sym) (q : Kind) → is_sign 44 q ≡ false → step strict (more E n ∷ k) q ≡ step strict k q
more_other E zero k q is = refl
more_other E (suc n) k q is = cond-false _ _ _ is

pub no_comma : {u : Unread} → Other (Sign 44) u → (E : Entries) (n : ℕ) (k : List Sym) → run (more E n ∷ k) (unread u) ≡ run k (unread u)
no_comma other E n k = alike other.taken (more E n ∷ k) k (more_other E n k _ (not_sign 44 _ other.differs))
