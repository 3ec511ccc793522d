-- What stands in brackets, and what is repeated.
use Rattle.std.proofs.Common.{◌≡◌, ◌≢◌, ℕ, ◌<◌, ◌≤◌, true, eqb, List, [], ◌∷◌, ◌++◌, Ok, Err, Result, refl, ap, ◌∙◌, arith}
use Rattle.std.proofs.lemmas.Bool.{cond-true, cond-false, false_from_ne_true, le-ltb, lt-ltb}
use Rattle.lex.specs.Next.{is_end}
use Rattle.lex.specs.Tokens.{Tok}
use Rattle.lex.specs.declared.Keyword.{Keyword}
use Rattle.lex.specs.declared.Keyword.TheVariants.{Nil}
use Rattle.lex.specs.declared.Kind.{Kind}
use Rattle.lex.specs.declared.Kind.TheVariants.{Reserved, Name, Sign}
use Rattle.lex.specs.declared.Token.{Token}
use Rattle.lex.specs.declared.refusal.Refusal.{Refusal}
use Rattle.syntax.specs.Limits.{strict}
use Rattle.syntax.specs.Machine.{Sym, many, proc, item, opening, closing, sign, Repeat, aliases, bars, lines, line_key, unexpected, deep, go, tag, is_key, heads, body, opens, verb, acted, worded, step, run}
use Rattle.grammar.specs.Reads.{unread, Taken, Accepted, Other, Reads, ReadsIn, answer}
use Rattle.grammar.specs.declared.unread.Unread.{Unread}
use Rattle.syntax.proofs.Shape.{key-is, name-is, sign-is}
use Rattle.grammar.proofs.Walk.{run-plain, goes, refuses, passes, alike, not_sign}

pub proc-item : (k : List Sym) (ts : List Tok) → run (proc ∷ k) ts ≡ run (item ∷ many bars ∷ k) ts
unfolding run
proc-item k [] = refl
proc-item k (t ∷ ts) = refl

pub closing-sign : (k : List Sym) (ts : List Tok) → run (closing ∷ k) ts ≡ run (sign 41 ∷ k) ts
unfolding run
closing-sign k [] = refl
closing-sign k (t ∷ ts) = refl

-- what reads under any brackets reads under these
pub anywhere : (depth : ℕ) (ss : List Sym) (u : Unread) (r : Result Unread (Refusal × ℕ)) → Reads ss u r → ReadsIn depth ss u r
anywhere depth ss u (Ok v) h = (h.0, λ k d. h.1 k)
anywhere depth ss u (Err e) h = λ k d. h k

-- the kind of the token that the repeated begins with
abbrev pub head : Repeat → Kind
head aliases = Name
head bars = Sign 124
head (lines L) = Reserved (line_key L)

heads-head : (R : Repeat) → heads R (head R) ≡ true
heads-head aliases = refl
heads-head bars = refl
heads-head (lines L) = grind arith

heads-is : (R : Repeat) (q : Kind) → heads R q ≡ true → q ≡ head R
heads-is aliases q h = name-is q h
heads-is bars q h = sign-is 124 q h
heads-is (lines L) q h = key-is (line_key L) q h

-- one more of the repeated, or none
pub one_more : {u v : Unread} (R : Repeat) → Accepted (head R) u v → (k : List Sym) → run (many R ∷ k) (unread u) ≡ run (body R ++ many R ∷ k) (unread v)
one_more R took k = passes took (many R ∷ k) (body R ++ many R ∷ k) (cond-true _ _ _ (heads-head R))

pub no_more : {u : Unread} (R : Repeat) → Other (head R) u → (k : List Sym) → run (many R ∷ k) (unread u) ≡ run k (unread u)
no_more R other k = alike other.taken (many R ∷ k) k (cond-false _ _ _ (false_from_ne_true _ (λ e. other.differs (heads-is R _ e))))

module _ {u v : Unread} {t : Token} (next : Taken u t v) where
  -- an item begins with a reserved word
  at-word : (w : Keyword) → t.kind ≡ Reserved w → (k : List Sym) → run (item ∷ k) (unread u) ≡ answer t.start (unread v) (worded k w)
  at-word w is k =
      ap (run (item ∷ k)) next.first ∙ run-plain (item ∷ k) t _ (worded k w) (ap (step strict (item ∷ k)) is)
      ∙ ap (λ (ts : List Tok). answer t.start ts (worded k w)) (cond-false _ _ _ (ap is_end is))

  -- `nil` is the whole of an item
  pub nil_goes : (k : List Sym) → is_key Nil t.kind ≡ true → run (item ∷ k) (unread u) ≡ run k (unread v)
  nil_goes k h = goes next (item ∷ k) k (ap (step strict (item ∷ k)) (key-is Nil t.kind h))

  -- an action's word leaves the action and its dot to come, and an item behind them
  pub prefix_goes : (w : Keyword) → t.kind ≡ Reserved w → w ≢ Nil → (k : List Sym) → run (item ∷ k) (unread u) ≡ answer t.start (unread v) (acted k (verb w))
  prefix_goes w is other k =
      at-word w is k
      ∙ ap (answer t.start (unread v)) (cond-false (eqb (tag w) (tag Nil)) (go k) (acted k (verb w)) (false_from_ne_true _ (λ e. other (let q : Reserved w ≡ Reserved Nil = key-is Nil (Reserved w) e in cc))))

  -- brackets

  pub opening-no : t.kind ≢ Sign 40 → (k : List Sym) → run (opening ∷ k) (unread u) ≡ (2, t.start)
  opening-no other k = refuses next (opening ∷ k) unexpected (cond-false _ _ _ (not_sign 40 _ other))

  pub opening-deep : t.kind ≡ Sign 40 → (k : List Sym) → 16 ≤ opens k → run (opening ∷ k) (unread u) ≡ (3, t.start)
  opening-deep is k low = refuses next (opening ∷ k) deep (ap (step strict (opening ∷ k)) is ∙ cond-false _ _ _ (le-ltb (opens k) 16 low))

  pub inner : t.kind ≡ Sign 40 → (k : List Sym) → opens k < 16 → run (opening ∷ k) (unread u) ≡ run (proc ∷ closing ∷ k) (unread v)
  inner is k room = goes next (opening ∷ k) (proc ∷ closing ∷ k) (ap (step strict (opening ∷ k)) is ∙ cond-true _ _ _ (lt-ltb (opens k) 16 room))
