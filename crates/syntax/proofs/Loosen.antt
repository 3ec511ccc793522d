-- How a step changes where there are no limits.
use Rattle.std.proofs.Common.{◌≡◌, ℕ, zero, suc, Bool, true, false, cond, eqb, List, [], ◌∷◌, ℤ, is_some, Some, None, Option, refl, subst, arith}
use Rattle.lex.specs.Next.{is_end}
use Rattle.lex.specs.declared.Kind.{Kind}
use Rattle.lex.specs.declared.Kind.TheVariants.{End, Reserved, Name, Variable, Word, Number, Sign}
use Rattle.syntax.specs.Limits.{strict, free}
use Rattle.syntax.specs.Machine.{aliases, bars, lines, Sym, leaf, entry, more, upto, many, proc, item, opening, closing, Why, unexpected, deep, outside, Step, go, no, done, is_sign, is_variable, fits, starts, heads, takes, fielded, entered, opens, opened, tag, verb, acted, begins, step}
use Rattle.syntax.specs.declared.Entries.{Entries}
use Rattle.syntax.specs.declared.Entries.TheVariants.{Fields, Places, Params}
use Rattle.syntax.specs.declared.Terminal.TheVariants.{Sign as ASign, Name as AName, Variable as AVariable, TypeWord as AType, Target as ATarget}
use Rattle.lex.specs.declared.Keyword.TheVariants.{Nil}
use Rattle.syntax.proofs.Shape.{sign-is}

-- the step within the limits, and the step where there are none
abbrev pub Told : Kind → Step → Step → Type 0
Told q (go m) y = y ≡ go m
Told q (no unexpected) y = y ≡ no unexpected
Told q (no deep) y = (q ≡ Sign 40) × (m : List Sym) × (y ≡ go m)
Told q (no outside) y = (q ≡ Number None) × (m : List Sym) × (y ≡ go m)
Told q done y = y ≡ done

told-cond : (q : Kind) (b : Bool) (x y u v : Step) → Told q x u → Told q y v → Told q (cond b x y) (cond b u v)
told-cond q true x y u v f g = f
told-cond q false x y u v f g = g

told-takes : (q : Kind) (b : Bool) (k : List Sym) → Told q (takes b k) (takes b k)
told-takes q b k = told-cond q b (go k) (no unexpected) (go k) (no unexpected) refl refl

told-number : (k : List Sym) (v : Option ℤ) → Told (Number v) (cond (is_some v) (go k) (no outside)) (go k)
told-number k (Some z) = refl
told-number k None = (refl, k, refl)

told-field : (k : List Sym) (q : Kind) → Told q (fielded strict k q) (fielded free k q)
told-field k End = refl
told-field k (Reserved w) = refl
told-field k Name = refl
told-field k Variable = refl
told-field k Word = refl
told-field k (Number v) = told-number k v
told-field k (Sign b) = refl

told-entry : (E : Entries) (k : List Sym) (q : Kind) → Told q (entered strict E k q) (entered free E k q)
told-entry Fields k q = told-field k q
told-entry Places k q = told-cond q (is_sign 33 q) _ (fielded strict k q) _ (fielded free k q) refl (told-field k q)
told-entry Params k q = told-takes q (is_variable q) _

told-room : (q : Kind) (k : List Sym) (b : Bool) → q ≡ Sign 40 → Told q (cond b (go (proc ∷ closing ∷ k)) (no deep)) (go (proc ∷ closing ∷ k))
told-room q k true e = refl
told-room q k false e = (e, proc ∷ closing ∷ k, refl)

told_open : (q : Kind) (k : List Sym) (b : Bool) → is_sign 40 q ≡ b → Told q (cond b (opened strict k) (no unexpected)) (cond b (opened free k) (no unexpected))
told_open q k true e = told-room q k (strict.room (opens k)) (sign-is 40 q e)
told_open q k false e = refl

told-verb : (q : Kind) (o : Option (List Sym)) (k : List Sym) → Told q (acted k o) (acted k o)
told-verb q (Some ss) k = refl
told-verb q None k = refl

told-begins : (k : List Sym) (q : Kind) → Told q (begins strict k q) (begins free k q)
told-begins k End = refl
told-begins k (Reserved w) = told-cond (Reserved w) (eqb (tag w) (tag Nil)) (go k) (acted k (verb w)) (go k) (acted k (verb w)) refl (told-verb (Reserved w) (verb w) k)
told-begins k Name = refl
told-begins k Variable = refl
told-begins k Word = refl
told-begins k (Number v) = refl
told-begins k (Sign b) = told_open (Sign b) k (eqb b 40) refl

pub told : (k : List Sym) (q : Kind) → Told q (step strict k q) (step free k q)
told [] q = told-cond q (is_end q) done (no unexpected) done (no unexpected) refl refl
told (leaf c ∷ k) q = told-takes q (fits c q) k
told (entry E ∷ k) q = told-entry E k q
told (more E zero ∷ k) q = told k q
told (more E (suc n) ∷ k) q = told-cond q (is_sign 44 q) _ (step strict k q) _ (step free k q) refl (told k q)
told (upto E ∷ k) q = told-cond q (starts E q) _ (step strict k q) _ (step free k q) (told-entry E (more E 3 ∷ k) q) (told k q)
told (many R ∷ k) q = told-cond q (heads R q) _ (step strict k q) _ (step free k q) refl (told k q)
told (proc ∷ k) q = told-begins (many bars ∷ k) q
told (item ∷ k) q = told-begins k q
told (opening ∷ k) q = told_open q k (is_sign 40 q) refl
told (closing ∷ k) q = told-takes q (is_sign 41 q) k

pub told_at : (k : List Sym) (q : Kind) (s : Step) → step strict k q ≡ s → Told q s (step free k q)
told_at k q s e = subst (λ x. Told q x (step free k q)) e (told k q)

pub no-go : (m : List Sym) (w : Why) → no w ≡ go m → ⊥
no-go m w e = let z : ◌≡◌ {A = ℕ} 0 1 = cc in omega arith

-- a number outside 32 bits is never passed

pub never_outside : (k m : List Sym) → step strict k (Number None) ≡ go m → ⊥
never_outside [] m e = no-go m unexpected e
never_outside (leaf (ASign b) ∷ k) m e = no-go m unexpected e
never_outside (leaf AName ∷ k) m e = no-go m unexpected e
never_outside (leaf AVariable ∷ k) m e = no-go m unexpected e
never_outside (leaf AType ∷ k) m e = no-go m unexpected e
never_outside (leaf ATarget ∷ k) m e = no-go m unexpected e
never_outside (entry Fields ∷ k) m e = no-go m outside e
never_outside (entry Places ∷ k) m e = no-go m outside e
never_outside (entry Params ∷ k) m e = no-go m unexpected e
never_outside (more E zero ∷ k) m e = never_outside k m e
never_outside (more E (suc n) ∷ k) m e = never_outside k m e
never_outside (upto Fields ∷ k) m e = no-go m outside e
never_outside (upto Places ∷ k) m e = no-go m outside e
never_outside (upto Params ∷ k) m e = never_outside k m e
never_outside (many aliases ∷ k) m e = never_outside k m e
never_outside (many bars ∷ k) m e = never_outside k m e
never_outside (many (lines L) ∷ k) m e = never_outside k m e
never_outside (proc ∷ k) m e = no-go m unexpected e
never_outside (item ∷ k) m e = no-go m unexpected e
never_outside (opening ∷ k) m e = no-go m unexpected e
never_outside (closing ∷ k) m e = no-go m unexpected e
