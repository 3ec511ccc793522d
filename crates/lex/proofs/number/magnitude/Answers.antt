use Rattle.std.proofs.Common.{◌≡◌, ℕ, ◌+◌, ◌-◌, ◌*◌, min, fold, List, [], ◌∷◌, ◌∙◌, rules, arith}
use Rattle.lex.proofs.number.magnitude.Goals as goal

-- sums that stop at the largest number of 32 bits end where the whole sum does, or there
fold-min : (n v : ℕ) (ds : List ℕ) → n ≡ min v 4294967295 → fold (λ n b. min (min (n * 10) 4294967295 + (b - 48)) 4294967295) n ds ≡ min (fold (λ n b. n * 10 + (b - 48)) v ds) 4294967295
fold-min n v [] e = e
fold-min n v (d ∷ ds) e = fold-min (min (min (n * 10) 4294967295 + (d - 48)) 4294967295) (v * 10 + (d - 48)) ds (omega arith)

pub returns : goal.returns
returns c = let e : c.fold.result ≡ fold (λ n b. min (min (n * 10) 4294967295 + (b - 48)) 4294967295) 0 c.args.digits.now = search rules in e ∙ fold-min 0 0 c.args.digits.now (omega arith)
