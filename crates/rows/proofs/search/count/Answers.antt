use Rattle.std.proofs.Common.{◌^◌, ◌<◌, Bool, arith, rules}
use Rattle.std.proofs.lemmas.Iterator.{YieldsList-from_slice}
use Rattle.std.proofs.lemmas.Iterator.Adapters.{serves_from_total}
use Rattle.rows.specs.Bags.{once, many}
use Rattle.rows.proofs.Counting.{many_le, many_counts}
use Rattle.rows.proofs.search.count.Goals as goal

-- what is counted so far and the row at hand are at most all that answer, which a `usize` holds
pub fold-requires-clause-callable : goal.fold-requires-clause-callable
fold-requires-clause-callable g c =
    let hit : g.row.R.Denot → Bool = λ x. g.R.Row.hit x c.args.question.now in
    let few : many hit c.args.rows.now < 2 ^ 64 = omega (arith, many_le hit c.args.rows.now, c.iter.ensures.bound, c.iter.ensures.len) in
    let all = many_counts hit c.args.rows.now in
    serves_from_total (YieldsList-from_slice c.args.rows.now cc) (λ x. once (hit x)) (λ n x q k. search rules) (λ n x le. search rules)
