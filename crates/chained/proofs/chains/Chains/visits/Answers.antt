use Rattle.std.proofs.Common.{rules, arith}
use Rattle.std.proofs.lemmas.Iterator.Consumers.{YieldsList-from_rest}
use Rattle.std.proofs.lemmas.Iterator.Search.{position_from_yields_List}
use Rattle.tuples.specs.Matching.{matches}
use Rattle.chained.specs.Links.{rows_of}
use Rattle.chained.proofs.Holding.{visits_numbered}
use Rattle.chained.proofs.Keeping.{numbered_count}
use Rattle.chained.proofs.chains.Chains.visits.Goals as goal
use Rattle.std.proofs.lemmas.Grind.{common_steps}
use borrow.Author.Tests.{tests}

pub returns : goal.returns
returns c =
    let s = c.args.self.now in
    let at = position_from_yields_List (λ x. matches c.args.template.now x.1) _ _ c.position.result c.position.ensures.ran (YieldsList-from_rest _ c.chain.ensures.rows) (λ x b q k. search (rules, tests)) in
    visits_numbered s.rows.now c.args.template.now (rows_of s.rows.now s.ends c.args.site.number) c.position.result c.map_or.result at (rw (numbered_count s.rows.now s.ends s.sound c.args.site.number (omega arith)) (grind (arith, common_steps, c.map_or.ensures)))
