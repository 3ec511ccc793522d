use Rattle.std.proofs.Common.{rules}
use Rattle.std.proofs.lemmas.Iterator.Consumers.{YieldsList-from_rest}
use Rattle.std.proofs.lemmas.Iterator.Search.{find_from_yields_List}
use Rattle.tuples.specs.Matching.{matches}
use Rattle.chained.specs.Links.{rows_of}
use Rattle.chained.proofs.Holding.{find_numbered}
use Rattle.chained.proofs.chains.Chains.find.Goals as goal
use borrow.Author.Tests.{tests}

pub returns : goal.returns
returns c =
    let s = c.args.self.now in
    let both = find_numbered s.rows.now c.args.template.now (rows_of s.rows.now s.ends c.args.site.number) c.find.result (find_from_yields_List (λ x. matches c.args.template.now x.1) _ _ c.find.result c.find.ensures.ran (YieldsList-from_rest _ c.chain.ensures.rows) (λ x b q k. search (rules, tests))) in
    record { place = both.0; tuple = both.1 }
