use Rattle.std.proofs.Common.{rules, ◌∙◌}
use Rattle.std.proofs.lemmas.Iterator.Consumers.{YieldsList-from_rest, YieldsList-from_filter, count_from_yields_List}
use Rattle.tuples.specs.Matching.{matches}
use Rattle.chained.specs.Links.{rows_of, told}
use Rattle.chained.proofs.Holding.{count_numbered}
use Rattle.chained.proofs.chains.Chains.count.Goals as goal
use borrow.Author.Tests.{tests}

pub returns : goal.returns
returns c =
    let s = c.args.self.now in
    count_from_yields_List _ _ c.count.ensures.ran (YieldsList-from_filter _ (λ x. matches c.args.template.now x.1) (YieldsList-from_rest {shows = told} _ (c.filter.ensures.source ∙ c.chain.ensures.rows)) c.filter.ensures.closure (λ x b q k. search (rules, tests))) ∙ count_numbered s.rows.now c.args.template.now (rows_of s.rows.now s.ends c.args.site.number)
