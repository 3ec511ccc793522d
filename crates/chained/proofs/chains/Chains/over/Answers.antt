use Rattle.chained.proofs.Keeping.{fresh_count, fresh_held}
use Rattle.chained.proofs.Spacing.{bag_none}
use Rattle.chained.proofs.chains.Chains.over.Goals as goal

pub invariant_of-result-clause-size : goal.invariant_of-result-clause-size
invariant_of-result-clause-size c = fresh_count _ _ c.freed-ends.ensures.fresh

pub returns-clause-empty : goal.returns-clause-empty
returns-clause-empty c = bag_none _ (fresh_held c.freed-ends.new.rows c.freed-ends.result c.freed-ends.ensures.fresh)

pub returns-clause-chains : goal.returns-clause-chains
returns-clause-chains c = fresh_held c.freed-ends.new.rows c.freed-ends.result c.freed-ends.ensures.fresh
