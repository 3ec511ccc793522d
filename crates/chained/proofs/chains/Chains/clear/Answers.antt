use Rattle.chained.proofs.Keeping.{fresh_count, fresh_held}
use Rattle.chained.proofs.chains.Chains.clear.Goals as goal

pub invariant_of-self-clause-size : goal.invariant_of-self-clause-size
invariant_of-self-clause-size c = fresh_count _ _ c.freed.ensures.fresh

pub returns-clause-empty : goal.returns-clause-empty
returns-clause-empty c = fresh_held c.freed.new.rows c.freed.result c.freed.ensures.fresh
