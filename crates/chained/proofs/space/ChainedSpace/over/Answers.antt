use Rattle.chained.specs.Chains.{chain_in}
use Rattle.chained.proofs.Spacing.{bag_none}
use Rattle.chained.proofs.space.ChainedSpace.over.Goals as goal

pub returns-clause-empty : goal.returns-clause-empty
returns-clause-empty c = bag_none (chain_in c.over.result) c.over.ensures.chains
