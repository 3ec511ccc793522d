use Rattle.chained.specs.Chains.{chain_in}
use Rattle.chained.proofs.Spacing.{bag_none, sited_none}
use Rattle.chained.proofs.space.ChainedSpaceSpace.clear.Goals as goal

pub returns-clause-empty : goal.returns-clause-empty
returns-clause-empty c = bag_none (chain_in c.clear.new.self) c.clear.ensures.empty

pub returns-clause-chains : goal.returns-clause-chains
returns-clause-chains c = sited_none (chain_in c.clear.new.self) c.clear.ensures.empty
