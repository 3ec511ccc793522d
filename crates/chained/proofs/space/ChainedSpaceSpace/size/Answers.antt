use Rattle.std.proofs.Common.{◌∙◌}
use Rattle.chained.specs.Chains.{chain_in}
use Rattle.chained.proofs.Spacing.{bag-length}
use Rattle.chained.proofs.space.ChainedSpaceSpace.size.Goals as goal

pub returns : goal.returns
returns c = c.size.ensures ∙ bag-length (chain_in c.args.self.now.chains)
