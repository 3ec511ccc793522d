use Rattle.std.proofs.Common.{◌<◌, sym, ap, ◌∙◌, arith}
use Rattle.tuples.specs.Matching.{matches}
use Rattle.rows.specs.Searches.{visited}
use Rattle.chained.specs.Chains.{chain_in}
use Rattle.chained.proofs.Spacing.{sited_low, sited_high}
use Rattle.chained.proofs.space.ChainedSpace.visits.Goals as goal

pub returns-in_default : goal.returns-in_default
returns-in_default c = sym (ap (visited (matches c.args.template.now)) (sited_high (chain_in c.args.self.now.chains) c.args.site c.in_default.ensures))

pub returns : goal.returns
returns c =
    let low : c.args.site < 32 = omega (arith, c.in-Some.ensures, c.in-Some.site.below) in
    let done = rw c.in-Some.ensures at c.visits.ensures in
    done ∙ sym (ap (visited (matches c.args.template.now)) (sited_low (chain_in c.args.self.now.chains) c.args.site low))
