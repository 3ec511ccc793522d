use Rattle.std.proofs.Common.{◌<◌, sym, ap, ◌∙◌, arith}
use Rattle.tuples.specs.Matching.{matches}
use Rattle.rows.specs.Searches.{found}
use Rattle.spaces.proofs.Bagging.{nothing_beyond}
use Rattle.chained.specs.Chains.{chain_in}
use Rattle.chained.specs.Bounds.{chained_bounded}
use Rattle.chained.proofs.Spacing.{sited_low, sited_high, bag_peeked}
use Rattle.chained.proofs.space.ChainedSpaceSpace.peek.Goals as goal

pub returns-in_err-new : goal.returns-in_err-new
returns-in_err-new c = rw c.from_residual.ensures (record {
  some = nothing_beyond c.args.site c.args.template.now _ _ (chained_bounded c.args.self.now) c.in_err-new.ensures;
  first = sym (ap (found (matches c.args.template.now)) (sited_high (chain_in c.args.self.now.chains) c.args.site c.in_err-new.ensures));
})

pub returns : goal.returns
returns c =
    let f = chain_in c.args.self.now.chains in
    let low : c.args.site < 32 = omega (arith, c.in_ok-new.ensures, c.in_ok-new.field-0.below) in
    let done = rw c.in_ok-new.ensures at c.peek.ensures in
    record {
      some = bag_peeked f c.args.site low c.args.template.now c.peek.result done;
      first = done ∙ sym (ap (found (matches c.args.template.now)) (sited_low f c.args.site low));
    }
