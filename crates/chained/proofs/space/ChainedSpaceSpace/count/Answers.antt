use Rattle.std.proofs.Common.{◌<◌, sym, ap, ◌∙◌, arith}
use Rattle.tuples.specs.Matching.{matches}
use Rattle.rows.specs.Bags.{many}
use Rattle.spaces.proofs.Bagging.{nothing_beyond}
use Rattle.chained.specs.Chains.{chain_in}
use Rattle.chained.specs.Bounds.{chained_bounded}
use Rattle.chained.proofs.Spacing.{sited_low, sited_high, bag-count}
use Rattle.chained.proofs.space.ChainedSpaceSpace.count.Goals as goal

pub returns-in_default : goal.returns-in_default
returns-in_default c = record {
  hits = sym (nothing_beyond c.args.site c.args.template.now _ _ (chained_bounded c.args.self.now) c.in_default.ensures);
  chain = sym (ap (many (matches c.args.template.now)) (sited_high (chain_in c.args.self.now.chains) c.args.site c.in_default.ensures));
}

pub returns : goal.returns
returns c =
    let f = chain_in c.args.self.now.chains in
    let low : c.args.site < 32 = omega (arith, c.in-Some.ensures, c.in-Some.site.below) in
    let done = rw c.in-Some.ensures at c.count.ensures in
    record {
      hits = done ∙ bag-count f c.args.site low c.args.template.now;
      chain = done ∙ sym (ap (many (matches c.args.template.now)) (sited_low f c.args.site low));
    }
