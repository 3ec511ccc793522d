use Rattle.std.proofs.Common.{◌<◌, sym, refl, ap, ◌∙◌, arith}
use Rattle.tuples.specs.Matching.{matches}
use Rattle.rows.specs.Searches.{found, without}
use Rattle.spaces.proofs.Bagging.{nothing_beyond}
use Rattle.chained.specs.Chains.{chain_in}
use Rattle.chained.specs.Bounds.{chained_bounded}
use Rattle.chained.proofs.Spacing.{sited_low, sited_high, sited-same, bag_taken}
use Rattle.chained.proofs.space.ChainedSpaceSpace.take.Goals as goal

pub returns-in_err-new : goal.returns-in_err-new
returns-in_err-new c =
    let none = sited_high (chain_in c.args.self.now.chains) c.args.site c.in_err-new.ensures in
    rw c.from_residual.ensures (record {
      after = (nothing_beyond c.args.site c.args.template.now _ _ (chained_bounded c.args.self.now) c.in_err-new.ensures, λ p. refl);
      fixed = refl;
      first = sym (ap (found (matches c.args.template.now)) none);
      chain = none ∙ sym (ap (without (matches c.args.template.now)) none);
      others = λ d n. refl;
      tuples = λ i. refl;
      beyond = λ i h. refl;
      lent = refl;
    })

pub returns : goal.returns
returns c =
    let f = chain_in c.args.self.now.chains in
    let g = chain_in c.take.new.self in
    let low : c.args.site < 32 = omega (arith, c.in_ok-new.ensures, c.in_ok-new.field-0.below) in
    let done = rw c.in_ok-new.ensures at c.take.ensures in
    record {
      after = bag_taken f c.args.site low c.args.template.now g done.rest done.here c.take.result done.got;
      fixed = done.memory.fixed;
      first = done.got ∙ sym (ap (found (matches c.args.template.now)) (sited_low f c.args.site low));
      chain = sited_low g c.args.site low ∙ done.here ∙ sym (ap (without (matches c.args.template.now)) (sited_low f c.args.site low));
      others = sited-same f g c.args.site done.rest;
      tuples = done.kept.tuples;
      beyond = done.kept.beyond;
      lent = done.memory.lent;
    }
