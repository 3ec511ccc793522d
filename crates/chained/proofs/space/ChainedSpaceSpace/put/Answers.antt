use Rattle.std.proofs.Common.{◌≡◌, ◌<◌, Some, arith}
use Rattle.std.proofs.lemmas.Option.{MatchOption-at_some}
use Rattle.chained.specs.Chains.{chain_in}
use Rattle.chained.proofs.Spacing.{sited-same}
use Rattle.chained.proofs.Putting.{put_into, said_or}
use Rattle.chained.proofs.space.ChainedSpaceSpace.put.Goals as goal

pub returns : goal.returns
returns c =
    let f = chain_in c.args.self.now.chains in
    let g = chain_in c.put.new.self in
    let some : c.new.result ≡ Some c.in_ok-site.site = grind (arith, c.in_ok-site.ensures.value) in
    let is = MatchOption-at_some _ _ _ some c.new.ensures in
    let low : c.args.site < 32 = omega (arith, is, c.in_ok-site.site.below) in
    let done = rw is at c.put.ensures in
    let all = put_into f g _ c.args.site c.args.tuple c.put.result low done.took done.rest done.here in
    rw c.or.ensures (record {
      answer = all.answer;
      after = all.after;
      fixed = done.memory.fixed;
      chain = all.chain;
      others = sited-same f g c.args.site done.rest;
      tuples = said_or c.put.result _ _ _ done.tuples;
      beyond = done.beyond;
      lent = done.memory.lent;
    })
