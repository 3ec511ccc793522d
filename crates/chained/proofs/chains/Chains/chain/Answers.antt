use Rattle.std.proofs.Common.{length, ap, arith}
use Rattle.chained.proofs.Moving.{chain_inside}
use Rattle.chained.proofs.Keeping.{chain_few}
use Rattle.chained.proofs.chains.Chains.chain.Goals as goal

pub between-requires : goal.between-requires
between-requires c =
    let s = c.args.self.now in
    chain_inside s.rows.now s.ends s.sound c.number.result (omega arith)

pub returns-clause-few : goal.returns-clause-few
returns-clause-few c =
    let s = c.args.self.now in
    omega (arith, ap length c.between.ensures, chain_few s.rows.now s.ends s.sound c.number.result (omega arith))
