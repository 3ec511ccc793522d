use Rattle.std.proofs.Common.{length, sym, ap, ◌∙◌, arith}
use Rattle.chained.proofs.Walking.{first_inside, rest_inside, first-numbered}
use Rattle.chained.proofs.chain.ChainIterator.next.Goals as goal

pub bounds-self-inside-at : goal.bounds-self-inside-at
bounds-self-inside-at c = omega (arith, first_inside c.self.inside.rows.now c.self.inside.ends c.in_ok-self-inside.field-0 c.in_ok-self-inside.ensures c.self.invariant)

pub invariant_of-self : goal.invariant_of-self
invariant_of-self c = rest_inside c.self.inside.rows.now c.self.inside.ends _ c.in_ok-self-inside.ensures c.self.invariant _

pub returns-clause-steps : goal.returns-clause-steps
returns-clause-steps c = sym c.self.view_is ∙ first-numbered c.self.inside.rows.now c.self.inside.ends _ c.in_ok-self-inside.ensures c.self.invariant c.index-self-at.result

pub returns-clause-goes : goal.returns-clause-goes
returns-clause-goes c =
    let shorter = ap length (sym c.self.view_is ∙ first-numbered c.self.inside.rows.now c.self.inside.ends _ c.in_ok-self-inside.ensures c.self.invariant c.index-self-at.result) in
    record { on = λ f. (tt, tt, omega (arith, shorter)); keeps = tt; rests = λ f. tt }
