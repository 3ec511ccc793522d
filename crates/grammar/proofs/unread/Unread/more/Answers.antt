use Rattle.std.proofs.Common.{◌+◌, ◌-◌, refl, ◌∙◌, arith}
use Rattle.syntax.specs.Machine.{more}
use Rattle.grammar.proofs.Walk.{exit, further, onwards, comma, no_comma, more_none}
use Rattle.grammar.proofs.unread.Unread.more.Goals as goal

pub returns-in_default : goal.returns-in_default
returns-in_default c = let h = c.loop.invariant in (h.0, λ k. h.1 k ∙ no_comma (rw c.in_default.is at c.in_ok-rest.ensures) c.args.entries _ k)

pub returns-in_err-here : goal.returns-in_err-here
returns-in_err-here c =
    exit (more c.args.entries 3) c.args.self _ _ c.from_residual-in_err-here.ensures.1 (λ k. c.loop.invariant.1 k ∙ comma (rw c.in-Some.is at c.in_ok-rest.ensures) c.args.entries _ (3 - (c.loop.counter + 1)) (omega arith) k ∙ c.in_err-here.ensures _)

pub loop-preserved : goal.loop-preserved
loop-preserved c =
    let took = rw c.in-Some.is at c.in_ok-rest.ensures in
    let h = c.in_ok-here.ensures in
    (further c.loop.invariant.0 (further (onwards took refl) h.0), λ k. c.loop.invariant.1 k ∙ comma took c.args.entries _ (3 - (c.loop.counter + 1)) (omega arith) k ∙ h.1 _)

pub returns : goal.returns
returns c = let h = c.loop.invariant in (h.0, λ k. h.1 k ∙ more_none c.args.entries _ (omega arith) k _)
