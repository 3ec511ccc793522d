use Rattle.std.proofs.Common.{◌∷◌, refl, ◌∙◌}
use Rattle.syntax.specs.Machine.{many, aliases}
use Rattle.grammar.proofs.Walk.{exit, further, onwards}
use Rattle.grammar.proofs.Nest.{one_more, no_more}
use Rattle.grammar.proofs.unread.Unread.aliases.Goals as goal

pub returns-in_err-here : goal.returns-in_err-here
returns-in_err-here c =
    exit (many aliases) c.args.self _ _ c.from_residual-in_err-here.ensures.1 (λ k. c.loop-rest.invariant.1 k ∙ one_more aliases (rw c.in-Some.is at c.in_ok-rest.ensures) k ∙ c.in_err-here.ensures (many aliases ∷ k))

pub loop-rest-preserved : goal.loop-rest-preserved
loop-rest-preserved c =
    let took = rw c.in-Some.is at c.in_ok-rest.ensures in
    let h = c.in_ok-here.ensures in
    (further c.loop-rest.invariant.0 (further (onwards took refl) h.0), λ k. c.loop-rest.invariant.1 k ∙ one_more aliases took k ∙ h.1 (many aliases ∷ k))

pub returns : goal.returns
returns c = let h = c.loop-rest.invariant in (h.0, λ k. h.1 k ∙ no_more aliases (rw c.in_default.is at c.in_ok-rest.ensures) k)
