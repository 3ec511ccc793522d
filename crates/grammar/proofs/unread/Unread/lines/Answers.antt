use Rattle.std.proofs.Common.{◌∷◌, refl, ◌∙◌}
use Rattle.syntax.specs.Machine.{many, lines}
use Rattle.grammar.proofs.Walk.{exit_in, further, onwards}
use Rattle.grammar.proofs.Nest.{one_more, no_more}
use Rattle.grammar.proofs.unread.Unread.lines.Goals as goal

pub returns-in_err-here : goal.returns-in_err-here
returns-in_err-here c =
    let R = lines c.args.which in
    let took = rw c.first_word-word.ensures at (rw c.in-Some.is at c.in_ok-rest.ensures) in
    exit_in 0 (many R) c.args.self _ _ c.from_residual-in_err-here.ensures.1 (λ k d. c.loop-rest.invariant.1 k d ∙ one_more R took k ∙ c.in_err-here.ensures (many R ∷ k) d)

pub loop-rest-preserved : goal.loop-rest-preserved
loop-rest-preserved c =
    let R = lines c.args.which in
    let took = rw c.first_word-word.ensures at (rw c.in-Some.is at c.in_ok-rest.ensures) in
    let h = c.in_ok-here.ensures in
    (further c.loop-rest.invariant.0 (further (onwards took refl) h.0), λ k d. c.loop-rest.invariant.1 k d ∙ one_more R took k ∙ h.1 (many R ∷ k) d)

pub returns : goal.returns
returns c =
    let h = c.loop-rest.invariant in
    let other = rw c.first_word-word.ensures at (rw c.in_default.is at c.in_ok-rest.ensures) in
    (h.0, λ k d. h.1 k d ∙ no_more (lines c.args.which) other k)
