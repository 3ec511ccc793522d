use Rattle.std.proofs.Common.{◌≡◌, [], ◌∷◌, sym, refl, ap, ◌∙◌, arith, rules}
use Rattle.lex.specs.Next.{is_end}
use Rattle.lex.specs.declared.Kind.TheVariants.{Sign}
use Rattle.syntax.specs.Limits.{strict}
use Rattle.syntax.specs.Machine.{sign, upto, many, bars, proc, item, opening, closing, unexpected, step}
use Rattle.syntax.specs.declared.Entries.TheVariants.{Fields}
use Rattle.grammar.specs.Reads.{unread}
use Rattle.grammar.proofs.Walk.{exit_in, along_in, goes, refuses, alike, onward, further, onwards}
use Rattle.grammar.proofs.Nest.{proc-item, closing-sign, anywhere, one_more, no_more, prefix_goes, opening-no, opening-deep, inner}
use Rattle.grammar.proofs.unread.Unread.+process.Goals as goal

pub bracket-returns-then-ne : goal.bracket-returns-then-ne
bracket-returns-then-ne t c = λ k d. opening-no c.in_ok-token.ensures (search rules) k

pub bracket-returns-then-depth-ge-DEEPEST : goal.bracket-returns-then-depth-ge-DEEPEST
bracket-returns-then-depth-ge-DEEPEST t c = λ k d. opening-deep c.in_ok-token.ensures (search rules) k (omega arith)

pub bracket-returns-in_err-process : goal.bracket-returns-in_err-process
bracket-returns-in_err-process t c =
    exit_in c.args.depth opening c.args.self _ _ c.from_residual-in_err-process.ensures.1
    (λ k d. inner c.in_ok-token.ensures (search rules) k (omega arith) ∙ c.in_err-process.ensures (closing ∷ k) (omega arith))

pub bracket-returns : goal.bracket-returns
bracket-returns t c =
    let next = c.in_ok-token.ensures in
    let is : c.in_ok-token.token.kind ≡ Sign 40 = search rules in
    let h = c.in_ok-process.ensures in
    along_in c.args.depth (opening ∷ []) (sign 41 ∷ []) _ (further (onward next (ap is_end is)) h.0)
    (λ k d. inner next is k (omega arith) ∙ h.1 (closing ∷ k) (omega arith) ∙ closing-sign k _)
    (anywhere c.args.depth (sign 41 ∷ []) _ _ c.expect.ensures)

pub item-returns-in-Reserved-Nil : goal.item-returns-in-Reserved-Nil
item-returns-in-Reserved-Nil t c =
    let next = c.in_ok-token.ensures in
    (further c.loop-token.invariant.0 (onward next (grind arith)), λ k d. c.loop-token.invariant.1 k d ∙ goes next (item ∷ k) k (grind arith))

pub item-returns-in_err-here-in-Reserved : goal.item-returns-in_err-here-in-Reserved
item-returns-in_err-here-in-Reserved t c =
    exit_in c.args.depth item c.args.self _ _ c.from_residual-in_err-here-in-Reserved.ensures.1
    (λ k d. c.loop-token.invariant.1 k d ∙ prefix_goes c.in_ok-token.ensures c.in-Reserved.word c.in-Reserved.is (search rules) k ∙ c.in_err-here-in-Reserved.ensures k d)

pub item-loop-token-preserved : goal.item-loop-token-preserved
item-loop-token-preserved t c =
    let next = c.in_ok-token.ensures in
    let h = c.in_ok-here-in-Reserved.ensures in
    (further c.loop-token.invariant.0 (further (onward next (ap is_end c.in-Reserved.is)) h.0), λ k d. c.loop-token.invariant.1 k d ∙ prefix_goes next c.in-Reserved.word c.in-Reserved.is (search rules) k ∙ h.1 k d)

pub item-returns-in-Name : goal.item-returns-in-Name
item-returns-in-Name t c =
    let next = c.in_ok-token.ensures in
    along_in c.args.depth (item ∷ []) (sign 40 ∷ upto Fields ∷ sign 41 ∷ []) _ (further c.loop-token.invariant.0 (onward next (ap is_end c.in-Name.is)))
    (λ k d. c.loop-token.invariant.1 k d ∙ goes next (item ∷ k) (sign 40 ∷ upto Fields ∷ sign 41 ∷ k) (ap (step strict (item ∷ k)) c.in-Name.is))
    (anywhere c.args.depth (sign 40 ∷ upto Fields ∷ sign 41 ∷ []) _ _ c.arguments.ensures)

pub item-returns-in-Sign : goal.item-returns-in-Sign
item-returns-in-Sign t c =
    let is = c.in-Sign.is in
    along_in c.args.depth (item ∷ []) (opening ∷ []) _ c.loop-token.invariant.0
    (λ k d. c.loop-token.invariant.1 k d ∙ alike c.in_ok-token.ensures (item ∷ k) (opening ∷ k) (ap (step strict (item ∷ k)) is ∙ sym (ap (step strict (opening ∷ k)) is)))
    c.bracket.ensures

pub item-returns-in-End : goal.item-returns-in-End
item-returns-in-End t c = let s = c.in-End in λ k d. c.loop-token.invariant.1 k d ∙ refuses c.in_ok-token.ensures (item ∷ k) unexpected (grind arith)

pub process-returns-in_err-here : goal.process-returns-in_err-here
process-returns-in_err-here t c =
    exit_in c.args.depth proc c.args.self _ _ c.from_residual.ensures.1 (λ k d. proc-item k (unread c.args.self) ∙ c.in_err-here.ensures (many bars ∷ k) d)

pub process-loop-rest-init : goal.process-loop-rest-init
process-loop-rest-init t c = let h = c.in_ok-here.ensures in (h.0, λ k d. proc-item k (unread c.args.self) ∙ h.1 (many bars ∷ k) d)

pub process-returns-in_err-here-2 : goal.process-returns-in_err-here-2
process-returns-in_err-here-2 t c =
    exit_in c.args.depth proc c.args.self _ _ c.from_residual-in_err-here-2.ensures.1
    (λ k d. c.loop-rest.invariant.1 k d ∙ one_more bars (rw c.in-Some.is at c.in_ok-rest.ensures) k ∙ c.in_err-here-2.ensures (many bars ∷ k) d)

pub process-loop-rest-preserved : goal.process-loop-rest-preserved
process-loop-rest-preserved t c =
    let took = rw c.in-Some.is at c.in_ok-rest.ensures in
    let h = c.in_ok-here-2.ensures in
    (further c.loop-rest.invariant.0 (further (onwards took refl) h.0), λ k d. c.loop-rest.invariant.1 k d ∙ one_more bars took k ∙ h.1 (many bars ∷ k) d)

pub process-returns : goal.process-returns
process-returns t c = let h = c.loop-rest.invariant in (h.0, λ k d. h.1 k d ∙ no_more bars (rw c.in_default.is at c.in_ok-rest.ensures) k)
