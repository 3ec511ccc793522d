use Rattle.std.proofs.Common.{◌∷◌, sym}
use Rattle.std.proofs.lemmas.Bool.{cond-true, cond-false}
use Rattle.syntax.specs.Machine.{leaf, unexpected}
use Rattle.grammar.proofs.Walk.{alone, refuses}
use Rattle.grammar.proofs.unread.Unread.expect.Goals as goal

pub returns-then-stands_for : goal.returns-then-stands_for
returns-then-stands_for c = alone c.in_ok-token.ensures (leaf c.args.terminal) (λ k. cond-true _ _ _ (sym c.if-stands_for.ensures))

pub returns-else-stands_for : goal.returns-else-stands_for
returns-else-stands_for c = λ k. refuses c.in_ok-token.ensures (leaf c.args.terminal ∷ k) unexpected (cond-false _ _ _ (sym c.if-stands_for.ensures))
