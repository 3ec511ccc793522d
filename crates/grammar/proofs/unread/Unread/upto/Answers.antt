use Rattle.std.proofs.Common.{sym}
use Rattle.grammar.proofs.Walk.{upto_some, upto_none}
use Rattle.grammar.proofs.unread.Unread.upto.Goals as goal

pub returns-then-begins : goal.returns-then-begins
returns-then-begins c = upto_some c.in_ok-token.ensures c.args.entries _ (sym c.if-begins.ensures) c.some.ensures

pub returns-else-begins : goal.returns-else-begins
returns-else-begins c = upto_none c.in_ok-token.ensures c.args.entries (sym c.if-begins.ensures)
