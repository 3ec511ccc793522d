use Rattle.grammar.proofs.Judge.{judged}
use Rattle.grammar.proofs.net.check.Goals as goal

pub returns-in-Ok-clause-judged : goal.returns-in-Ok-clause-judged
returns-in-Ok-clause-judged c = rw c.in-Ok.ensures (judged c.args.text.now)

pub returns-in-Err-clause-judged : goal.returns-in-Err-clause-judged
returns-in-Err-clause-judged c = rw (c.number.ensures, c.in-Err.ensures) (judged c.args.text.now)
