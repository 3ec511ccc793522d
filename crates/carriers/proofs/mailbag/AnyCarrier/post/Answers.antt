use Rattle.rows.proofs.Counting.{added_bag}
use Rattle.carriers.proofs.mailbag.AnyCarrier.post.Goals as goal

pub returns-clause-after : goal.returns-clause-after
returns-clause-after g c =
    rw (g.met.S.Mailbag.all c.args.self.now, g.met.S.Mailbag.all c.add.new.self) (added_bag c.add.result c.args.letter _ _ c.add.ensures.after)
