use Rattle.std.proofs.Common.{◌∙◌}
use Rattle.chained.proofs.Keeping.{held_count}
use Rattle.chained.proofs.chains.Chains.size.Goals as goal

pub returns : goal.returns
returns c =
    let s = c.args.self.now in
    s.size ∙ held_count s.rows.now s.ends s.sound
