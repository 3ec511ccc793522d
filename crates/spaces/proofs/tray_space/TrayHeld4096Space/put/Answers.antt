use Rattle.std.proofs.Common.{◌≡◌, rules}
use Rattle.spaces.proofs.Holding.{put_gains}
use Rattle.spaces.proofs.tray_space.TrayHeld4096Space.put.Goals as goal

pub returns-clause-after : goal.returns-clause-after
returns-clause-after c =
    let here : c.in_ok-to.to.number ≡ c.args.site = search rules in
    put_gains (record { site = c.in_ok-to.to; tuple = c.args.tuple }) c.args.site _ _ here c.in_ok-add.ensures.after
