use Rattle.std.proofs.Common.{◌≡◌, rules, refl}
use Rattle.claims.proofs.day.free.Goals as goal

pub returns : goal.returns
returns c =
    let zero : c.unwrap.result.number ≡ 0 = search rules in
    (c.unwrap.result, zero, refl)
