use Rattle.std.proofs.Common.{arith}
use Rattle.chained.specs.Links.{next_of, ends_of}
use Rattle.chained.specs.Chains.{memory}
use Rattle.chained.proofs.Trails.{trail-length}
use Rattle.chained.proofs.Keeping.{all_rows}
use Rattle.chained.proofs.Places.{one_place}
use Rattle.chained.proofs.laws.chains_in_order.Goals as goal

pub returns : goal.returns
returns c = λ s.
    (λ d. trail-length (next_of (memory s)) (ends_of s.ends d).many (ends_of s.ends d).first, s.sound.both, one_place (memory s) s.ends s.sound, s.sound.each, omega (arith, s.size, all_rows (memory s) s.ends s.sound))
