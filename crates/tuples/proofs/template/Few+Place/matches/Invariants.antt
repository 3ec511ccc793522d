use Rattle.std.proofs.Common.{◌≡◌, drop}
use Rattle.tuples.specs.Matching.{accepts_all}
use Rattle.tuples.proofs.template.Few+Place.matches.Given as goal

abbrev pub invariant-loop-i : goal.invariant-loop-i
invariant-loop-i l = accepts_all (drop l.i l.places) (drop l.i l.fields) ≡ accepts_all l.places l.fields
