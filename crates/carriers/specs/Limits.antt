-- A tray and a ring of letters keep a limit of at most 256. Assumes nothing.
use Rattle.std.proofs.Common.{arith, length-take}
use Rattle.rows.specs.declared.tray.Tray.{Tray}
use Rattle.rows.specs.Trays as tray
use Rattle.rings.specs.declared.ring.Ring.{Ring}
use Rattle.rings.specs.Rings as ring
use Rattle.carriers.specs.declared.letter.Letter.{Letter}
use Rattle.carriers.specs.Carriers.{Limited}

pub tray_limited : (t : Tray Letter 256) → Limited (tray.listed t) (tray.room t)
tray_limited t = record { fits = omega (arith, length-take t.used t.rows.now, t.fits); most = omega arith }

pub ring_limited : (r : Ring Letter 256) → Limited (ring.listed r) (ring.room r)
ring_limited r = record { fits = omega (arith, length-take r.used (ring.circle r r.rows.now), r.fits); most = omega arith }
