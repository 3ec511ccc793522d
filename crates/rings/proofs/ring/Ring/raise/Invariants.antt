use Rattle.std.proofs.Common.{◌≡◌, length, drop}
use Rattle.rings.specs.Rings.{room, circle}
use Rattle.rings.proofs.Raising.{raised_from}
use Rattle.rings.proofs.ring.Ring.raise.Given as goal

abbrev pub invariant-loop-i : goal.invariant-loop-i
invariant-loop-i g l = record {
  first : l.self.first ≡ l.fn.self.first;
  used : l.self.used ≡ l.fn.self.used;
  wide : length l.self.rows.now ≡ length l.fn.self.rows.now;
  left : circle l.fn.self l.self.rows.now ≡ raised_from (circle l.fn.self l.fn.self.rows.now) l.at l.i;
  lent : l.self.rows.ghost_name ≡ l.fn.self.rows.ghost_name;
  behind : drop (room l.fn.self) l.self.rows.now ≡ drop (room l.fn.self) l.fn.self.rows.now;
}
