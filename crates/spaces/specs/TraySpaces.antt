-- What a tray of tuples holds as a space. Assumes nothing.
use Rattle.std.specs.Prelude.{◌≡◌, List, [], ◌∷◌, map, nat_le, refl}
use Rattle.std.proofs.Common.{ap, arith, length-take}
use Rattle.std.proofs.lemmas.List.{length-map}
use Rattle.std.proofs.lemmas.Bool.{lt-leb}
use Rattle.rows.specs.declared.tray.Tray.{Tray}
use Rattle.rows.specs.Bags.{once, many}
use Rattle.rows.specs.Trays.{room, filled, listed}
use Rattle.spaces.specs.declared.held.Held.{Held}
use Rattle.spaces.specs.Spaces.{Located, Bounded, at}

-- the copy that a row holds
abbrev pub located : Held → Located
located x = at x.site.number x.tuple

pub rows_sited : (xs : List Held) → many (λ x. nat_le 32 x.site) (map located xs) ≡ 0
rows_sited [] = refl
rows_sited (x ∷ xs) =
    let low : once (nat_le 32 x.site.number) ≡ 0 = ap once (lt-leb 32 x.site.number x.site.below) in
    omega (arith, low, rows_sited xs)

pub tray_bounded : (t : Tray Held 4096) → Bounded (map located (listed t)) (room t)
tray_bounded t = record {
  fits = omega (arith, length-map (listed t) located, length-take (filled t) t.rows.now);
  most = omega arith;
  sited = rows_sited (listed t);
}
