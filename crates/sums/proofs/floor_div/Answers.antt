use lib.IntN.{nat_abs, negsuc, pos, ℤ}
use lib.Signed.{◌≤ℤ◌}
use mathlib.Core.Path.{◌∙◌, ◌≡◌, refl}
use mir.Facts.{to_z-of_z}
use mir.Syntax.{w64}
use mir.Val.{SFits}
use Rattle.std.specs.Int.{int_div_euclid}
use Rattle.integers.specs.Division.{floor_div}
use Rattle.sums.proofs.floor_div.Goals as goal

-- by a positive number the library divides rounding down
rounded : (c d : ℤ) → pos 1 ≤ℤ d → int_div_euclid c d ≡ floor_div c (nat_abs d)
rounded (pos a) (pos b) h = refl
rounded (negsuc a) (pos b) h = refl
rounded c (negsuc b) h = absurd h.le

pub returns : goal.returns
returns c =
    let f : SFits w64 c.div_euclid.result = record { sfits = c.div_euclid.type_inv } in
    to_z-of_z f ∙ (rw (to_z-of_z c.ranges.c, to_z-of_z c.ranges.d) at c.div_euclid.ensures) ∙ rounded c.args.c c.args.d c.requires
