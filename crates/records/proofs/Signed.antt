-- Laws of the number that has given 32 bits.
use mathlib.Core.Path.{◌≡◌, ◌∙◌, sym, ap}
use Prim.Native.Nat.{ℕ, ◌≤◌, ◌<◌}
use native.Mathlib.Omega.{arith}
use native.Mathlib.Decide.{dec_lt}
use lib.IntN.{ℤ, pos, nat_abs, negsuc}
use lib.Signed.{mag}
use mir.Syntax.{w32}
use mir.Val.{to_z}
use Rattle.integers.proofs.Machine.{to_z_low, to_z_high}
use Rattle.format.specs.Fields.{signed}
use Rattle.format.proofs.Fields.{signed_low, signed_high}

-- the absolute value of a number of 32 bits, whose sign stands apart
pub size_bound : (z : ℤ) → mag z < 2147483648 → nat_abs z ≤ 2147483648
size_bound (pos k) h = omega arith
size_bound (negsuc k) h = omega arith

pub signed_bound : (v : ℕ) → v < 4294967296 → nat_abs (signed v) ≤ 2147483648
signed_bound v h = go (dec_lt v 2147483648)
  where
    go : Dec (v < 2147483648) → nat_abs (signed v) ≤ 2147483648
    go (yes l) = rw (signed_low v l) (omega arith)
    go (no g) = rw (signed_high v (omega arith)) (omega arith)

pub signed_nonzero : (v : ℕ) → v < 4294967296 → (v ≡ 0 → ⊥) → 0 < nat_abs (signed v)
signed_nonzero v h z = go (dec_lt v 2147483648)
  where
    go : Dec (v < 2147483648) → 0 < nat_abs (signed v)
    go (yes l) = rw (signed_low v l) (omega arith)
    go (no g) = rw (signed_high v (omega arith)) (omega arith)

-- a signed number of 32 bits is read off its bits as the format reads it
pub signed_by_bits : (v : ℕ) → v < 4294967296 → to_z w32 v ≡ signed v
signed_by_bits v h = go (dec_lt v 2147483648)
  where
    go : Dec (v < 2147483648) → to_z w32 v ≡ signed v
    go (yes l) = to_z_low w32 v l ∙ sym (signed_low v l)
    go (no g) = to_z_high w32 v (omega arith) ∙ ap negsuc (omega arith) ∙ sym (signed_high v (omega arith))
