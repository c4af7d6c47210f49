use mathlib.Core.Path.{ap}
use Prim.Native.Nat.{ℕ}
use native.Mathlib.Omega.{arith}
use lib.Dec.{leb}
use Rattle.format.proofs.Fields.{signed_low, signed_high}
use Rattle.records.proofs.bits_within.Goals as goal

pub returns-then-v-lt2147483648 : goal.returns-then-v-lt2147483648
returns-then-v-lt2147483648 c = rw (signed_low c.args.v c.if-v-lt2147483648.true)

pub returns-else-v-lt2147483648 : goal.returns-else-v-lt2147483648
returns-else-v-lt2147483648 c = rw (signed_high c.args.v c.if-v-lt2147483648.false) (ap (λ (k : ℕ). leb k c.args.limit) (omega arith))
