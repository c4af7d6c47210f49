use Prim.Native.Nat.{ℕ}
use lib.Dec.{eqb}
use lib.IntN.{◌*ℤ◌, nat_abs, pos, ℤ}
use lib.ListN.{drop, get_or}
use lib.Signed.{quot_z}
use Rattle.std.proofs.Common.{rules}
use mathlib.Core.Path.{◌∙◌, ◌≡◌, ap, ap₂, sym}
use mir.Facts.{to_z-of_z}
use mir.Syntax.{w64}
use mir.Val.{SFits, of_z, to_z}
use native.Mathlib.Omega.{arith}
use Rattle.calculus.specs.Rules.{divides_exactly}
use Rattle.integers.proofs.Machine.{back_fits, div_need}
use Rattle.rows.proofs.Tags.{from_bits}
use Rattle.sums.proofs.Division.{exact_test, exactly_is, exactly_one, positive_is}
use Rattle.sums.proofs.divides_exactly.Goals as goal
use Rattle.sums.proofs.divides_exactly.Goals.{After-c-1}

-- the constant, the divisor, and the quotient times the divisor
module _ (c : After-c-1) where
  abbrev x : ℤ
  x = get_or c.args.row.now 1 (pos 0)

  abbrev n : ℕ
  n = nat_abs c.args.d

  fx : SFits w64 x
  fx = record { sfits = c.c-1.given }

  divisor-is : to_z w64 (of_z w64 c.args.d) ≡ pos n
  divisor-is = to_z-of_z c.ranges.d ∙ (positive_is c.args.d c.requires).0

  fq : SFits w64 (quot_z x (pos n))
  fq = rw (to_z-of_z fx, divisor-is) at (div_need w64 x c.args.d fx c.ranges.d c.requires).1

  back : to_z w64 (of_z w64 (quot_z (to_z w64 (of_z w64 x)) (to_z w64 (of_z w64 c.args.d)))) *ℤ to_z w64 (of_z w64 c.args.d) ≡ quot_z x (pos n) *ℤ pos n
  back = ap₂ ◌*ℤ◌ (ap₂ (λ (a b : ℤ). to_z w64 (of_z w64 (quot_z a b))) (to_z-of_z fx) divisor-is ∙ to_z-of_z fq) divisor-is

pub returns-then-d-eq1 : goal.returns-then-d-eq1
returns-then-d-eq1 c =
    let d : c.args.d ≡ pos 1 = from_bits c.args.d 1 c.ranges.d c.if-d-eq1.true (omega arith) in
    sym (ap (λ (z : ℤ). divides_exactly (nat_abs z) (drop 1 c.args.row.now)) d ∙ exactly_one c.args.row.now (search rules))

pub nonzero_div-q : goal.nonzero_div-q
nonzero_div-q c = div_need w64 (x c) c.args.d (fx c) c.ranges.d c.requires

pub overflow_mul-result : goal.overflow_mul-result
overflow_mul-result c = rw (back c) (back_fits (x c) (n c) (fx c))

pub returns : goal.returns
returns c =
    ap (λ (z : ℤ). eqb (of_z w64 z) (of_z w64 (x c))) (back c)
    ∙ exact_test (x c) (n c) (positive_is c.args.d c.requires).1 (fx c)
    ∙ sym (exactly_is c.args.row.now (n c) (search rules))
