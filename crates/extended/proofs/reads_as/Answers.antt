use Prim.Native.Nat.{◌+◌, ◌/◌, ℕ}
use lib.IntN.{nat_abs, ℤ}
use mathlib.Core.Bool.{not}
use mathlib.Core.Path.{◌∙◌, ap, ap₂, sym}
use native.Mathlib.Omega.{arith}
use Rattle.calculus.specs.Extended.{numeric, to_int}
use Rattle.calculus.specs.LinearForms.{eqℤ}
use Rattle.extended.proofs.Numerals.{has_value, read_below, read_minus_one, read_value}
use Rattle.integers.proofs.Machine.{below_minus_one, minus_one}
use Rattle.format.specs.Fields.{u32s}
use Rattle.format.specs.Places.{text_at}
use Rattle.integers.proofs.Machine.{not_negative}
use Rattle.extended.proofs.reads_as.Goals as goal

pub returns-then-z-ltminus1 : goal.returns-then-z-ltminus1
returns-then-z-ltminus1 c =
    let t = text_at c.args.v.now c.args.y in
    let w = below_minus_one c.args.z c.ranges.z c.if-z-ltminus1.true in
    sym (ap (λ (z : ℤ). eqℤ z (to_int t)) w.1 ∙ read_below t w.0)

pub returns-then-z-lt0 : goal.returns-then-z-lt0
returns-then-z-lt0 c =
    let t = text_at c.args.v.now c.args.y in
    let w = minus_one c.args.z c.ranges.z c.if-z-ltminus1.false c.if-z-lt0.true in
    ap not c.is_numeric.ensures
    ∙ ap (λ (n : ℕ). not (numeric (u32s c.args.v.now (c.args.y + 6) (n / 4)))) c.u32_at-count.ensures.0
    ∙ sym (ap (λ (z : ℤ). eqℤ z (to_int t)) w ∙ read_minus_one t)

pub overflow_cast-z : goal.overflow_cast-z
overflow_cast-z c =
    let w = not_negative c.args.z c.ranges.z c.if-z-lt0.false in
    rw w.2 (tt, omega (arith, w.1))

pub returns : goal.returns
returns c =
    let t = text_at c.args.v.now c.args.y in
    let w = not_negative c.args.z c.ranges.z c.if-z-lt0.false in
    c.value_is.ensures
    ∙ ap₂ (λ (n k : ℕ). has_value (u32s c.args.v.now (c.args.y + 6) (n / 4)) k) c.u32_at-count.ensures.0 (ap nat_abs w.2)
    ∙ sym (ap (λ (z : ℤ). eqℤ z (to_int t)) w.3 ∙ read_value t w.0)
