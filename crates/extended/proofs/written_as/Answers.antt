use Prim.Native.Nat.{◌+◌, ◌/◌, ℕ}
use lib.Dec.{eqb}
use lib.IntN.{nat_abs, ℤ}
use mathlib.Core.Path.{◌∙◌, ap, ap₂, sym}
use native.Mathlib.Omega.{arith}
use Rattle.calculus.proofs.Extended.{decimal_is}
use Rattle.calculus.specs.Extended.{from_int}
use Rattle.calculus.specs.Strings.{eq_string}
use Rattle.extended.proofs.Numerals.{empty_text, has_value}
use Rattle.format.specs.Fields.{u32s}
use Rattle.format.specs.Places.{text_at}
use Rattle.integers.proofs.Machine.{negative, not_negative}
use Rattle.extended.proofs.written_as.Goals as goal

pub returns-then-z-lt0 : goal.returns-then-z-lt0
returns-then-z-lt0 c =
    let t = text_at c.args.v.now c.args.x in
    let w = negative c.args.z c.ranges.z c.if-z-lt0.true in
    ap (λ (n : ℕ). eqb (n / 4) 0) c.u32_at-count.ensures.0
    ∙ sym (ap (λ (z : ℤ). eq_string t (from_int z)) w.3 ∙ empty_text _ _ _)

pub overflow_cast-z : goal.overflow_cast-z
overflow_cast-z c =
    let w = not_negative c.args.z c.ranges.z c.if-z-lt0.false in
    rw w.2 (tt, omega (arith, w.1))

pub returns : goal.returns
returns c =
    let t = text_at c.args.v.now c.args.x in
    let w = not_negative c.args.z c.ranges.z c.if-z-lt0.false in
    c.value_is.ensures
    ∙ ap₂ (λ (n k : ℕ). has_value (u32s c.args.v.now (c.args.x + 6) (n / 4)) k) c.u32_at-count.ensures.0 (ap nat_abs w.2)
    ∙ sym (ap (λ (z : ℤ). eq_string t (from_int z)) w.3 ∙ decimal_is t w.0)
