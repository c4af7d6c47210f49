use Prim.Native.Nat.{ℕ}
use lib.IntN.{ℤ}
use mathlib.Core.Path.{◌∙◌, ap₂}
use mir.Facts.{to_z-of_z}
use mir.Syntax.{w64}
use native.Mathlib.Omega.{arith}
use Rattle.calculus.specs.Facts.{holds}
use Rattle.format.specs.Question.{relation_of}
use Rattle.judging.proofs.arithmetic_met.Goals as goal

pub u16_at-requires : goal.u16_at-requires
u16_at-requires c = omega (arith, c.requires.1.there)

pub overflow_add-at : goal.overflow_add-at
overflow_add-at c = omega (arith, c.requires.1.there)

pub returns : goal.returns
returns c =
    let s = c.args in
    c.relation_holds.ensures
    ∙ ap₂ (λ (k : ℕ) (z : ℤ). holds (relation_of k) z) c.u16_at.ensures.0
    (to_z-of_z {w = w64} (record { sfits = c.form_value.type_inv }) ∙ c.form_value.ensures)
