use Prim.Native.Nat.{◌+◌, ◌/◌, ℕ}
use mathlib.Core.Path.{◌∙◌, ap}
use mir.Facts.{to_z-of_z}
use mir.Syntax.{w64}
use Rattle.calculus.specs.Facts.{code_of}
use Rattle.format.specs.Fields.{u32s}
use Rattle.assignment.proofs.string_code.Goals as goal

pub returns : goal.returns
returns c =
    let s = c.args in
    to_z-of_z {w = w64} (record { sfits = c.text_code.type_inv })
    ∙ c.text_code.ensures.0
    ∙ ap (λ (m : ℕ). code_of (u32s s.v.now (s.at + 6) (m / 4))) c.u32_at.ensures.0
