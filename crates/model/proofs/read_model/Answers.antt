use Prim.Native.Nat.{ℕ, ◌+◌, ◌*◌, ◌-◌}
use lib.IntN.{ℤ}
use lib.ListN.{length, length-set, set}
use mathlib.Core.List.{List, ◌++◌}
use mathlib.Core.Path.{◌∙◌, ◌≡◌, ap, ap₂, sym}
use mir.Facts.{to_z-of_z}
use mir.Syntax.{w64}
use mir.Val.{of_z, to_z}
use native.Mathlib.Omega.{arith}
use Rattle.calculus.specs.Limits.{column_limit}
use Rattle.calculus.specs.LinearForms.{zeros}
use Rattle.format.specs.Fields.{i32, i32s}
use Rattle.model.proofs.Numbers.{number_more}
use Rattle.model.proofs.read_model.Goals as goal

pub loop-j-init : goal.loop-j-init
unfolding i32s
loop-j-init c = (c.requires.0, ap length c.requires.0)

pub loop-j-preserved : goal.loop-j-preserved
loop-j-preserved c =
    let l = c.loop-j in
    let s = c.args in
    let z : to_z w64 (of_z w64 c.i32_at.result) ≡ i32 s.ticket.now (s.at + 4 * l.j) =
    to_z-of_z {w = w64} (record { sfits = c.i32_at.type_inv }) ∙ c.i32_at.ensures.0 in (
      ap₂ (λ (zs : List ℤ) (x : ℤ). set zs l.j x) l.invariant.0 z ∙ number_more s.ticket.now s.at l.j (omega arith),
      simp length-set l.invariant.1,
    )

pub shape_of-model : goal.shape_of-model
shape_of-model c = c.loop-j.invariant.1 ∙ sym (ap length c.requires.0)

pub returns : goal.returns
returns c =
    let l = c.loop-j in
    let s = c.args in
    let e : l.j ≡ s.columns = omega arith in
    l.invariant.0 ∙ ap (λ (j : ℕ). i32s s.ticket.now s.at j ++ zeros (column_limit - j)) e
