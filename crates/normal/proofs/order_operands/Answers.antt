use Prim.Native.Nat.{◌-◌, ◌<◌}
use mathlib.Core.Path.{◌∙◌, ◌≡◌, ap, ap₂, sym}
use mir.Facts.{to_z_pos}
use mir.Syntax.{w64}
use native.Mathlib.Omega.{arith}
use Rattle.calculus.specs.Limits.{variable_limit}
use Rattle.calculus.specs.NormalForms.{normal}
use Rattle.format.specs.Question.{string_fact}
use Rattle.normal.proofs.Laws.{lower_first, lower_second, operands_put, row_alone}
use Rattle.rows.proofs.Tags.{row_string}
use Rattle.rows.specs.Rows.{fact_of}
use Rattle.normal.proofs.order_operands.Goals as goal
use Rattle.normal.proofs.order_operands.Goals.{After-variable_at-y}

-- the operands that were read
module _ (c : After-variable_at-y) where
  low : (c.variable_at-x.result < variable_limit) × (c.variable_at-y.result < variable_limit)
  low = (c.variable_at-x.ensures.upper_bound, c.variable_at-y.ensures.upper_bound)

  stated : fact_of c.args.row.now ≡ string_fact (c.args.tag - 3) c.variable_at-x.result c.variable_at-y.result
  stated =
      let first = row_alone c.args.row.now c.row_at.result.now c.requires.0 c.row_at.ensures in
      let second = row_alone c.args.row.now c.row_at-2.result.now c.requires.0 c.row_at-2.ensures in
      row_string c.args.row.now c.args.tag c.requires.1 c.requires.2
      ∙ ap₂ (string_fact (c.args.tag - 3)) (sym (rw first at c.variable_at-x.ensures.value)) (sym (rw second at c.variable_at-y.ensures.value))

pub returns-then-y-x : goal.returns-then-y-x
returns-then-y-x c =
    let x = c.variable_at-x.result in
    let y = c.variable_at-y.result in
    let (hx, hy) = low (goal.at.returns-then-y-x c).After-variable_at-y in
    rw (to_z_pos w64 {n = x} (omega arith), to_z_pos w64 {n = y} (omega arith))
    (operands_put c.args.row.now c.args.tag y x c.requires.0 c.requires.1 c.requires.2 hy hx
    ∙ sym (ap normal (stated (goal.at.returns-then-y-x c).After-variable_at-y) ∙ lower_second (c.args.tag - 3) x y (omega arith) c.if-y-x.true))

pub returns-else-y-x : goal.returns-else-y-x
returns-else-y-x c =
    let x = c.variable_at-x.result in
    let y = c.variable_at-y.result in
    stated (goal.at.returns-else-y-x c).After-variable_at-y ∙ sym (ap normal (stated (goal.at.returns-else-y-x c).After-variable_at-y) ∙ lower_first (c.args.tag - 3) x y (omega arith) c.if-y-x.false)
