use lib.IntN.{nat_abs, pos, ℤ}
use lib.ListN.{drop, get_or}
use mathlib.Core.List.{List, ◌∷◌}
use mathlib.Core.Path.{◌∙◌, ◌≡◌, ap, refl, sym}
use mir.Facts.{to_z_pos}
use mir.Syntax.{w64}
use mir.Val.{to_z}
use native.Mathlib.Omega.{arith}
use Rattle.calculus.specs.LinearForms.{floor_div_all}
use Rattle.integers.proofs.Laws.{pos_≤ℤ}
use Rattle.normal.proofs.Laws.{reduced_by, reduced_same}
use Rattle.sums.proofs.Division.{tag_first}
use Rattle.normal.proofs.reduce.Goals as goal
use Rattle.normal.proofs.reduce.Goals.{After-divisor-d}

-- the divisor, as the machine holds it
held : (c : After-divisor-d) → to_z w64 c.divisor-d.result ≡ pos c.divisor-d.result
held c = to_z_pos w64 {n = c.divisor-d.result} (omega (arith, c.divisor-d.ensures.1))

pub divide_form-requires : goal.divide_form-requires
divide_form-requires c =
    let d = c.divisor-d.result in
    (rw (held (goal.at.divide_form-requires c).After-divisor-d) (pos_≤ℤ (omega arith)), c.requires.0)

pub returns-then-d-gt1 : goal.returns-then-d-gt1
returns-then-d-gt1 c =
    let args = c.args in
    let row = args.row.now in
    let d = c.divisor-d.result in
    c.divide_form.ensures
    ∙ ap (λ (e : List ℤ). get_or row 0 (pos 0) ∷ e)
    (ap (λ (z : ℤ). floor_div_all (drop 1 row) (nat_abs z)) (held (goal.at.returns-then-d-gt1 c).After-divisor-d)
    ∙ sym (reduced_by (drop 1 row) d c.divisor-d.ensures.0 (omega arith)))

pub returns-else-d-gt1 : goal.returns-else-d-gt1
returns-else-d-gt1 c =
    let row = c.args.row.now in
    tag_first row _ c.requires.0 refl
    ∙ ap (λ (e : List ℤ). get_or row 0 (pos 0) ∷ e) (sym (reduced_same (drop 1 row) c.divisor-d.result c.divisor-d.ensures.0 c.if-d-gt1.false))
