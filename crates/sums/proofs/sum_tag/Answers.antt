use lib.IntN.{nat_abs, ℤ}
use lib.ListN.{drop}
use mathlib.Core.Bool.{false, true}
use mathlib.Core.Path.{◌∙◌, ◌≡◌, ap, refl, sym}
use mir.Facts.{to_z-of_z}
use mir.Syntax.{w64}
use mir.Val.{of_z, to_z}
use Rattle.calculus.specs.Rules.{divides_exactly}
use Rattle.rows.specs.Work.{tag_of}
use Rattle.sums.proofs.Equations.{tag_by}
use Rattle.sums.proofs.sum_tag.Goals as goal
use Rattle.sums.proofs.sum_tag.Goals.{Start, else-all_equations-via-then-all_equations+else-divides_exactly, else-all_equations-via-else-all_equations}

-- the constant's test, by the divisor as the machine holds it
exact : (c : Start) → divides_exactly (nat_abs (to_z w64 (of_z w64 c.args.d))) (drop 1 c.args.row.now) ≡ divides_exactly (nat_abs c.args.d) (drop 1 c.args.row.now)
exact c = ap (λ (z : ℤ). divides_exactly (nat_abs z) (drop 1 c.args.row.now)) (to_z-of_z c.ranges.d)

pub returns-then-divides_exactly : goal.returns-then-divides_exactly
unfolding tag_of
returns-then-divides_exactly c =
    let d = exact (goal.at.returns-then-divides_exactly c).Start in
    sym (tag_by _ _ _ _ true true (sym c.all_equations.ensures ∙ c.if-all_equations.true) (sym (c.divides_exactly.ensures ∙ d) ∙ c.if-divides_exactly.true))

pub returns-else-all_equations : goal.returns-else-all_equations
unfolding tag_of
returns-else-all_equations c =
    let d = exact (goal.at.returns-else-all_equations c).Start in
    elim c.else-all_equations.branch [
      | else-all_equations-via-then-all_equations+else-divides_exactly w ↦
          sym (tag_by _ _ _ _ true false (sym c.all_equations.ensures ∙ w.if-all_equations.true) (sym (w.divides_exactly.ensures ∙ d) ∙ w.if-divides_exactly.false))
      | else-all_equations-via-else-all_equations w ↦ sym (tag_by _ _ _ _ false _ (sym c.all_equations.ensures ∙ w.if-all_equations.false) refl)
    ]
