use lib.IntN.{pos, ℤ}
use lib.Signed.{lt_z, non_neg}
use mathlib.Core.Bool.{◌&&◌, not}
use mathlib.Core.Path.{◌∙◌, ap, sym}
use mir.Facts.{to_z-of_z}
use native.Mathlib.Omega.{arith}
use Rattle.calculus.specs.Facts.{Fact}
use Rattle.calculus.specs.LinearForms.{is_zero}
use Rattle.calculus.specs.Rules.{summand}
use Rattle.format.specs.Checking.{fits}
use Rattle.rows.proofs.Tags.{row_relation}
use Rattle.rows.proofs.Tested.{guard_fits, zero_test}
use Rattle.rows.specs.Rows.{fact_of}
use Rattle.sums.proofs.Totals.{no_summand, positive_test}
use Rattle.sums.proofs.takes.Goals as goal

pub returns-in-0 : goal.returns-in-0
returns-in-0 c =
    let f = row_relation c.args.row.now 0 (sym c.in-0.is ∙ c.tag_of.ensures) (omega arith) in
    ap (λ (z : ℤ). lt_z (pos 0) z) (to_z-of_z c.ranges.multiplier)
    ∙ positive_test c.args.multiplier
    ∙ sym (ap (λ (x : Fact). fits (summand c.args.multiplier x)) f ∙ guard_fits (non_neg c.args.multiplier && not (is_zero c.args.multiplier)) _)

pub returns-in-1 : goal.returns-in-1
returns-in-1 c =
    let f = row_relation c.args.row.now 1 (sym c.in-1.is ∙ c.tag_of.ensures) (omega arith) in
    ap not (zero_test c.args.multiplier c.ranges.multiplier)
    ∙ sym (ap (λ (x : Fact). fits (summand c.args.multiplier x)) f ∙ guard_fits (not (is_zero c.args.multiplier)) _)

pub returns-in_default : goal.returns-in_default
returns-in_default c =
    let f = fact_of c.args.row.now in
    let e = c.tag_of.ensures in
    sym (ap fits (no_summand c.args.multiplier f (λ g. omega (arith, e, g)) (λ g. omega (arith, e, g))))
