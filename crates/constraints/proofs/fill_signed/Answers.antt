use lib.IntN.{◌*ℤ◌, pos, ℤ}
use lib.ListN.{set}
use mathlib.Core.List.{List, ◌∷◌}
use mathlib.Core.Path.{◌∙◌, ◌≡◌, ap, ap₂, subst}
use mir.Facts.{to_z-of_z, to_z_pos}
use mir.Syntax.{w64}
use mir.Val.{SFits, of_z, to_z}
use native.Mathlib.Omega.{arith}
use Rattle.std.proofs.Common.{rules}
use Rattle.calculus.specs.LinearForms.{scale, zeros}
use Rattle.constraints.proofs.Filling.{Filling, column_small, coefficient_small, filling_done, filling_more, filling_start}
use Rattle.format.specs.Fields.{pairs_at}
use Rattle.format.specs.Question.{fill_coefficients}
use Rattle.rows.proofs.Values.{product_fits}
use Rattle.constraints.proofs.fill_signed.Goals as goal
use Rattle.constraints.proofs.fill_signed.Goals.{After-from, In-Some}

-- the pair in turn, and those after it
module _ (c : In-Some) where
  abbrev constant : ℤ
  constant = to_z w64 (of_z w64 c.args.constant)

  abbrev sign : ℤ
  sign = to_z w64 (of_z w64 c.args.sign)

  standing : Filling (pairs_at c.args.b.now c.args.at c.args.pairs) (pos c.args.tag) constant sign c.loop-column.row
      ((c.in-Some.column, c.in-Some.coefficient) ∷ c.next.new.self)
  standing = subst (Filling _ _ _ _ c.loop-column.row) c.in-Some.ensures.steps c.loop-column.invariant

-- the coefficient, as it is multiplied
module _ (c : After-from) where
  held : c.from.result ≡ c.in-Some.coefficient
  held = search rules

  read_fits : SFits w64 c.from.result
  read_fits = record { sfits = c.from.type_inv }

  fits : SFits w64 (to_z w64 (of_z w64 c.args.sign) *ℤ to_z w64 (of_z w64 c.from.result))
  fits =
      product_fits (pos 0) c.args.sign c.from.result 0 1 1000000000 (omega arith) c.requires.tag_bound.1
      (rw held (coefficient_small _ _ _ _ _ _ _ (standing (goal.at.After-from c).In-Some))) c.ranges.sign read_fits (omega arith)

  product : to_z w64 (of_z w64 (to_z w64 (of_z w64 c.args.sign) *ℤ to_z w64 (of_z w64 c.from.result)))
      ≡ to_z w64 (of_z w64 c.args.sign) *ℤ c.in-Some.coefficient
  product = to_z-of_z fits ∙ ap (λ (y : ℤ). to_z w64 (of_z w64 c.args.sign) *ℤ y) (to_z-of_z read_fits ∙ held)

pub loop-column-init : goal.loop-column-init
unfolding pairs_at
loop-column-init c =
    let a = c.args in
    let k = to_z w64 (of_z w64 a.constant) in
    let sign = to_z w64 (of_z w64 a.sign) in
    let all = pairs_at a.b.now a.at a.pairs in
    let tag : to_z w64 a.tag ≡ pos a.tag = to_z_pos w64 {n = a.tag} (omega arith) in
    let cleared = ap (λ (l : List ℤ). set (set l 0 (to_z w64 a.tag)) 1 k) c.clear_row.ensures ∙ ap (λ (x : ℤ). x ∷ k ∷ zeros 48) tag in
    let run = c.into_iter-column-iterator.ensures.into_iter_gives ∙ c.fields_at-column-items.ensures in
    rw (cleared, run) (filling_start all (pos a.tag) k sign c.requires.pairs_value)

pub overflow_mul-row : goal.overflow_mul-row
overflow_mul-row c = fits c

pub bounds-row-from : goal.bounds-row-from
bounds-row-from c =
    let e = c.from-in-loop-column.ensures in
    let s = standing (goal.at.bounds-row-from c).In-Some in
    omega (arith, s.long, column_small _ _ _ _ _ _ _ s)

pub loop-column-preserved : goal.loop-column-preserved
loop-column-preserved c =
    let a = c.args in
    let l = c.loop-column in
    let some = (goal.at.loop-column-preserved c).In-Some in
    let column : c.from-in-loop-column.result ≡ c.in-Some.column = c.from-in-loop-column.ensures in
    rw (column, product (goal.at.loop-column-preserved c).After-from)
    (filling_more _ _ _ _ l.row (c.in-Some.column, c.in-Some.coefficient) c.next.new.self (standing some))

pub returns : goal.returns
returns c =
    let a = c.args in
    let l = c.loop-column in
    let all = pairs_at a.b.now a.at a.pairs in
    filling_done all (pos a.tag) _ _ l.row (subst (Filling _ _ _ _ l.row) c.in-None.ensures.steps.0 l.invariant)
    ∙ ap₂ (λ (x y : ℤ). pos a.tag ∷ x ∷ scale y (fill_coefficients (zeros 48) all)) (to_z-of_z c.ranges.constant) (to_z-of_z c.ranges.sign)
