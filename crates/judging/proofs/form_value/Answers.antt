use Prim.Native.Nat.{ℕ, ◌+◌}
use lib.IntN.{◌*ℤ◌, ◌+ℤ◌, pos, ℤ}
use lib.ListN.{get_or}
use mathlib.Core.List.{◌∷◌}
use mathlib.Core.Path.{◌∙◌, ◌≡◌, ap, subst, sym}
use mir.Facts.{to_z-of_z}
use mir.Syntax.{w64}
use mir.Val.{SFits, of_z, to_z}
use native.Mathlib.Omega.{arith}
use Rattle.format.specs.Fields.{pairs_at}
use Rattle.integers.proofs.Laws.{sfits_abs}
use Rattle.judging.proofs.Summing.{Summing, begin, coefficient_fits, column_there, ended, one_more, product_is, sum_fits, term_fits}
use Rattle.judging.proofs.form_value.Goals as goal
use Rattle.judging.proofs.form_value.Goals.{After-from-in-loop-column}

pub loop-column-init : goal.loop-column-init
unfolding pairs_at
loop-column-init c =
    let e = c.into_iter-column-iterator.ensures.into_iter_gives ∙ c.fields_at-column-items.ensures in
    rw e (subst (λ (z : ℤ). Summing c.args.b.now c.args.at c.args.count c.args.values.now z (pairs_at c.args.b.now (c.args.at + 4) c.args.count))
    (sym (to_z-of_z {w = w64} (record { sfits = c.i32_at-sum.type_inv }) ∙ c.i32_at-sum.ensures.0))
    (begin c.args.b.now c.args.at c.args.count c.args.values.now c.requires))

-- the pair in turn and those after it
module _ (c : After-from-in-loop-column) where
  here : Summing c.args.b.now c.args.at c.args.count c.args.values.now (to_z w64 c.loop-column.sum-bits)
      ((c.in-Some.column, c.in-Some.coefficient) ∷ c.next.new.self)
  here = rw c.in-Some.ensures.steps at c.loop-column.invariant

  abbrev added : ℤ
  added = c.in-Some.coefficient *ℤ get_or c.args.values.now c.in-Some.column (pos 0)

  -- the term that is added
  term : to_z w64 (of_z w64 c.from.result) *ℤ to_z w64 (of_z w64 (get_or c.args.values.now c.from-in-loop-column.result (pos 0))) ≡ added
  term =
      product_is c.from.result (get_or c.args.values.now c.from-in-loop-column.result (pos 0)) (record { sfits = c.from.type_inv })
      (sfits_abs _ (omega (arith, c.requires.small c.from-in-loop-column.result)))
      (c.from.ensures
      ∙ to_z-of_z (coefficient_fits c.args.b.now c.args.at c.args.count c.args.values.now c.requires (to_z w64 c.loop-column.sum-bits)
      (c.in-Some.column, c.in-Some.coefficient) c.next.new.self here))
      (ap (λ (j : ℕ). get_or c.args.values.now j (pos 0)) c.from-in-loop-column.ensures)

  product_fits : SFits w64 (to_z w64 (of_z w64 c.from.result) *ℤ to_z w64 (of_z w64 (get_or c.args.values.now c.from-in-loop-column.result (pos 0))))
  product_fits =
      subst (λ (z : ℤ). SFits w64 z) (sym term)
      (term_fits c.args.b.now c.args.at c.args.count c.args.values.now c.requires (to_z w64 c.loop-column.sum-bits)
      (c.in-Some.column, c.in-Some.coefficient) c.next.new.self here)

  -- and the sum with it
  total : to_z w64 c.loop-column.sum-bits
      +ℤ to_z w64 (of_z w64 (to_z w64 (of_z w64 c.from.result) *ℤ to_z w64 (of_z w64 (get_or c.args.values.now c.from-in-loop-column.result (pos 0)))))
      ≡ to_z w64 c.loop-column.sum-bits +ℤ added
  total = ap (λ (z : ℤ). to_z w64 c.loop-column.sum-bits +ℤ z) (to_z-of_z product_fits ∙ term)

  total_fits : SFits w64 (to_z w64 c.loop-column.sum-bits
      +ℤ to_z w64 (of_z w64 (to_z w64 (of_z w64 c.from.result) *ℤ to_z w64 (of_z w64 (get_or c.args.values.now c.from-in-loop-column.result (pos 0))))))
  total_fits =
      subst (λ (z : ℤ). SFits w64 z) (sym total)
      (sum_fits c.args.b.now c.args.at c.args.count c.args.values.now c.requires (to_z w64 c.loop-column.sum-bits) (c.in-Some.column, c.in-Some.coefficient)
      c.next.new.self here)

pub bounds-values-from : goal.bounds-values-from
bounds-values-from c =
    rw c.from-in-loop-column.ensures (column_there c.args.b.now c.args.at c.args.count c.args.values.now c.requires (to_z w64 c.loop-column.sum-bits)
    (c.in-Some.column, c.in-Some.coefficient) c.next.new.self (here c))

pub overflow_mul-sum : goal.overflow_mul-sum
overflow_mul-sum c = product_fits (goal.at.overflow_mul-sum c).After-from-in-loop-column

pub overflow_add-sum : goal.overflow_add-sum
overflow_add-sum c = total_fits (goal.at.overflow_add-sum c).After-from-in-loop-column

pub loop-column-preserved : goal.loop-column-preserved
loop-column-preserved c =
    subst (λ (z : ℤ). Summing c.args.b.now c.args.at c.args.count c.args.values.now z c.next.new.self)
    (sym
    (to_z-of_z (total_fits (goal.at.loop-column-preserved c).After-from-in-loop-column) ∙ total (goal.at.loop-column-preserved c).After-from-in-loop-column))
    (one_more c.args.b.now c.args.at c.args.count c.args.values.now c.requires (to_z w64 c.loop-column.sum-bits) (c.in-Some.column, c.in-Some.coefficient)
    c.next.new.self (here (goal.at.loop-column-preserved c).After-from-in-loop-column))

pub returns : goal.returns
returns c =
    ended c.args.b.now c.args.at c.args.count
    c.args.values.now (rw c.in-None.ensures.steps.0 at c.loop-column.invariant)
