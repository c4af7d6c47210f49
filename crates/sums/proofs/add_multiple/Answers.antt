use Prim.Native.Nat.{◌≤◌}
use lib.IntN.{◌*ℤ◌, ◌+ℤ◌, nat_abs, pos, ℤ}
use lib.ListN.{get_or, length, length-set}
use Rattle.std.proofs.Common.{rules}
use mathlib.Core.Path.{◌∙◌, ◌≡◌, ap, refl, subst, sym}
use mir.Facts.{to_z-of_z}
use mir.Syntax.{w64}
use mir.Val.{SFits, of_z, to_z}
use native.Mathlib.Omega.{arith}
use Rattle.lists.proofs.Filled.{filled_all, filled_more, kept_at, kept_more}
use Rattle.rows.proofs.Small.{behind_tag, small_fits}
use Rattle.rows.proofs.Values.{product_fits, step_fits, step_is}
use Rattle.sums.proofs.Totals.{added_first, added_number, length_added}
use Rattle.sums.specs.Sums.{added}
use Rattle.sums.proofs.add_multiple.Goals as goal
use Rattle.sums.proofs.add_multiple.Goals.{In-loop-j}

-- at the step: the sum so far, the multiplier and the number
module _ (c : In-loop-j) where
  abbrev z : ℤ
  z = get_or c.loop-j.sum c.loop-j.j (pos 0)

  abbrev m : ℤ
  m = c.args.multiplier

  abbrev x : ℤ
  x = get_or c.args.row.now c.loop-j.j (pos 0)

  was : z ≡ get_or c.args.sum.now c.loop-j.j (pos 0)
  was =
      kept_at c.loop-j.sum c.args.sum.now c.loop-j.j (pos 0)
      c.loop-j.invariant.2

  hz : nat_abs z ≤ 7000000000000000000
  hz = subst (λ (y : ℤ). nat_abs y ≤ 7000000000000000000) (sym was) (c.requires.within c.loop-j.j)

  hm : nat_abs m ≤ 1000000000
  hm = c.requires.multiplier_bound

  hx : nat_abs x ≤ 1000000000
  hx =
      behind_tag c.args.row.now c.loop-j.j c.requires.row_value
      (omega arith)

  fz : SFits w64 z
  fz = let h = hz in small_fits z (omega arith)

  fx : SFits w64 x
  fx = let h = hx in small_fits x (omega arith)

pub loop-j-init : goal.loop-j-init
loop-j-init c =
    let n : length c.args.sum.now ≡ 50 = search rules in
    (n, added_first c.args.sum.now _ c.args.row.now n, refl)

pub overflow_mul-sum : goal.overflow_mul-sum
overflow_mul-sum c =
    let here = (goal.at.overflow_mul-sum c).In-loop-j in product_fits (z here) (m here) (x here) _ _ _ (hz here) (hm here) (hx here) c.ranges.multiplier (fx here) (omega arith)

pub overflow_add-sum : goal.overflow_add-sum
overflow_add-sum c =
    let here = (goal.at.overflow_add-sum c).In-loop-j in
    rw (to_z-of_z (fz here)) (step_fits (z here) (m here) (x here) _ _ _ (hz here) (hm here) (hx here) c.ranges.multiplier (fx here) (omega arith))

pub loop-j-preserved : goal.loop-j-preserved
loop-j-preserved c =
    let here = (goal.at.loop-j-preserved c).In-loop-j in
    let l = c.loop-j in
    let n : length c.args.sum.now ≡ 50 = search rules in
    let k = length_added c.args.sum.now (to_z w64 (of_z w64 c.args.multiplier)) c.args.row.now n (search rules) in
    let new = ap (λ (y : ℤ). to_z w64 (of_z w64 (y +ℤ to_z w64 (of_z w64 (to_z w64 (of_z w64 (m here)) *ℤ to_z w64 (of_z w64 (x here))))))) (to_z-of_z (fz here))
    ∙ step_is (z here) (m here) (x here) _ _ _ (hz here) (hm here) (hx here) c.ranges.multiplier (fx here) (omega arith) in (
      simp length-set l.invariant.0,
      filled_more l.sum _ l.j _ (pos 0) (omega arith) (omega arith) l.invariant.1
          (new
          ∙ ap (λ (y : ℤ). y +ℤ m here *ℤ x here) (was here)
          ∙ ap (λ (y : ℤ). get_or c.args.sum.now l.j (pos 0) +ℤ y *ℤ x here) (sym (to_z-of_z c.ranges.multiplier))
          ∙ sym (added_number c.args.sum.now (to_z w64 (of_z w64 c.args.multiplier)) c.args.row.now l.j n (omega arith))),
      kept_more l.sum c.args.sum.now l.j _ l.invariant.2,
    )

pub returns : goal.returns
returns c =
    let l = c.loop-j in
    let n : length c.args.sum.now ≡ 50 = search rules in
    let k = length_added c.args.sum.now (to_z w64 (of_z w64 c.args.multiplier)) c.args.row.now n (search rules) in
    filled_all l.sum _ l.j (omega arith) (omega arith) l.invariant.1
    ∙ ap (λ (y : ℤ). added c.args.sum.now y c.args.row.now) (to_z-of_z c.ranges.multiplier)
