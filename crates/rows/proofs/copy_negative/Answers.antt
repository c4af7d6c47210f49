use Prim.Native.Nat.{◌+◌, ◌*◌, ◌<◌, ◌≤◌, ℕ}
use lib.IntN.{◌*ℤ◌, nat_abs, negsuc, pos, ℤ}
use lib.ListN.{drop, get_or, length-set, set, take}
use mathlib.Core.List.{List, ◌∷◌}
use mathlib.Core.Path.{◌∙◌, ◌≡◌, ap, refl, subst, sym}
use native.Mathlib.Omega.{arith}
use Rattle.calculus.specs.LinearForms.{scale}
use Rattle.calculus.specs.Limits.{number_limit}
use Rattle.lists.proofs.Filled.{filled_all, filled_more}
use Rattle.format.specs.Fields.{all_within}
use Rattle.rows.proofs.Branches.{before_at, before_set, length_row, row_before, row_set}
use Rattle.rows.proofs.Forms.{length_negative, negative_number}
use Rattle.rows.proofs.Small.{behind_tag, neg_fits, neg_is}
use Rattle.rows.specs.Rows.{row_at}
use Rattle.rows.proofs.copy_negative.Goals as goal
use Rattle.rows.proofs.copy_negative.Invariants.{negative}
use Rattle.rows.proofs.copy_negative.Goals.{In-loop-j}

-- the work area with the tag of ≥, where the loop begins
module _ (w : List ℤ) (k i : ℕ) (h : i < k) where
  abbrev tagged : List ℤ
  tagged = set w (50 * k + 0) (pos 0)

  kept : row_at tagged i ≡ row_at w i
  kept = row_before tagged w k i h (before_set w w k 0 (pos 0) refl)

-- the number read
module _ (c : In-loop-j) where
  abbrev first : List ℤ
  first = let a = c.args in tagged a.work.now a.k a.earlier c.requires.earlier_lt_k.0

  abbrev z : ℤ
  z = get_or c.loop-j.work (50 * c.args.earlier + c.loop-j.j) (pos 0)

  was : z ≡ get_or (row_at first c.args.earlier) c.loop-j.j (pos 0)
  was =
      let l = c.loop-j in
      let a = c.args in
      before_at first l.work a.k a.earlier l.j c.requires.earlier_lt_k.0 (omega arith) l.invariant.2

  small : nat_abs z ≤ 1000000000
  small =
      let a = c.args in
      let pre = c.requires in
      let w = ap (λ (r : List ℤ). all_within number_limit (drop 1 r)) (kept a.work.now a.k a.earlier pre.earlier_lt_k.0) ∙ pre.earlier_value in
      subst (λ (y : ℤ). nat_abs y ≤ 1000000000) (sym was) (behind_tag (row_at first a.earlier) c.loop-j.j w (omega arith))

pub loop-j-init : goal.loop-j-init
loop-j-init c =
    let a = c.args in
    let w = a.work.now in
    let first = tagged w a.k a.earlier c.requires.earlier_lt_k.0 in
    let n = length_row w a.k (omega arith) in (
      simp length-set c.requires.earlier_lt_k.2,
      refl,
      refl,
      ap (λ (r : List ℤ). take 1 r) (row_set w _ a.k 0 (pos 0) (omega arith) refl)
          ∙ filled_more (row_at w a.k) (negative first a.earlier) 0 (pos 0) (pos 0) (omega arith) (omega arith) refl refl,
    )

pub overflow_sub-work : goal.overflow_sub-work
overflow_sub-work c = let here = (goal.at.overflow_sub-work c).In-loop-j in neg_fits (z here) 1000000000 (small here) (omega arith)

pub loop-j-preserved : goal.loop-j-preserved
loop-j-preserved c =
    let here = (goal.at.loop-j-preserved c).In-loop-j in
    let l = c.loop-j in
    let a = c.args in
    let n = length_row l.work a.k (omega arith) in
    let m = length_negative (row_at (first here) a.earlier) (length_row (first here) a.earlier (omega arith)) in (
      simp length-set l.invariant.0,
      length-set l.work (50 * a.k + l.j) _ ∙ l.invariant.1,
      before_set (first here) l.work a.k l.j _ l.invariant.2,
      ap (λ (r : List ℤ). take (l.j + 1) r) (row_set l.work _ a.k l.j _ (omega arith) refl)
          ∙ filled_more (row_at l.work a.k) (negative (first here) a.earlier) l.j _ (pos 0) (omega arith) (omega arith) l.invariant.3
          (neg_is (z here) 1000000000 (small here) (omega arith)
          ∙ ap (λ (y : ℤ). negsuc 0 *ℤ y) (was here)
          ∙ sym (negative_number (row_at (first here) a.earlier) l.j (omega arith))),
    )

pub shape_of-work : goal.shape_of-work
shape_of-work c = c.loop-j.invariant.1 ∙ length-set c.args.work.now (50 * c.args.k + 0) (pos 0)

pub returns : goal.returns
returns c =
    let l = c.loop-j in
    let a = c.args in
    let w = a.work.now in
    let h = c.requires.earlier_lt_k.0 in
    let first = tagged w a.k a.earlier h in
    let n = length_row l.work a.k (omega arith) in
    let m = length_negative (row_at first a.earlier) (length_row first a.earlier (omega arith)) in record {
      row = filled_all (row_at l.work a.k) (negative first a.earlier) l.j (omega arith) (omega arith) l.invariant.3
          ∙ ap (λ (r : List ℤ). pos 0 ∷ scale (negsuc 0) (drop 1 r)) (kept w a.k a.earlier h);
      before = l.invariant.2 ∙ before_set w w a.k 0 (pos 0) refl;
    }
