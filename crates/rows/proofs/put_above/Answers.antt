use Prim.Native.Nat.{◌*◌, ◌+◌, ◌≤◌}
use lib.IntN.{◌+ℤ◌, nat_abs, negsuc, pos, ℤ}
use lib.ListN.{get_or, length-set, set}
use mathlib.Core.Path.{◌∙◌, ap, sym}
use native.Mathlib.Omega.{arith}
use Rattle.rows.proofs.Branches.{before_set, branch_stated, length_row, row_number, row_set}
use Rattle.rows.proofs.Forms.{above_fact}
use Rattle.rows.proofs.Small.{above_fits, above_is, row_small}
use Rattle.rows.specs.Rows.{fact_of, row_at}
use Rattle.rows.proofs.put_above.Goals as goal
use Rattle.rows.proofs.put_above.Goals.{Start}

-- the constant of e
module _ (c : Start) where
  abbrev z : ℤ
  z = get_or c.args.work.now (50 * c.args.earlier + 1) (pos 0)

  small : nat_abs z ≤ 1000000000
  small = row_small c.args.work.now c.args.earlier 1 c.requires.earlier_value (omega arith) (omega arith)

pub overflow_sub-work : goal.overflow_sub-work
overflow_sub-work c = above_fits (z (goal.at.overflow_sub-work c).Start) 1000000000 (small (goal.at.overflow_sub-work c).Start) (omega arith)

pub bounds-work-k-2 : goal.bounds-work-k-2
bounds-work-k-2 c = simp length-set (omega arith)

pub returns : goal.returns
returns c =
    let a = c.args in
    let first = a.work.now in
    let copied = c.copy_row.new.work in
    let e = c.copy_row.ensures in
    let tagged = set copied (50 * a.k + 0) (pos 0) in
    branch_stated first _ a.k _ (before_set first tagged a.k 1 _ (before_set first copied a.k 0 (pos 0) e.before))
    (ap fact_of (row_set tagged _ a.k 1 _ (omega arith) (row_set copied _ a.k 0 (pos 0) (omega arith) e.row))
    ∙ above_fact (row_at first a.earlier) _ (length_row first a.earlier (omega arith))
    (above_is (z (goal.at.returns c).Start) 1000000000 (small (goal.at.returns c).Start) (omega arith) ∙ ap (λ (y : ℤ). y +ℤ negsuc 0) (sym (row_number first a.earlier 1 (omega arith)))))
