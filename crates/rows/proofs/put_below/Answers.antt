use Prim.Native.Nat.{◌*◌, ◌+◌, ◌≤◌}
use lib.IntN.{◌*ℤ◌, ◌+ℤ◌, nat_abs, negsuc, pos, ℤ}
use lib.ListN.{get_or}
use mathlib.Core.Path.{◌∙◌, ap, sym}
use native.Mathlib.Omega.{arith}
use Rattle.rows.proofs.Branches.{before_set, branch_stated, length_row, row_number, row_set}
use Rattle.rows.proofs.Forms.{below_fact}
use Rattle.rows.proofs.Small.{row_small, under_fits, under_is}
use Rattle.rows.specs.Rows.{fact_of, row_at}
use Rattle.rows.proofs.put_below.Goals as goal
use Rattle.rows.proofs.put_below.Goals.{Start}

-- the constant of e
module _ (c : Start) where
  abbrev z : ℤ
  z = get_or c.args.work.now (50 * c.args.earlier + 1) (pos 0)

  small : nat_abs z ≤ 1000000000
  small = row_small c.args.work.now c.args.earlier 1 c.requires.earlier_value (omega arith) (omega arith)

pub overflow_sub-work : goal.overflow_sub-work
overflow_sub-work c = under_fits (z (goal.at.overflow_sub-work c).Start) 1000000000 (small (goal.at.overflow_sub-work c).Start) (omega arith)

pub returns : goal.returns
returns c =
    let a = c.args in
    let first = a.work.now in
    let copied = c.copy_negative.new.work in
    let e = c.copy_negative.ensures in
    branch_stated first _ a.k _ (before_set first copied a.k 1 _ e.before)
    (ap fact_of (row_set copied _ a.k 1 _ (omega arith) e.row)
    ∙ below_fact (row_at first a.earlier) _ (length_row first a.earlier (omega arith))
    (under_is (z (goal.at.returns c).Start) 1000000000 (small (goal.at.returns c).Start) (omega arith)
    ∙ ap (λ (y : ℤ). (negsuc 0 *ℤ y) +ℤ negsuc 0) (sym (row_number first a.earlier 1 (omega arith)))))
