use lib.IntN.{pos}
use mathlib.Core.Path.{◌∙◌, ap}
use native.Mathlib.Omega.{arith}
use Rattle.rows.proofs.Branches.{before_set, branch_stated, length_row, row_set}
use Rattle.rows.proofs.Forms.{equation_fact}
use Rattle.rows.specs.Rows.{fact_of, row_at}
use Rattle.rows.proofs.put_equation.Goals as goal

pub returns : goal.returns
returns c =
    let a = c.args in
    let first = a.work.now in
    let copied = c.copy_row.new.work in
    let e = c.copy_row.ensures in
    branch_stated first _ a.k _ (before_set first copied a.k 0 (pos 1) e.before)
    (ap fact_of (row_set copied _ a.k 0 (pos 1) (omega arith) e.row)
    ∙ equation_fact (row_at first a.earlier) (length_row first a.earlier (omega arith)))
