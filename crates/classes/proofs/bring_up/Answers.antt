use Prim.Native.Nat.{ℕ}
use lib.IntN.{ℤ}
use mathlib.Core.List.{List}
use mathlib.Core.Path.{◌∙◌, ap, ap₂, sym}
use Rattle.calculus.specs.Classes.{merge_fact, labels}
use Rattle.classes.proofs.Laws.{labels_snoc}
use Rattle.rows.proofs.Branches.{branch_more}
use Rattle.rows.specs.Rows.{branch_of, fact_of, row_at}
use Rattle.classes.proofs.bring_up.Goals as goal

pub loop-k-preserved : goal.loop-k-preserved
loop-k-preserved c =
    let l = c.loop-k in
    let w = c.args.work.now in
    c.merge_row-next.ensures
    ∙ ap₂ (λ (ls : List ℕ) (row : List ℤ). merge_fact ls (fact_of row)) l.invariant c.row_at.ensures
    ∙ sym (ap labels (branch_more w l.k) ∙ labels_snoc (branch_of w l.k) (fact_of (row_at w l.k)))
