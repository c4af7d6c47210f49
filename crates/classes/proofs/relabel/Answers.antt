use borrow.Author.Tests.{eq-eqb, ne_eqb}
use mathlib.Core.Path.{refl}
use native.Mathlib.Omega.{arith}
use Rattle.lists.proofs.Filled.{changing_more}
use Rattle.classes.proofs.relabel.Goals as goal
use Rattle.classes.proofs.relabel.Goals.{then-label-old, else-label-old}
use Rattle.classes.proofs.relabel.Invariants.{becomes}

pub loop-label-preserved : goal.loop-label-preserved
loop-label-preserved c =
    let l = c.loop-label in
    changing_more 0 (becomes c.args.old c.args.new) c.args.labels l.label-items l.label-index l.invariant _ 0 (omega arith)
    (elim c.if-label-old.branch [
      | then-label-old w ↦ rw (w.label-is, eq-eqb _ _ w.if-label-old.true) refl
      | else-label-old w ↦ rw (w.label-is, ne_eqb _ _ w.if-label-old.false) refl
    ])
