use Prim.Native.Nat.{ℕ, suc}
use borrow.Author.Tests.{lt-leb}
use lib.IntN.{ℤ}
use lib.Dec.{eqb}
use mathlib.Core.List.{List}
use mathlib.Core.Path.{◌∙◌, sym, ap}
use native.Mathlib.Omega.{arith}
use Rattle.rows.specs.Rows.{fact_of}
use Rattle.rows.specs.Work.{tag_of}
use Rattle.splits.proofs.Forms.{parted_beyond, parted_test}
use Rattle.splits.proofs.parts.Goals as goal

pub returns-else-fact-count : goal.returns-else-fact-count
returns-else-fact-count c =
    lt-leb (suc c.args.fact) c.args.count (omega (arith, c.if-fact-count.false))
    ∙ sym (parted_beyond c.args.work.now c.args.count c.args.fact c.if-fact-count.false)

pub returns-then-fact-count : goal.returns-then-fact-count
returns-then-fact-count c =
    ap (λ (n : ℕ). eqb n 2) (c.tag_of.ensures ∙ ap (λ (r : List ℤ). tag_of (fact_of r)) c.row_at.ensures)
    ∙ parted_test c.args.work.now c.args.count c.args.fact (omega arith)
