use mathlib.Core.Path.{◌∙◌, ap, ap₂}
use Prim.Native.Nat.{◌+◌}
use borrow.Author.Rules.{rules}
use Rattle.calculus.specs.Walk.{working, cut_back}
use Rattle.needs.proofs.Stacks.{cut_none, cut_last, cut_more}
use Rattle.needs.proofs.PendingSplits.take_next.Goals as goal
use Rattle.needs.proofs.PendingSplits.take_next.Goals.{then-split-eq0, else-split-eq0}

pub returns-then-self-eq0 : goal.returns-then-self-eq0
returns-then-self-eq0 c =
    let p = c.self.inside in
    cut_none p.splits p.depth c.if-self-eq0.true ∙ ap (cut_back ◌+◌) c.self.view_is

pub returns : goal.returns
returns c =
    let p = c.self.inside in
    let facts = ap₂ (λ m f. m + f) c.from.ensures c.from-2.ensures in
    let whole = ap (cut_back ◌+◌) c.self.view_is in
    elim c.if-split-eq0.branch [
      | then-split-eq0 w ↦ ap₂ working facts w.self-is ∙ cut_last p.splits p.depth c.if-self-eq0.false w.if-split-eq0.true ∙ whole
      | else-split-eq0 w ↦ ap₂ working facts w.self-is ∙ cut_more p.splits p.depth c.if-self-eq0.false w.if-split-eq0.false (search rules) ∙ whole
    ]
