use borrow.Author.Tests.{le-leb}
use mathlib.Core.Path.{◌∙◌}
use Rattle.steps.specs.Rules.{shape_of}
use Rattle.trials.proofs.Rooms.{never_pending, pending_room}
use Rattle.trials.proofs.room_to_pend.Goals as goal

pub returns-then-child_count-le1 : goal.returns-then-child_count-le1
returns-then-child_count-le1 c =
    let a = c.args in
    λ b body cs e. le-leb _ 1 c.if-child_count-le1.true
    ∙ never_pending a.pending cs (shape_of a.rule a.n b body a.size) e _ (c.child_count.ensures b body) c.if-child_count-le1.true

pub returns-else-child_count-le1 : goal.returns-else-child_count-le1
returns-else-child_count-le1 c =
    let a = c.args in
    λ b body cs e. pending_room a.pending cs (shape_of a.rule a.n b body a.size) e _ (c.child_count.ensures b body) c.if-child_count-le1.false
