use mir.Syntax.{w64}
use borrow.Author.Tests.{le-leb}
use Prim.Native.Nat.{ℕ}
use lib.IntN.{nat_abs, ℤ}
use lib.ListN.{length}
use mathlib.Core.Path.{◌∙◌, ◌≡◌, ap, sym}
use mir.Facts.{to_z-of_z}
use Rattle.calculus.specs.Facts.{len}
use Rattle.calculus.specs.Model.{model_value}
use Rattle.calculus.specs.SettledTest.{lowest_of_length}
use Rattle.leaf.proofs.Laws.{card_few, card_many, card_roomy}
use Rattle.question.specs.Posed.{numbered}
use Rattle.leaf.specs.Values.{roomy}
use Rattle.leaf.proofs.Leaf.card_fits.Goals as goal
use Rattle.leaf.proofs.Leaf.card_fits.Goals.{After-classes_of-count, After-magnitude-size}

-- the length of x without its sign
size_is : (c : After-magnitude-size)
    → c.magnitude-size.result
    ≡ nat_abs
    (model_value (numbered c.args.self.now.s) c.args.self.now.model.now len c.args.x)
size_is c = c.magnitude-size.ensures ∙ ap nat_abs (to_z-of_z {w = w64} (record { sfits = c.value_of-len.type_inv }) ∙ c.value_of-len.ensures)

-- the classes of the length of x
count_is : (c : After-classes_of-count) →
    let args = c.args in
    c.classes_of-count.result
    ≡ length (lowest_of_length (numbered args.self.now.s) args.self.now.labels.now args.self.now.model.now (model_value (numbered args.self.now.s) args.self.now.model.now len args.x)
    args.self.now.s.p)
count_is c =
    let s = c.args in
    c.classes_of-count.ensures.value
    ∙ ap (λ (z : ℤ). length (lowest_of_length (numbered s.self.now.s) s.self.now.labels.now s.self.now.model.now z s.self.now.s.p))
    (to_z-of_z {w = w64} (record { sfits = c.value_of-len.type_inv }) ∙ c.value_of-len.ensures)

pub returns-then-has_room : goal.returns-then-has_room
returns-then-has_room c =
    let s = c.args in
    sym (card_roomy (numbered s.self.now.s) s.self.now.labels.now s.self.now.model.now s.x
    (ap (λ (k : ℕ). roomy s.self.now.s.n s.self.now.s.p k) (sym (size_is (goal.at.returns-then-has_room c).After-magnitude-size)) ∙ sym c.has_room.ensures ∙ c.if-has_room.true))

pub returns-then-count-le1 : goal.returns-then-count-le1
returns-then-count-le1 c =
    let s = c.args in
    le-leb _ 1 c.if-count-le1.true ∙ sym (card_few (numbered s.self.now.s) s.self.now.labels.now s.self.now.model.now s.x
    c.classes_of-count.result (count_is (goal.at.returns-then-count-le1 c).After-classes_of-count) c.if-count-le1.true)

pub returns-else-count-le1 : goal.returns-else-count-le1
returns-else-count-le1 c =
    let s = c.args in
    let count = c.classes_of-count.result in
    c.has_room-else-count-le1.ensures ∙ ap (λ (k : ℕ). roomy s.self.now.s.n count k) (size_is (goal.at.returns-else-count-le1 c).After-magnitude-size)
    ∙ sym (card_many (numbered s.self.now.s) s.self.now.labels.now s.self.now.model.now s.x count (count_is (goal.at.returns-else-count-le1 c).After-classes_of-count) c.if-count-le1.false)
