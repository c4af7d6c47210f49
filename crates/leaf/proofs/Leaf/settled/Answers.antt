use Prim.Native.Nat.{ℕ}
use mathlib.Core.Bool.{Bool, ◌&&◌, not}
use mathlib.Core.List.{List}
use mathlib.Core.Path.{◌∙◌, ◌≡◌, ap, sym}
use Rattle.lists.specs.Lists.{all_below}
use Rattle.calculus.specs.Classes.{conflict, labels}
use Rattle.leaf.proofs.Pairs.{earlier_all}
use Rattle.leaf.proofs.Laws.{conflict_is}
use Rattle.leaf.proofs.Settling.{by_values, settled_is}
use Rattle.question.specs.Posed.{asked}
use Rattle.rows.specs.Rows.{branch_of}
use Rattle.leaf.proofs.Leaf.settled.Goals as goal
use Rattle.leaf.proofs.Leaf.settled.Goals.{After-conflict}

-- S-Conf's test
conflict-test : (c : After-conflict)
    →
    let args = c.args in
    c.conflict.result
    ≡ conflict (asked args.self.now.ticket.now args.self.now.s)
    (branch_of args.work.now args.count)
conflict-test c =
    c.conflict.ensures
    ∙ conflict_is c.args.self.now.ticket.now c.args.self.now.s c.args.self.now.labels.now (branch_of c.args.work.now c.args.count) c.requires.labels_value

pub returns-else-not-conflict : goal.returns-else-not-conflict
returns-else-not-conflict c =
    let s = c.args in
    let u = asked s.self.now.ticket.now s.self.now.s in
    let b = branch_of s.work.now s.count in
    ap not c.if-not-conflict.false ∙ sym (settled_is u b s.self.now.model.now
    ∙ ap (λ (t : Bool). not t && all_below u.p (by_values u (labels b) s.self.now.model.now)) (sym (conflict-test (goal.at.returns-else-not-conflict c).After-conflict) ∙ c.if-not-conflict.false))

pub returns-then-not-conflict : goal.returns-then-not-conflict
unfolding asked
returns-then-not-conflict c =
    let u = asked c.args.self.now.ticket.now c.args.self.now.s in
    let m = c.args.self.now.model.now in
    let b = branch_of c.args.work.now c.args.count in
    c.every_fits.ensures
    ∙ earlier_all u c.args.self.now.labels.now m
    ∙ ap (λ (ls : List ℕ). all_below u.p (by_values u ls m)) c.requires.labels_value
    ∙ sym (settled_is u b m
    ∙ ap (λ (t : Bool). not t && all_below u.p (by_values u (labels b) m)) (sym (conflict-test (goal.at.returns-then-not-conflict c).After-conflict) ∙ c.if-not-conflict.true))
