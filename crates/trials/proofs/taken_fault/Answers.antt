use Prim.Native.Nat.{◌+◌}
use borrow.Author.Tests.{not-false, not-true, le-leb, lt-leb}
use lib.ListN.{length}
use mathlib.Core.Bool.{true, false}
use mathlib.Core.List.{List}
use mathlib.Core.Option.{Option}
use mathlib.Core.Path.{◌≡◌, sym, ◌∙◌}
use native.Mathlib.Omega.{arith}
use Rattle.calculus.specs.Facts.{Fact}
use Rattle.calculus.specs.Limits.{fact_limit}
use Rattle.format.specs.Checking.{fits, or_none, child_in}
use Rattle.rows.proofs.Branches.{length_branch}
use Rattle.steps.proofs.Bodies.{before, given, its_kind, shape_by}
use Rattle.steps.proofs.Offered.{in_shape, child_size, its_shape}
use Rattle.trials.proofs.Tried.{taken_nine, taken_ten, taken_there}
use Rattle.trials.proofs.taken_fault.Goals as goal
use Rattle.trials.proofs.taken_fault.Goals.{After-child_facts, Start}

-- the child taken
abbrev taken : (s : Start) → Option (List Fact)
taken s = child_in (given s.requires.ready_by.ready) s.args.k

there : (s : Start) → fits (taken s) ≡ true
there s = taken_there s.requires.ready_by.ready s.args.k (its_kind s.requires.ready_by) s.requires.k_value s.requires.count_value

-- the number of facts that it adds
adds : (c : After-child_facts) → c.child_facts.result ≡ length (or_none (taken (goal.at.After-child_facts c).Start))
adds c =
    let shaped = its_shape c.requires.ready_by.ready c.requires.count_value ∙ sym (shape_by c.requires.ready_by c.args.s.n) in
    let (l, h) = in_shape (given c.requires.ready_by.ready) c.args.k (there (goal.at.After-child_facts c).Start) _ shaped in
    c.child_facts.ensures c.args.ticket.now c.args.s.n c.args.step.body c.args.step.size l h
    ∙ child_size (given c.requires.ready_by.ready) c.args.k (there (goal.at.After-child_facts c).Start) _ shaped

pub child_within-requires : goal.child_within-requires
child_within-requires c = record {
  ready_by = c.requires.ready_by;
  k_value = there (goal.at.child_within-requires c).Start;
}

pub returns-then-not-child_within : goal.returns-then-not-child_within
returns-then-not-child_within c =
    taken_nine (before c.requires.ready_by.ready) (taken (goal.at.returns-then-not-child_within c).Start)
    (there (goal.at.returns-then-not-child_within c).Start) (sym c.child_within.ensures ∙ not-true _ c.if-not-child_within.true-raw)

pub overflow_sub-count : goal.overflow_sub-count
overflow_sub-count c = c.requires.ready_by.ready.fine.few

pub returns-then-count-child_facts : goal.returns-then-count-child_facts
returns-then-count-child_facts c =
    let here = (goal.at.returns-then-count-child_facts c).Start in
    let n = length_branch c.args.work.now c.args.count in
    let few = c.requires.ready_by.ready.fine.few in
    taken_ten (before c.requires.ready_by.ready) (taken here) false
    (there here)
    (sym c.child_within.ensures ∙ not-false _ c.if-not-child_within.false-raw)
    (lt-leb (length (before c.requires.ready_by.ready) + length (or_none (taken here))) fact_limit
    (omega (arith, adds (goal.at.returns-then-count-child_facts c).After-child_facts, c.if-count-child_facts.true)))

pub returns : goal.returns
returns c =
    let here = (goal.at.returns c).Start in
    let n = length_branch c.args.work.now c.args.count in
    let few = c.requires.ready_by.ready.fine.few in
    taken_ten (before c.requires.ready_by.ready) (taken here) true (there here)
    (sym c.child_within.ensures ∙ not-false _ c.if-not-child_within.false-raw)
    (le-leb (length (before c.requires.ready_by.ready) + length (or_none (taken here))) fact_limit
    (omega (arith, adds (goal.at.returns c).After-child_facts, c.if-count-child_facts.false)))
