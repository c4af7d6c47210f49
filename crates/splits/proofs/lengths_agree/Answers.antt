use Prim.Native.Nat.{ℕ, ◌+◌, ◌*◌, ◌-◌, ◌≤◌}
use borrow.Author.Tests.{not-false, not-true}
use mathlib.Core.Path.{◌∙◌, ◌≡◌, sym, ap₂}
use native.Mathlib.Omega.{arith}
use Rattle.calculus.specs.Rules.{states_equal}
use Rattle.format.specs.Fields.{u16}
use Rattle.question.specs.Columns.{column_at}
use Rattle.question.specs.Posed.{numbered}
use Rattle.rows.specs.Rows.{branch_of}
use Rattle.steps.proofs.Variables.{distinct_rest, neighbours_differ, below_first, below_second, below_rest}
use Rattle.splits.proofs.Neighbours.{neighbours_no, neighbours_yes, neighbours_done}
use Rattle.splits.proofs.lengths_agree.Goals as goal
use Rattle.splits.proofs.lengths_agree.Goals.{After-states_equal}

pub column_of-first-requires : goal.column_of-first-requires
column_of-first-requires c =
    let a = c.args in
    let l = c.loop-k in
    let few : a.s.p ≤ 16 = c.requires.others_in_bounds.1 in (
      few,
      c.requires.others_in_bounds.2,
      omega (arith, below_first a.b.now a.s.p (a.at + 2 * l.k) (a.others - l.k + 1) (omega arith) l.invariant.1, c.u16_at.ensures.0),
    )

pub column_of-second-requires : goal.column_of-second-requires
column_of-second-requires c =
    let a = c.args in
    let l = c.loop-k in
    let few : a.s.p ≤ 16 = c.requires.others_in_bounds.1 in (
      few,
      c.requires.others_in_bounds.2,
      omega (arith, below_second a.b.now a.s.p (a.at + 2 * l.k) (a.others - l.k) (omega arith) l.invariant.1, c.u16_at-in-loop-k.ensures.0),
    )

pub states_equal-requires-clause-i_lt_column_limit : goal.states_equal-requires-clause-i_lt_column_limit
unfolding column_at
states_equal-requires-clause-i_lt_column_limit c =
    let a = c.args in
    let l = c.loop-k in
    let x = c.u16_at in
    let y = c.u16_at-in-loop-k in
    let i = c.column_of-first in
    let j = c.column_of-second in
    let ei = i.ensures.0 in
    let ej = j.ensures.0 in (
      i.ensures.1,
      j.ensures.1,
      λ q. neighbours_differ a.b.now (a.at + 2 * l.k) (a.others - l.k) (omega arith) l.invariant.0
          (let e : x.result ≡ y.result = omega arith in sym x.ensures.0 ∙ e ∙ y.ensures.0),
    )

-- the answer by the variables
said : (c : After-states_equal) → let i = c.args.at + 2 * c.loop-k.k in
    let b = c.args.b.now in
    states_equal (branch_of c.args.work.now c.args.count) (c.args.s.q + u16 b i) (c.args.s.q + u16 b (i + 2)) ≡ c.states_equal.result
unfolding column_at
said c =
    let br = branch_of c.args.work.now c.args.count in
    ap₂ (λ (x y : ℕ). states_equal br (c.args.s.q + x) (c.args.s.q + y)) (sym c.u16_at.ensures.0) (sym c.u16_at-in-loop-k.ensures.0)
    ∙ ap₂ (λ (x y : ℕ). states_equal br x y) (sym c.column_of-first.ensures.0) (sym c.column_of-second.ensures.0)
    ∙ sym c.states_equal.ensures

pub returns-then-not-states_equal : goal.returns-then-not-states_equal
returns-then-not-states_equal c =
    let a = c.args in
    let l = c.loop-k in
    sym (neighbours_no (numbered a.s) (branch_of a.work.now a.count) a.b.now (a.at + 2 * l.k) (a.others - l.k) (omega arith)
    (said (goal.at.returns-then-not-states_equal c).After-states_equal ∙ not-true _ c.if-not-states_equal.true-raw))
    ∙ l.invariant.2

pub loop-k-preserved : goal.loop-k-preserved
loop-k-preserved c =
    let a = c.args in
    let l = c.loop-k in
    let place : a.at + 2 * (l.k + 1) ≡ a.at + 2 * l.k + 2 = omega arith in
    let fewer : a.others - (l.k + 1) ≡ a.others - l.k - 1 = omega arith in
    rw (place, fewer) (
      distinct_rest a.b.now (a.at + 2 * l.k) (a.others - l.k) (omega arith) l.invariant.0,
      below_rest a.b.now a.s.p (a.at + 2 * l.k) (a.others - l.k) (omega arith) l.invariant.1,
      sym (neighbours_yes (numbered a.s) (branch_of a.work.now a.count) a.b.now (a.at + 2 * l.k) (a.others - l.k) (omega arith)
          (said (goal.at.loop-k-preserved c).After-states_equal ∙ not-false _ c.if-not-states_equal.false-raw))
          ∙ l.invariant.2,
    )

pub returns : goal.returns
returns c =
    let a = c.args in
    let l = c.loop-k in
    sym (neighbours_done (numbered a.s) (branch_of a.work.now a.count) a.b.now (a.at + 2 * l.k) (a.others - l.k) (omega arith))
    ∙ l.invariant.2
