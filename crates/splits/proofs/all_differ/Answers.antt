use Prim.Native.Nat.{ℕ, ◌+◌, ◌*◌, ◌-◌}
use mathlib.Core.Path.{◌≡◌, ◌∙◌, sym, ap}
use native.Mathlib.Omega.{arith}
use Rattle.calculus.specs.Rules.{among, distinct}
use Rattle.format.specs.Fields.{u16s}
use Rattle.steps.proofs.Variables.{u16s_done, distinct_no, distinct_yes}
use Rattle.splits.proofs.all_differ.Goals as goal

pub returns-then-occurs : goal.returns-then-occurs
returns-then-occurs c =
    let a = c.args in
    let l = c.loop-k in
    sym (distinct_no a.b.now (a.at + 2 * l.k) (a.count - l.k) (omega arith)
    (ap (λ (y : ℕ). among y (u16s a.b.now (a.at + 2 * l.k + 2) (a.count - l.k - 1))) (sym c.u16_at.ensures.0)
    ∙ sym c.occurs.ensures
    ∙ c.if-occurs.true))
    ∙ l.invariant

pub loop-k-preserved : goal.loop-k-preserved
loop-k-preserved c =
    let a = c.args in
    let l = c.loop-k in
    let place : a.at + 2 * (l.k + 1) ≡ a.at + 2 * l.k + 2 = omega arith in
    let fewer : a.count - (l.k + 1) ≡ a.count - l.k - 1 = omega arith in
    rw (place, fewer) (sym (distinct_yes a.b.now (a.at + 2 * l.k) (a.count - l.k) (omega arith)
    (ap (λ (y : ℕ). among y (u16s a.b.now (a.at + 2 * l.k + 2) (a.count - l.k - 1))) (sym c.u16_at.ensures.0)
    ∙ sym c.occurs.ensures
    ∙ c.if-occurs.false))
    ∙ l.invariant)

pub returns : goal.returns
returns c =
    let a = c.args in
    let l = c.loop-k in
    sym (ap distinct (u16s_done a.b.now (a.at + 2 * l.k) (a.count - l.k) (omega arith))) ∙ l.invariant
