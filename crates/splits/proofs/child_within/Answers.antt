use Prim.Native.Nat.{◌+◌, ◌<◌, ℕ}
use lib.ListN.{drop}
use mathlib.Core.Bool.{true}
use mathlib.Core.List.{List, [], ◌∷◌}
use mathlib.Core.Option.{Option}
use mathlib.Core.Path.{◌∙◌, ◌≡◌, ap, sym}
use native.Mathlib.Omega.{arith}
use Rattle.calculus.specs.Facts.{Fact}
use Rattle.calculus.specs.Children.{child_at, apart_children}
use Rattle.format.specs.Fields.{u16}
use Rattle.format.specs.Checking.{fits, or_none, child_in, facts_within}
use Rattle.rows.specs.Rows.{fact_of, row_at}
use Rattle.rows.specs.Work.{tag_of}
use Rattle.rows.proofs.Small.{fine_at}
use Rattle.steps.proofs.Bodies.{given, is_rule}
use Rattle.steps.proofs.Offered.{step_fits, number_of, child_in_within}
use Rattle.steps.proofs.Rules.{not_several}
use Rattle.splits.proofs.Limits.{others_within}
use Rattle.splits.proofs.Operands.{branch_operands, branch_child, apart_operands, apart_fact, apart_child}
use Rattle.splits.proofs.child_within.Goals as goal
use Rattle.splits.proofs.child_within.Goals.{Start}

-- there is child k, so the step fits
fit : (s : Start) → fits (given s.requires.ready_by.ready) ≡ true
fit s = step_fits (given s.requires.ready_by.ready) s.args.k s.requires.k_value

pub overflow_sub-step : goal.overflow_sub-step
overflow_sub-step c = (branch_operands c.requires.ready_by.ready (is_rule c.requires.ready_by _ c.in-Branch.is)).0

pub branch_within-requires : goal.branch_within-requires
branch_within-requires c =
    let h = c.requires.ready_by.ready in
    let e = is_rule c.requires.ready_by _ c.in-Branch.is in
    let o = branch_operands h e in
    let n = number_of (given h) c.args.k c.requires.k_value _ (branch_child h e) in
    record {
      pairs_in_bounds = (o.1, n.0, n.1);
      pairs_value = o.2;
    }

pub u16_at-requires : goal.u16_at-requires
u16_at-requires c = apart_operands c.requires.ready_by.ready (is_rule c.requires.ready_by _ c.in-Apart.is)

pub apart_within-requires : goal.apart_within-requires
apart_within-requires c =
    let b = c.args.ticket.now in
    let h = c.requires.ready_by.ready in
    let e = is_rule c.requires.ready_by _ c.in-Apart.is in
    let x : c.u16_at.result ≡ u16 b (c.args.step.body + 4) = c.u16_at.ensures.0 in
    let a = apart_fact h (fit (goal.at.apart_within-requires c).Start) e in
    let l : u16 b (c.args.step.body + 4) < c.args.count = a.0 in
    let few = h.fine.few in
    let n = number_of (given h) c.args.k c.requires.k_value _ (apart_child h (fit (goal.at.apart_within-requires c).Start) e) in record {
      fact_lt_fact_limit = (omega arith, h.fine.room, n.0, n.1);
      fact_value = (
        ap (λ (n : ℕ). tag_of (fact_of (row_at c.args.work.now n))) x ∙ a.1,
        fine_at c.args.work.now c.args.count c.u16_at.result h.fine (omega arith),
      );
    }

pub returns-in-Branch : goal.returns-in-Branch
returns-in-Branch c =
    let e = is_rule c.requires.ready_by _ c.in-Branch.is in
    c.branch_within.ensures
    ∙ sym (ap (λ (o : Option (List (List Fact))). facts_within (or_none (child_in o c.args.k))) (branch_child c.requires.ready_by.ready e))

pub returns-in-Apart : goal.returns-in-Apart
returns-in-Apart c =
    let e = is_rule c.requires.ready_by _ c.in-Apart.is in
    c.apart_within.ensures
    ∙ ap (λ (n : ℕ). facts_within (or_none (child_at (apart_children (drop 1 (row_at c.args.work.now n))) c.args.k))) c.u16_at.ensures.0
    ∙ sym (ap (λ (o : Option (List (List Fact))). facts_within (or_none (child_in o c.args.k)))
    (apart_child c.requires.ready_by.ready (fit (goal.at.returns-in-Apart c).Start) e))

pub returns-in-LValid : goal.returns-in-LValid
returns-in-LValid c =
    let h = c.requires.ready_by in
    sym (child_in_within (given h.ready) c.args.k
    (others_within h.ready (fit (goal.at.returns-in-LValid c).Start) c.args.step.rule h.named c.in-LValid.in-LValid-own.keys3))

pub returns-in-Sum : goal.returns-in-Sum
returns-in-Sum c = absurd (not_several (0 ∷ 5 ∷ 6 ∷ 8 ∷ 12 ∷ []) c.args.step.rule tt c.in-Sum.in-Sum-own.keys4 c.requires.ready_by.concludes)

pub returns-in-AConf : goal.returns-in-AConf
returns-in-AConf c = absurd (not_several (3 ∷ 4 ∷ 13 ∷ []) c.args.step.rule tt c.in-AConf.in-AConf-own.keys5 c.requires.ready_by.concludes)
