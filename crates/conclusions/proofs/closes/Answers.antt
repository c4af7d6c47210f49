use Prim.Native.Nat.{◌≤◌, ℕ}
use mathlib.Core.List.{[], ◌∷◌}
use mathlib.Core.Path.{◌∙◌, ap, sym}
use native.Mathlib.Omega.{arith}
use Rattle.calculus.specs.Rules.{children}
use Rattle.calculus.specs.Steps.{AConf}
use Rattle.format.specs.StepForms.{a_conf, s_conf, step_of}
use Rattle.question.proofs.Posed.{literal_count}
use Rattle.question.specs.Posed.{asked}
use Rattle.rows.specs.Rows.{branch_of}
use Rattle.steps.proofs.Bodies.{long, not_unknown, is_rule}
use Rattle.steps.proofs.Offered.{offered_by}
use Rattle.steps.proofs.Rules.{not_closing}
use Rattle.conclusions.proofs.closes.Goals as goal

pub u16_at-requires : goal.u16_at-requires
u16_at-requires c =
    let long : 6 ≤ c.args.step.size = long c.requires.ready_by.ready a_conf (is_rule c.requires.ready_by _ c.in-AConf.is) in
    omega (arith, c.requires.ready_by.ready.formed.within)

pub returns-in-AConf : goal.returns-in-AConf
unfolding step_of
returns-in-AConf c =
    let a = c.args in
    let b = a.ticket.now in
    let u = asked b a.s in
    let br = branch_of a.work.now a.count in
    c.a_conf.ensures u
    ∙ ap (λ (k : ℕ). children u br (AConf k)) c.u16_at.ensures.0
    ∙ sym (offered_by b u br a.step.body a.step.size a_conf (is_rule c.requires.ready_by _ c.in-AConf.is))

pub returns-in-SConf : goal.returns-in-SConf
unfolding step_of
returns-in-SConf c =
    let a = c.args in
    let b = a.ticket.now in
    let u = asked b a.s in
    c.s_conf.ensures u (literal_count b a.s)
    ∙ sym (offered_by b u (branch_of a.work.now a.count) a.step.body a.step.size s_conf (is_rule c.requires.ready_by _ c.in-SConf.is))

pub returns-in-Sum : goal.returns-in-Sum
returns-in-Sum c = absurd (not_closing (0 ∷ 5 ∷ 6 ∷ 8 ∷ 12 ∷ []) c.args.step.rule tt c.in-Sum.in-Sum-own.keys3 c.requires.ready_by.concludes)

pub returns-in-Branch : goal.returns-in-Branch
returns-in-Branch c = absurd (not_closing (1 ∷ 2 ∷ 7 ∷ 9 ∷ 10 ∷ 11 ∷ []) c.args.step.rule tt c.in-Branch.in-Branch-own.keys4 c.requires.ready_by.concludes)

pub returns-in-Unknown : goal.returns-in-Unknown
returns-in-Unknown c = absurd (not_unknown c.requires.ready_by.ready (is_rule c.requires.ready_by _ c.in-Unknown.is))
