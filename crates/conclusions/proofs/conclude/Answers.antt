use Prim.Native.Nat.{◌+◌, ◌≤◌, ℕ}
use mathlib.Core.List.{[], ◌∷◌}
use mathlib.Core.Path.{◌∙◌, ap, ap₂, refl, sym}
use native.Mathlib.Omega.{arith}
use Rattle.calculus.specs.Rules.{children, literal_children}
use Rattle.calculus.specs.Steps.{SProp, Join}
use Rattle.format.specs.Fields.{u16}
use Rattle.format.specs.StepForms.{sum, s_prop, l_intro, c_collapse, join, function_of, operands_in_range, step_of}
use Rattle.question.specs.Posed.{asked}
use Rattle.rows.specs.Rows.{branch_of}
use Rattle.steps.specs.Rules.{rule_named}
use Rattle.steps.proofs.Concluding.{six_bytes}
use Rattle.steps.proofs.Bodies.{fitting, long, ranged, l_intro_variable, c_collapse_variable, is_rule}
use Rattle.steps.proofs.Offered.{offered_by}
use Rattle.steps.proofs.Rules.{not_one}
use Rattle.conclusions.proofs.Forms.{s_prop_variables}
use Rattle.conclusions.proofs.Labels.{asks}
use Rattle.conclusions.proofs.Tried.{concludes_as}
use Rattle.conclusions.proofs.conclude.Goals as goal

pub u16_at-first-requires : goal.u16_at-first-requires
u16_at-first-requires c =
    let h = c.requires.ready_by in
    let r = rule_named c.args.step.rule in
    omega (arith, h.ready.formed.within, six_bytes r h.concludes, long h.ready r h.named)

pub sum-requires : goal.sum-requires
unfolding operands_in_range
sum-requires c =
    let h = c.requires.ready_by.ready in
    let e = is_rule c.requires.ready_by _ c.in-Sum.is in
    record {
      formed_sum = (h.formed.within, fitting h sum e, ranged h sum e);
      fine = h.fine;
    }

pub u16_at-x-requires : goal.u16_at-x-requires
u16_at-x-requires c =
    let long : 10 ≤ c.args.step.size = long c.requires.ready_by.ready s_prop (is_rule c.requires.ready_by _ c.in-SProp.is) in
    omega (arith, c.requires.ready_by.ready.formed.within)

pub u16_at-y-requires : goal.u16_at-y-requires
u16_at-y-requires c =
    let long : 10 ≤ c.args.step.size = long c.requires.ready_by.ready s_prop (is_rule c.requires.ready_by _ c.in-SProp.is) in
    omega (arith, c.requires.ready_by.ready.formed.within)

pub s_prop-requires : goal.s_prop-requires
s_prop-requires c =
    let h = c.requires.ready_by.ready in
    let few = h.posed.stands in
    let (x, y) = s_prop_variables h (is_rule c.requires.ready_by _ c.in-SProp.is) in record {
      fine = (
        h.fine,
        few.few_strings,
        few.few_integers,
        omega (arith, x, c.u16_at-x.ensures.0),
        omega (arith, y, c.u16_at-y.ensures.0),
      );
      labels_value = c.requires.labelled (asks _ _ c.in-SProp.is refl);
    }

pub of_literal-requires : goal.of_literal-requires
of_literal-requires c =
    let h = c.requires.ready_by.ready in
    let x = (l_intro_variable h (is_rule c.requires.ready_by _ c.in-LIntro.is)).1 in record {
      posed = (h.posed, h.fine, omega (arith, x, c.u16_at-first.ensures.0));
      labels_value = c.requires.labelled (asks _ _ c.in-LIntro.is refl);
    }

pub of_literal-requires-in-CCollapse : goal.of_literal-requires-in-CCollapse
of_literal-requires-in-CCollapse c =
    let h = c.requires.ready_by.ready in
    let x = (c_collapse_variable h (is_rule c.requires.ready_by _ c.in-CCollapse.is)).1 in record {
      posed = (h.posed, h.fine, omega (arith, x, c.u16_at-first.ensures.0));
      labels_value = c.requires.labelled (asks _ _ c.in-CCollapse.is refl);
    }

pub u16_at-requires : goal.u16_at-requires
u16_at-requires c =
    let long : 8 ≤ c.args.step.size = long c.requires.ready_by.ready join (is_rule c.requires.ready_by _ c.in-Join.is) in
    omega (arith, c.requires.ready_by.ready.formed.within)

pub returns-in-Sum : goal.returns-in-Sum
unfolding step_of
returns-in-Sum c =
    let a = c.args in
    let b = a.ticket.now in
    let u = asked b a.s in
    let h = concludes_as _ _
    (sym
    (offered_by b u (branch_of a.work.now a.count) a.step.body a.step.size sum (is_rule c.requires.ready_by _ c.in-Sum.is)))
    (c.sum.ensures u) in
    record { fault = h.fault; added = h.added; fine = h.fine }

pub returns-in-SProp : goal.returns-in-SProp
unfolding step_of asked
returns-in-SProp c =
    let u16-at = c.u16_at-first in
    let a = c.args in
    let b = a.ticket.now in
    let u = asked b a.s in
    let br = branch_of a.work.now a.count in
    let h = concludes_as _ _
    (ap (λ (f : ℕ). children u br (SProp (function_of f) c.u16_at-x.result c.u16_at-y.result))
    u16-at.ensures.0
    ∙ ap₂ (λ (x y : ℕ). children u br (SProp (function_of (u16 b (a.step.body + 4))) x y)) c.u16_at-x.ensures.0
    c.u16_at-y.ensures.0
    ∙ sym (offered_by b u br a.step.body a.step.size s_prop (is_rule c.requires.ready_by _ c.in-SProp.is)))
    (c.s_prop.ensures u refl refl) in
    record { fault = h.fault; added = h.added; fine = h.fine }

pub returns-in-LIntro : goal.returns-in-LIntro
unfolding step_of
returns-in-LIntro c =
    let u16-at = c.u16_at-first in
    let a = c.args in
    let b = a.ticket.now in
    let u = asked b a.s in
    let br = branch_of a.work.now a.count in
    let h = concludes_as _ _
    (ap (λ (x : ℕ). literal_children u br (function_of 0) x) u16-at.ensures.0
    ∙ sym (offered_by b u br a.step.body a.step.size l_intro (is_rule c.requires.ready_by _ c.in-LIntro.is)))
    c.of_literal.ensures in
    record { fault = h.fault; added = h.added; fine = h.fine }

pub returns-in-CCollapse : goal.returns-in-CCollapse
unfolding step_of
returns-in-CCollapse c =
    let u16-at = c.u16_at-first in
    let a = c.args in
    let b = a.ticket.now in
    let u = asked b a.s in
    let br = branch_of a.work.now a.count in
    let h = concludes_as _ _
    (ap (λ (x : ℕ). literal_children u br (function_of 1) x) u16-at.ensures.0
    ∙ sym (offered_by b u br a.step.body a.step.size c_collapse (is_rule c.requires.ready_by _ c.in-CCollapse.is)))
    c.of_literal-in-CCollapse.ensures in
    record { fault = h.fault; added = h.added; fine = h.fine }

pub returns-in-Join : goal.returns-in-Join
unfolding step_of
returns-in-Join c =
    let u16-at = c.u16_at-first in
    let a = c.args in
    let b = a.ticket.now in
    let u = asked b a.s in
    let br = branch_of a.work.now a.count in
    let h = concludes_as _ _
    (ap₂ (λ (j k : ℕ). children u br (Join j k)) u16-at.ensures.0 c.u16_at.ensures.0
    ∙ sym (offered_by b u br a.step.body a.step.size join (is_rule c.requires.ready_by _ c.in-Join.is)))
    (c.join.ensures u) in
    record { fault = h.fault; added = h.added; fine = h.fine }

pub returns-in-AConf : goal.returns-in-AConf
returns-in-AConf c = absurd (not_one (3 ∷ 4 ∷ 13 ∷ []) c.args.step.rule tt c.in-AConf.in-AConf-own.keys6 c.requires.ready_by.concludes)

pub returns-in-Branch : goal.returns-in-Branch
returns-in-Branch c = absurd (not_one (1 ∷ 2 ∷ 7 ∷ 9 ∷ 10 ∷ 11 ∷ []) c.args.step.rule tt c.in-Branch.in-Branch-own.keys7 c.requires.ready_by.concludes)
