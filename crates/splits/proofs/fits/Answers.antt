use Prim.Native.Nat.{◌+◌, ◌-◌, ◌/◌, ℕ}
use lib.Dec.{eqb}
use lib.ListN.{get_elem?}
use mathlib.Core.Bool.{not, true}
use mathlib.Core.List.{[], ◌∷◌}
use mathlib.Core.Logic.{inl, inr}
use mathlib.Core.Path.{◌≡◌, ◌∙◌, ap, ap₂, refl, sym}
use native.Mathlib.Omega.{arith}
use Rattle.calculus.specs.Children.{c_inj_children}
use Rattle.calculus.specs.Rules.{children, then, apart_of}
use Rattle.format.specs.Fields.{u16, u16s}
use Rattle.format.specs.StepForms as format
use Rattle.format.specs.StepForms.{rule, branch, apart, l_valid, c_valid, c_inj, card, step_of}
use Rattle.format.specs.Checking.{fits}
use Rattle.question.specs.Posed.{asked, numbered}
use Rattle.rows.specs.Rows.{branch_of}
use Rattle.rows.proofs.Tested.{guard_fits}
use Rattle.steps.proofs.Bodies.{is_rule}
use Rattle.steps.specs.Offered.{offered}
use Rattle.steps.proofs.Offered.{offered_by}
use Rattle.steps.proofs.Rules.{not_several}
use Rattle.steps.proofs.Variables.{card_operands}
use Rattle.splits.proofs.Operands.{card_same, apart_operands, c_inj_operands}
use Rattle.splits.proofs.fits.Goals as goal

pub u16_at-requires : goal.u16_at-requires
u16_at-requires c = apart_operands c.requires.ready (is_rule c.requires _ c.in-Apart.is)

pub parts-requires : goal.parts-requires
parts-requires c = let fine = c.requires.ready.fine in (fine.few, fine.room)

pub u16_at-requires-in-CInj : goal.u16_at-requires-in-CInj
u16_at-requires-in-CInj c =
    let o = c_inj_operands c.requires.ready (is_rule c.requires _ c.in-CInj.is) in omega (arith, o.0)

pub u16_at-requires-in-CInj-2 : goal.u16_at-requires-in-CInj-2
u16_at-requires-in-CInj-2 c = (c_inj_operands c.requires.ready (is_rule c.requires _ c.in-CInj.is)).0

pub overflow_sub-step : goal.overflow_sub-step
overflow_sub-step c = (card_operands c.requires.ready (is_rule c.requires _ c.in-Card.is)).4

pub card_fits-requires : goal.card_fits-requires
card_fits-requires c =
    let h = c.requires.ready in
    let o = card_operands h (is_rule c.requires _ c.in-Card.is) in
    record {
      le_m = (o.0, o.2, h.posed.stands.few_strings, h.posed.stands.few_integers);
      m_value = o.3;
      count_le_fact_limit = (h.fine.few, h.fine.room);
    }

pub returns-in-Branch : goal.returns-in-Branch
unfolding step_of
returns-in-Branch c =
    let a = c.args in
    let b = a.ticket.now in
    let always : (r : format.Rule) → r ≡ rule b a.step.body → fits (children (asked b a.s) (branch_of a.work.now a.count) (step_of b r a.step.body a.step.size)) ≡ true
    → true ≡ fits (offered b (asked b a.s) (branch_of a.work.now a.count) a.step.body a.step.size) =
    λ r e t. sym (ap fits (offered_by b (asked b a.s) (branch_of a.work.now a.count) a.step.body a.step.size r e) ∙ t) in
    elim c.in-Branch.is [
      | inl e ↦ always branch (is_rule c.requires _ e) refl
      | inr (inl e) ↦ always l_valid (is_rule c.requires _ e) refl
      | inr (inr e) ↦ always c_valid (is_rule c.requires _ e) refl
    ]

pub returns-in-Apart : goal.returns-in-Apart
unfolding step_of
returns-in-Apart c =
    let a = c.args in
    let b = a.ticket.now in
    let br = branch_of a.work.now a.count in
    c.parts.ensures ∙ ap (λ (n : ℕ). fits (then (get_elem? br n) apart_of)) c.u16_at.ensures.0
    ∙ sym (ap fits (offered_by b (asked b a.s) br a.step.body a.step.size apart (is_rule c.requires _ c.in-Apart.is)))

pub returns-in-CInj : goal.returns-in-CInj
unfolding step_of asked
returns-in-CInj c =
    let a = c.args in
    let b = a.ticket.now in
    let x = u16 b (a.step.body + 4) in
    let y = u16 b (a.step.body + 6) in
    ap₂ (λ (x y : ℕ). not (eqb x y)) c.u16_at-in-CInj.ensures.0 c.u16_at-in-CInj-2.ensures.0
    ∙ sym (guard_fits (not (eqb x y)) (c_inj_children (numbered a.s) x y))
    ∙ sym (ap fits (offered_by b (asked b a.s) (branch_of a.work.now a.count) a.step.body a.step.size c_inj
    (is_rule c.requires _ c.in-CInj.is)))

pub returns-in-Card : goal.returns-in-Card
unfolding step_of
returns-in-Card c =
    let a = c.args in
    let b = a.ticket.now in
    let br = branch_of a.work.now a.count in
    c.card_fits.ensures ∙ ap fits (card_same b a.s br (u16s b (a.step.body + 4) ((a.step.size - 4) / 2)))
    ∙ sym (ap fits (offered_by b (asked b a.s) br a.step.body a.step.size card (is_rule c.requires _ c.in-Card.is)))

pub returns-in-Sum : goal.returns-in-Sum
returns-in-Sum c = absurd (not_several (0 ∷ 5 ∷ 6 ∷ 8 ∷ 12 ∷ []) c.args.step.rule tt c.in-Sum.in-Sum-own.keys5 c.requires.concludes)

pub returns-in-AConf : goal.returns-in-AConf
returns-in-AConf c = absurd (not_several (3 ∷ 4 ∷ 13 ∷ []) c.args.step.rule tt c.in-AConf.in-AConf-own.keys6 c.requires.concludes)
