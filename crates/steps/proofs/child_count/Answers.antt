use lib.ListN.{length}
use mathlib.Core.Bool.{true}
use mathlib.Core.List.{[], ◌∷◌}
use mathlib.Core.Path.{◌∙◌, ◌≡◌, ap, refl, sym}
use native.Mathlib.Omega.{arith}
use Rattle.format.specs.StepForms.{card, form_for, fits_form, step_of}
use Rattle.format.proofs.Decoded.{at_least}
use Rattle.calculus.specs.Steps.{shape}
use Rattle.steps.specs.declared.Rule.{Rule}
use Rattle.steps.specs.Rules.{rule_named, shape_of}
use Rattle.steps.proofs.Rules.{in_arm}
use Rattle.steps.proofs.Table.{at_most}
use Rattle.steps.proofs.Children.{card_count, c_valid_shape}
use Rattle.steps.proofs.child_count.Goals as goal
use Rattle.steps.proofs.child_count.Goals.{In-Card}

-- Card's form
card-form : (c : In-Card) → fits_form (form_for card) c.args.size ≡ true
card-form c = sym (ap (λ (r : Rule). fits_form (form_for (rule_named r)) c.args.size) c.in-Card.is) ∙ c.requires

pub overflow_sub-size : goal.overflow_sub-size
overflow_sub-size c = let long = at_least (form_for card) c.args.size (card-form c) in omega arith

pub card_children-requires : goal.card_children-requires
card_children-requires c =
    let long = at_least (form_for card) c.args.size (card-form c) in
    let short = at_most (form_for card) c.args.size (card-form c) in (omega arith, omega arith)

pub returns-in-Sum : goal.returns-in-Sum
unfolding shape step_of
returns-in-Sum c =
    let a = c.args in
    λ b body. in_arm (λ (r : Rule). 1 ≡ length (shape_of r a.n b body a.size)) (0 ∷ 5 ∷ 6 ∷ 8 ∷ 12 ∷ []) a.rule
    (refl, (refl, (refl, (refl, (refl, tt))))) c.in-Sum.in-Sum-own.keys1

pub returns-in-Branch : goal.returns-in-Branch
unfolding shape step_of
returns-in-Branch c =
    let a = c.args in
    λ b body. in_arm (λ (r : Rule). 2 ≡ length (shape_of r a.n b body a.size)) (1 ∷ 2 ∷ 7 ∷ 9 ∷ []) a.rule
    (refl, (refl, (refl, (sym (ap length (c_valid_shape b a.n body a.size)), tt)))) c.in-Branch.in-Branch-own.keys2

pub returns-in-CInj : goal.returns-in-CInj
unfolding shape step_of
returns-in-CInj c =
    let a = c.args in
    λ b body. sym (ap (λ (r : Rule). length (shape_of r a.n b body a.size)) c.in-CInj.is)

pub returns-in-Card : goal.returns-in-Card
returns-in-Card c =
    let a = c.args in
    λ b body. c.card_children.ensures
    ∙ sym (card_count b a.n body a.size)
    ∙ sym (ap (λ (r : Rule). length (shape_of r a.n b body a.size)) c.in-Card.is)

pub returns-in-AConf : goal.returns-in-AConf
unfolding shape step_of
returns-in-AConf c =
    let a = c.args in
    λ b body. in_arm (λ (r : Rule). 0 ≡ length (shape_of r a.n b body a.size)) (3 ∷ 4 ∷ 13 ∷ []) a.rule (refl, (refl, (refl, tt))) c.in-AConf.in-AConf-own.keys5
