use Prim.Native.Nat.{◌+◌, ◌≤◌}
use mathlib.Core.Bool.{true}
use mathlib.Core.List.{[], ◌∷◌}
use mathlib.Core.Path.{◌∙◌, ◌≡◌, ap, refl, sym}
use native.Mathlib.Omega.{arith}
use Rattle.format.specs.Fields.{u16s}
use Rattle.format.specs.StepForms.{form_for, fits_form, are_variables, operands_in_range}
use Rattle.format.proofs.Decoded.{at_least}
use Rattle.steps.specs.declared.Rule.{Rule}
use Rattle.steps.specs.Rules.{rule_named}
use Rattle.steps.proofs.Rules.{in_arm}
use Rattle.steps.proofs.Loops.{two_variables}
use Rattle.steps.proofs.operands_in_range.Goals as goal
use Rattle.steps.proofs.operands_in_range.Goals.{Start}

-- a body that fits its rule is as long as the rule's form asks
long : (s : Start) (r : Rule) → s.args.rule ≡ r → (form_for (rule_named r)).least ≤ s.args.size
long s r e = at_least (form_for (rule_named r)) s.args.size (sym (ap (λ (q : Rule). fits_form (form_for (rule_named q)) s.args.size) e) ∙ s.requires.1)

-- the ranges by the rule
ranges : (s : Start) (r : Rule)
    → s.args.rule ≡ r
    → operands_in_range s.args.b.now s.args.p s.args.c (rule_named r) s.args.body s.args.size
    ≡ operands_in_range s.args.b.now s.args.p s.args.c (rule_named s.args.rule) s.args.body s.args.size
ranges s r e = sym (ap (λ (q : Rule). operands_in_range s.args.b.now s.args.p s.args.c (rule_named q) s.args.body s.args.size) e)

pub sum_in_range-requires : goal.sum_in_range-requires
sum_in_range-requires c = let l = long (goal.at.sum_in_range-requires c).Start _ c.in-Sum.is in (omega arith, c.requires.0)

pub overflow_sub-size : goal.overflow_sub-size
overflow_sub-size c = let l = long (goal.at.overflow_sub-size c).Start _ c.in-Branch.is in omega arith

pub form_in_range-requires : goal.form_in_range-requires
form_in_range-requires c = let l = long (goal.at.form_in_range-requires c).Start _ c.in-Branch.is in omega (arith, c.requires.0)

pub s_prop_in_range-requires : goal.s_prop_in_range-requires
s_prop_in_range-requires c = let l = long (goal.at.s_prop_in_range-requires c).Start _ c.in-SProp.is in omega (arith, c.requires.0)

pub variables_below-requires : goal.variables_below-requires
variables_below-requires c =
    let six =
    in_arm (λ (r : Rule). 6 ≤ (form_for (rule_named r)).least) (6 ∷ 7 ∷ 8 ∷ 9 ∷ []) c.args.rule
    (omega arith, (omega arith, (omega arith, (omega arith, tt)))) c.in-LIntro.in-LIntro-own.keys5 in
    let l = long (goal.at.variables_below-requires c).Start c.args.rule refl in omega (arith, c.requires.0)

pub variables_below-requires-in-CInj : goal.variables_below-requires-in-CInj
variables_below-requires-in-CInj c = let l = long (goal.at.variables_below-requires-in-CInj c).Start _ c.in-CInj.is in omega (arith, c.requires.0)

pub overflow_sub-size-in-Card : goal.overflow_sub-size-in-Card
overflow_sub-size-in-Card c = let l = long (goal.at.overflow_sub-size-in-Card c).Start _ c.in-Card.is in omega arith

pub variables_below-requires-in-Card : goal.variables_below-requires-in-Card
variables_below-requires-in-Card c = let l = long (goal.at.variables_below-requires-in-Card c).Start _ c.in-Card.is in omega (arith, c.requires.0)

pub returns-in-Sum : goal.returns-in-Sum
returns-in-Sum c = c.sum_in_range.ensures c.args.p c.args.c ∙ ranges (goal.at.returns-in-Sum c).Start _ c.in-Sum.is

pub returns-in-Branch : goal.returns-in-Branch
unfolding operands_in_range
returns-in-Branch c = c.form_in_range.ensures ∙ ranges (goal.at.returns-in-Branch c).Start _ c.in-Branch.is

pub returns-in-Apart : goal.returns-in-Apart
unfolding operands_in_range
returns-in-Apart c =
    let a = c.args in
    in_arm (λ (r : Rule). true ≡ operands_in_range a.b.now a.p a.c (rule_named r) a.body a.size) (2 ∷ 3 ∷ 4 ∷ 12 ∷ []) a.rule
    (refl, (refl, (refl, (refl, tt)))) c.in-Apart.in-Apart-own.keys3

pub returns-in-SProp : goal.returns-in-SProp
returns-in-SProp c =
    c.s_prop_in_range.ensures c.args.c c.args.size ∙ ranges (goal.at.returns-in-SProp c).Start _ c.in-SProp.is

pub returns-in-LIntro : goal.returns-in-LIntro
unfolding operands_in_range u16s
returns-in-LIntro c =
    let a = c.args in
    c.variables_below.ensures
    ∙ in_arm
    (λ (r : Rule). are_variables a.p (u16s a.b.now (a.body + 4) 1) ≡ operands_in_range a.b.now a.p a.c (rule_named r) a.body a.size)
    (6 ∷ 7 ∷ 8 ∷ 9 ∷ []) a.rule (refl, (refl, (refl, (refl, tt)))) c.in-LIntro.in-LIntro-own.keys5

pub returns-in-CInj : goal.returns-in-CInj
unfolding operands_in_range
returns-in-CInj c =
    c.variables_below-in-CInj.ensures
    ∙ ap (are_variables c.args.p) (two_variables c.args.b.now c.args.body 4)
    ∙ ranges (goal.at.returns-in-CInj c).Start _ c.in-CInj.is

pub returns-in-Card : goal.returns-in-Card
unfolding operands_in_range
returns-in-Card c = c.variables_below-in-Card.ensures ∙ ranges (goal.at.returns-in-Card c).Start _ c.in-Card.is

pub returns-in-Unknown : goal.returns-in-Unknown
unfolding operands_in_range
returns-in-Unknown c = ranges (goal.at.returns-in-Unknown c).Start _ c.in-Unknown.is
