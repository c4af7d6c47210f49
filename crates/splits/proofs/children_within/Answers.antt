use mathlib.Core.Bool.{Bool, ◌&&◌, true}
use mathlib.Core.List.{List, [], ◌∷◌}
use mathlib.Core.Option.{Option, some}
use mathlib.Core.Path.{◌∙◌, ◌≡◌, ap, refl, subst, sym}
use Rattle.calculus.specs.Facts.{Fact}
use Rattle.format.specs.Checking.{fits, or_none, child_in, facts_within}
use Rattle.steps.proofs.Bodies.{given}
use Rattle.steps.proofs.Rules.{not_several}
use Rattle.splits.proofs.Limits as limits
use Rattle.splits.proofs.children_within.Goals as goal
use Rattle.splits.proofs.children_within.Goals.{In-Branch}

-- Branch and Apart have two children
two : (c : In-Branch) → (x : List Fact) × (y : List Fact) × (given c.requires.ready_by.ready ≡ some (x ∷ y ∷ []))
two c = limits.two_children c.requires.ready_by.ready c.requires.count_value c.args.step.rule c.requires.ready_by.named c.in-Branch.is

pub child_within-requires : goal.child_within-requires
child_within-requires c =
    record {
      ready_by = c.requires.ready_by;
      k_value = subst (λ (o : Option (List (List Fact))). fits (child_in o 1) ≡ true) (sym (two c).2) refl;
    }

pub returns-else-child_within : goal.returns-else-child_within
returns-else-child_within c =
    let g = given c.requires.ready_by.ready in
    let t = two (goal.at.returns-else-child_within c).In-Branch in
    c.if-child_within.false
    ∙ sym (limits.two_within g t.0 t.1 t.2
    ∙ ap (λ (x : Bool). x && facts_within (or_none (child_in g 2))) (sym c.child_within.ensures ∙ c.if-child_within.false))

pub child_within-requires-then-child_within : goal.child_within-requires-then-child_within
child_within-requires-then-child_within c =
    record {
      ready_by = c.requires.ready_by;
      k_value =
          subst (λ (o : Option (List (List Fact))). fits (child_in o 2) ≡ true) (sym (two (goal.at.child_within-requires-then-child_within c).In-Branch).2)
          refl;
    }

pub returns-then-child_within : goal.returns-then-child_within
returns-then-child_within c =
    let g = given c.requires.ready_by.ready in
    let t = two (goal.at.returns-then-child_within c).In-Branch in
    c.child_within-then-child_within.ensures
    ∙ sym (limits.two_within g t.0 t.1 t.2
    ∙ ap (λ (x : Bool). x && facts_within (or_none (child_in g 2))) (sym c.child_within.ensures ∙ c.if-child_within.true))

pub returns-in-LValid : goal.returns-in-LValid
returns-in-LValid c =
    let h = c.requires.ready_by in
    sym (limits.others_within h.ready c.requires.count_value c.args.step.rule h.named c.in-LValid.in-LValid-own.keys2)

pub returns-in-Sum : goal.returns-in-Sum
returns-in-Sum c = absurd (not_several (0 ∷ 5 ∷ 6 ∷ 8 ∷ 12 ∷ []) c.args.step.rule tt c.in-Sum.in-Sum-own.keys3 c.requires.ready_by.concludes)

pub returns-in-AConf : goal.returns-in-AConf
returns-in-AConf c = absurd (not_several (3 ∷ 4 ∷ 13 ∷ []) c.args.step.rule tt c.in-AConf.in-AConf-own.keys4 c.requires.ready_by.concludes)
