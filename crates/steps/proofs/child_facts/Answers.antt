use mathlib.Core.List.{[], ◌∷◌}
use mathlib.Core.Path.{ap}
use Rattle.steps.specs.declared.Rule.{Rule}
use Rattle.steps.specs.Rules.{rule_named, one_each}
use Rattle.steps.proofs.Rules.{passes}
use Rattle.steps.proofs.Children.{adds_one, adds_two, adds_three}
use Rattle.steps.proofs.child_facts.Goals as goal

pub returns-then-k-eq1 : goal.returns-then-k-eq1
returns-then-k-eq1 c =
    let a = c.args in
    λ b n body m l h. adds_two b n body m (rule_named a.rule) a.k (ap rule_named c.in-CValid.is) c.if-k-eq1.true

pub returns-else-k-eq1 : goal.returns-else-k-eq1
returns-else-k-eq1 c =
    let a = c.args in
    λ b n body m. adds_three b n body m (rule_named a.rule) a.k (ap rule_named c.in-CValid.is) c.if-k-eq1.false

pub returns-in-Sum : goal.returns-in-Sum
returns-in-Sum c =
    let a = c.args in
    λ b n body m. adds_one b n body m (rule_named a.rule) a.k
    (passes (λ (r : Rule). one_each (rule_named r)) (0 ∷ 1 ∷ 2 ∷ 3 ∷ 4 ∷ 5 ∷ []) a.rule tt c.in-Sum.in-Sum-own.keys2)

pub returns-in-LIntro : goal.returns-in-LIntro
returns-in-LIntro c =
    let a = c.args in
    λ b n body m. adds_one b n body m (rule_named a.rule) a.k
    (passes (λ (r : Rule). one_each (rule_named r)) (6 ∷ 7 ∷ 8 ∷ 10 ∷ 11 ∷ 12 ∷ []) a.rule tt c.in-LIntro.in-LIntro-own.keys3)

pub returns-in-Unknown : goal.returns-in-Unknown
returns-in-Unknown c =
    let a = c.args in
    λ b n body m. adds_one b n body m (rule_named a.rule) a.k (ap (λ (r : Rule). one_each (rule_named r)) c.in-Unknown.is)
