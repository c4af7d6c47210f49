use mathlib.Core.List.{[], ◌∷◌}
use Rattle.steps.specs.declared.Rule.{Rule}
use Rattle.steps.specs.Rules.{rule_named, one_each}
use Rattle.steps.proofs.Rules.{passes, not_several}
use Rattle.trials.proofs.Rooms.{room_three, room_one}
use Rattle.trials.proofs.room_for_all.Goals as goal

pub returns-in-CValid : goal.returns-in-CValid
returns-in-CValid c = let a = c.args in λ cs h. room_three a.rule a.count cs h c.in-CValid.is

pub returns-in-Branch : goal.returns-in-Branch
returns-in-Branch c =
    let a = c.args in
    λ cs h. room_one a.rule a.count cs h (passes (λ (r : Rule). one_each (rule_named r)) (1 ∷ 2 ∷ 7 ∷ 10 ∷ 11 ∷ []) a.rule tt c.in-Branch.in-Branch-own.keys2)
    c.requires.0

pub returns-in-Sum : goal.returns-in-Sum
returns-in-Sum c = λ cs h. absurd (not_several (0 ∷ 5 ∷ 6 ∷ 8 ∷ 12 ∷ []) c.args.rule tt c.in-Sum.in-Sum-own.keys3 c.requires.0)

pub returns-in-AConf : goal.returns-in-AConf
returns-in-AConf c = λ cs h. absurd (not_several (3 ∷ 4 ∷ 13 ∷ []) c.args.rule tt c.in-AConf.in-AConf-own.keys4 c.requires.0)
