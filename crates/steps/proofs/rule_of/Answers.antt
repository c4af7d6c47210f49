use Rattle.steps.proofs.Rules.{unnamed_left}
use Rattle.steps.proofs.rule_of.Goals as goal

pub returns-in_default : goal.returns-in_default
returns-in_default c =
    let n = c.in_default.in_default-own.rest in
    unnamed_left _ n.0.0.0.0.0.0.0.0.0.0.0.0.1 n.0.0.0.0.0.0.0.0.0.0.0.1 n.0.0.0.0.0.0.0.0.0.0.1
    n.0.0.0.0.0.0.0.0.0.1 n.0.0.0.0.0.0.0.0.1 n.0.0.0.0.0.0.0.1 n.0.0.0.0.0.0.1 n.0.0.0.0.0.1
    n.0.0.0.0.1 n.0.0.0.1 n.0.0.1 n.0.1 n.1
