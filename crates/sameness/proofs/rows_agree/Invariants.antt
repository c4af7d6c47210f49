use mathlib.Core.Bool.{true}
use mathlib.Core.Path.{◌≡◌}
use Rattle.calculus.specs.NormalForms.{agrees_on}
use Rattle.format.specs.Sameness.{agreement}
use Rattle.lists.specs.Lists.{all}
use Rattle.question.specs.Posed.{asked}
use Rattle.sameness.specs.Ready.{facts_in}
use Rattle.sameness.proofs.rows_agree.Given as goal

abbrev pub invariant-loop-k : goal.invariant-loop-k
invariant-loop-k l = all (agrees_on agreement (asked l.b l.s) (facts_in l.mine l.s.constraints) (asked l.c l.t) (facts_in l.theirs l.t.constraints)) (facts_in l.mine l.k) ≡ true
