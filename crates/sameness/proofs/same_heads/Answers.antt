use Rattle.std.proofs.Common.{arith}
use Rattle.std.proofs.lemmas.Bool.Decides.{nat_tests}
use Rattle.calculus.specs.NormalForms.{eq_heads}
use Rattle.question.specs.Posed.{asked}
use Rattle.sameness.proofs.same_heads.Goals as goal

pub returns-then-s-t-2 : goal.returns-then-s-t-2
unfolding asked eq_heads
returns-then-s-t-2 c = λ b d. grind (arith, nat_tests)

pub returns-else-s-t-2 : goal.returns-else-s-t-2
unfolding asked eq_heads
returns-else-s-t-2 c = λ b d. grind (arith, nat_tests)
