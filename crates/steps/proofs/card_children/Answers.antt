use mathlib.Core.Path.{ap}
use native.Mathlib.Omega.{arith}
use Rattle.calculus.specs.Steps.{last_count}
use Rattle.calculus.proofs.Alphabet.{count_is}
use Rattle.steps.proofs.Children.{pairs_few, pairs_halved, last_left_out, last_there}
use Rattle.steps.proofs.card_children.Goals as goal

pub overflow_mul-pairs : goal.overflow_mul-pairs
overflow_mul-pairs c = record { fits = omega (arith, pairs_few c.args.m c.requires.1) }

pub overflow_add-result : goal.overflow_add-result
overflow_add-result c = record { fits = omega (arith, pairs_few c.args.m c.requires.1) }

pub returns-then-n-lt2 : goal.returns-then-n-lt2
returns-then-n-lt2 c =
    let n = c.args.n in
    omega (arith, pairs_halved c.args.m, ap last_count (count_is n), last_left_out n c.if-n-lt2.true)

pub returns-else-n-lt2 : goal.returns-else-n-lt2
returns-else-n-lt2 c =
    let n = c.args.n in
    omega (arith, pairs_halved c.args.m, ap last_count (count_is n), last_there n c.if-n-lt2.false)
