use Rattle.std.proofs.Common.{arith}
use Rattle.std.proofs.lemmas.Bool.Decides.{nat_tests}
use Rattle.extended.proofs.Numerals.{numeric_is}
use Rattle.extended.proofs.is_numeric.Goals as goal

pub returns-then-count-eq1 : goal.returns-then-count-eq1
returns-then-count-eq1 c =
    let e = numeric_is c.args.v.now c.args.at c.args.count in
    grind (arith, nat_tests)

pub returns-else-count-eq1 : goal.returns-else-count-eq1
returns-else-count-eq1 c =
    let e = numeric_is c.args.v.now c.args.at c.args.count in
    let f = c.read.ensures in
    grind (arith, nat_tests)

pub returns-else-all_digits : goal.returns-else-all_digits
returns-else-all_digits c =
    let e = numeric_is c.args.v.now c.args.at c.args.count in
    grind (arith, nat_tests)
