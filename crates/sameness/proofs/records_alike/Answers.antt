use Rattle.std.proofs.Common.{arith}
use Rattle.std.proofs.lemmas.Bool.Decides.{nat_tests}
use Rattle.sameness.proofs.Records.{fields_alike}
use Rattle.sameness.proofs.records_alike.Goals as goal

pub returns-then-u16_at-2 : goal.returns-then-u16_at-2
returns-then-u16_at-2 c =
    λ u v.
    let e = fields_alike c.args.b.now c.args.c.now c.args.x c.args.y c.requires.1 c.requires.3 u v in
    grind (arith, nat_tests)

pub returns-else-u16_at-2 : goal.returns-else-u16_at-2
returns-else-u16_at-2 c =
    λ u v.
    let e = fields_alike c.args.b.now c.args.c.now c.args.x c.args.y c.requires.1 c.requires.3 u v in
    grind (arith, nat_tests)
