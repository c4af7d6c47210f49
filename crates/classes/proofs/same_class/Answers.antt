use borrow.Author.Rules.{rules}
use lib.Dec.{eqb}
use lib.ListN.{length}
use mathlib.Core.Path.{◌≡◌, ap₂}
use native.Mathlib.Omega.{arith}
use Rattle.lists.proofs.Lists.{get_d_any}
use Rattle.classes.proofs.same_class.Goals as goal

pub returns : goal.returns
returns c =
    let ls = c.args.labels.now in
    let n : length ls ≡ 32 = search rules in
    ap₂ eqb (get_d_any ls c.args.i 0 c.args.i (omega arith)) (get_d_any ls c.args.j 0 c.args.j (omega arith))
