use borrow.Author.Rules.{rules}
use lib.ListN.{length}
use mathlib.Core.Path.{◌≡◌}
use mir.Facts.{to_z-of_z}
use native.Mathlib.Omega.{arith}
use Rattle.rows.proofs.Branches.{branch_filled}
use Rattle.rows.proofs.put_single.Goals as goal

pub returns : goal.returns
returns c =
    let row = c.fill_single.new.row in
    let n : length row ≡ 50 = search rules in
    branch_filled c.args.work.now row c.args.k _ (omega arith) n
    (rw (to_z-of_z c.ranges.constant, to_z-of_z c.ranges.coefficient) at c.fill_single.ensures)
