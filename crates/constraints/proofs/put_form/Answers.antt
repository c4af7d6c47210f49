use borrow.Author.Rules.{rules}
use lib.ListN.{length}
use mathlib.Core.Path.{◌≡◌}
use native.Mathlib.Omega.{arith}
use Rattle.rows.proofs.Branches.{branch_filled}
use Rattle.constraints.proofs.put_form.Goals as goal

pub returns : goal.returns
returns c =
    let row = c.fill_form.new.row in
    let n : length row ≡ 50 = search rules in
    branch_filled c.args.work.now row c.args.k _ (omega arith) n c.fill_form.ensures
