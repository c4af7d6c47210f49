use borrow.Author.Rules.{rules}
use lib.ListN.{length}
use mathlib.Core.List.{List, ◌++◌}
use mathlib.Core.Path.{◌∙◌, ◌≡◌, ap, refl}
use native.Mathlib.Omega.{arith}
use Rattle.calculus.specs.Facts.{Fact}
use Rattle.rows.specs.Rows.{branch_of}
use Rattle.rows.proofs.Branches.{branch_filled}
use Rattle.splits.proofs.put_branch.Goals as goal

pub returns : goal.returns
returns c =
    let row = c.fill_branch.new.row in
    let n : length row ≡ 50 = search rules in
    branch_filled c.args.work.now row c.args.count _ (omega arith) n refl
    ∙ ap (λ (l : List Fact). branch_of c.args.work.now c.args.count ++ l) c.fill_branch.ensures
