use borrow.Author.Rules.{rules}
use lib.ListN.{length}
use mathlib.Core.Path.{◌∙◌, ◌≡◌, ap, refl, sym}
use native.Mathlib.Omega.{arith}
use Rattle.format.specs.Checking.{fact_within}
use Rattle.rows.proofs.Branches.{branch_filled}
use Rattle.rows.proofs.Tags.{row_relation}
use Rattle.rows.specs.Rows.{fact_of}
use Rattle.rows.proofs.put_within.Goals as goal

pub returns : goal.returns
returns c =
    let given = c.args.row.now in
    let row = c.fill_within.new.out in
    let n : length row ≡ 50 = search rules in record {
      value = c.fill_within.ensures.value ∙ sym (ap fact_within (row_relation given _ refl (omega (arith, c.requires.2))));
      behind = λ z. branch_filled c.args.work.now row c.args.k _ (omega arith) n (ap fact_of (c.fill_within.ensures.out_after z));
    }
