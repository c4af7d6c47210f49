use Prim.Native.Nat.{◌+◌, ◌*◌, ◌<◌, ◌≤◌}
use Rattle.std.proofs.Common.{rules, tests, arith, refl, ◌∙◌}
use Rattle.std.proofs.lemmas.Iterator.{YieldsList-from_range}
use Rattle.std.proofs.lemmas.Iterator.Search.{all_from_yields_List}
use Rattle.format.specs.Checking.{keeps, keeps_fact}
use Rattle.rows.specs.Rows.{branch_of, fact_of, row_at}
use Rattle.rows.proofs.Chains.{range_all}
use Rattle.std.proofs.lemmas.Iterator.{serves_from_Range}
use lib.ListN.{length}
use Rattle.rows.proofs.Branches.{length_row}
use Rattle.rows.proofs.Small.{fine_at}
use Rattle.rows.proofs.keeps_facts.Goals as goal

pub all-requires-clause-callable : goal.all-requires-clause-callable
all-requires-clause-callable c =
    let w = c.args.work.now in
    let fine = c.requires.fine in
    let few = fine.few in
    let room = fine.room in
    serves_from_Range (λ x q r. search rules) (λ x h k.
    let low : x < 128 = omega arith in
    let in_work : 50 * x + 50 ≤ length w = omega arith in
    let n = length_row w x in_work in
    let f = fine_at w c.args.count x fine k in
    search rules)

pub returns : goal.returns
unfolding keeps branch_of
returns c =
    let w = c.args.work.now in
    let m = c.args.model.now in
    all_from_yields_List (λ k. keeps_fact m (fact_of (row_at w k))) _ _ _ c.all.ensures.ran (YieldsList-from_range 0 c.args.count c.args.count refl (omega arith))
    (λ x b q k. search (rules, tests))
    ∙ range_all (keeps_fact m) (λ k. fact_of (row_at w k)) c.args.count
