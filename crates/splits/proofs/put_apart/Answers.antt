use borrow.Author.Rules.{rules}
use lib.ListN.{drop}
use mathlib.Core.List.{List, [], ◌∷◌, ◌++◌}
use mathlib.Core.Path.{◌∙◌, ◌≡◌, ap}
use native.Mathlib.Omega.{arith}
use Rattle.calculus.specs.LinearForms.{above, below}
use Rattle.calculus.specs.Facts.{Fact, arithmetic, ge}
use Rattle.rows.specs.Rows.{row_at, branch_of}
use Rattle.splits.proofs.Forms.{child_one, child_two, ne_within}
use Rattle.splits.proofs.put_apart.Goals as goal

pub put_above-requires : goal.put_above-requires
put_above-requires c =
    record {
      earlier_lt_k = search rules;
      earlier_value = ne_within (row_at c.args.work.now c.args.fact) c.requires.fact_value.0 c.requires.fact_value.1;
    }

pub returns-then-k-eq1 : goal.returns-then-k-eq1
returns-then-k-eq1 c =
    let e = drop 1 (row_at c.args.work.now c.args.fact) in
    c.put_above.ensures
    ∙ ap (λ (l : List Fact). branch_of c.args.work.now c.args.count ++ l)
    (child_one (arithmetic ge (above e) ∷ []) ((arithmetic ge (below e) ∷ []) ∷ []) c.args.k c.if-k-eq1.true)

pub put_below-requires : goal.put_below-requires
put_below-requires c =
    record {
      earlier_lt_k = search rules;
      earlier_value = ne_within (row_at c.args.work.now c.args.fact) c.requires.fact_value.0 c.requires.fact_value.1;
    }

pub returns-else-k-eq1 : goal.returns-else-k-eq1
returns-else-k-eq1 c =
    let e = drop 1 (row_at c.args.work.now c.args.fact) in
    let second : c.args.k ≡ 2 = omega (arith, c.requires.fact_lt_count, c.if-k-eq1.false) in
    c.put_below.ensures
    ∙ ap (λ (l : List Fact). branch_of c.args.work.now c.args.count ++ l)
    (child_two (arithmetic ge (above e) ∷ []) (arithmetic ge (below e) ∷ []) [] c.args.k second)
