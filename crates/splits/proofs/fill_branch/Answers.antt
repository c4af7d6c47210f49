use mathlib.Core.List.{[], ◌∷◌}
use mathlib.Core.Path.{◌∙◌, ◌≡◌, ap}
use native.Mathlib.Omega.{arith}
use Rattle.calculus.specs.Limits.{column_limit}
use Rattle.calculus.specs.LinearForms.{below}
use Rattle.calculus.specs.Facts.{Fact, arithmetic, ge}
use Rattle.format.specs.Question.{form_of}
use Rattle.constraints.proofs.Ranges.{form_rises}
use Rattle.splits.proofs.Forms.{child_one, child_two}
use Rattle.splits.proofs.fill_branch.Goals as goal

pub fill_form-requires : goal.fill_form-requires
fill_form-requires c =
    record {
      row_len = c.requires.row_len.0;
      relation_bound = (omega arith, c.requires.row_len.1);
      pairs_value = form_rises c.args.b.now column_limit c.args.at c.args.pairs (omega arith) c.requires.pairs_value;
    }

pub returns-then-k-eq1 : goal.returns-then-k-eq1
returns-then-k-eq1 c =
    let f = form_of c.args.b.now c.args.at c.args.pairs in
    ap (λ (g : Fact). g ∷ []) c.fill_form.ensures
    ∙ child_one (arithmetic ge f ∷ []) ((arithmetic ge (below f) ∷ []) ∷ []) c.args.k c.if-k-eq1.true

pub fill_below-requires : goal.fill_below-requires
fill_below-requires c =
    record {
      row_len = c.requires.row_len.0;
      pairs_in_bounds = c.requires.row_len.1;
      pairs_value = form_rises c.args.b.now column_limit c.args.at c.args.pairs (omega arith) c.requires.pairs_value;
    }

pub returns-else-k-eq1 : goal.returns-else-k-eq1
returns-else-k-eq1 c =
    let f = form_of c.args.b.now c.args.at c.args.pairs in
    let second : c.args.k ≡ 2 = omega (arith, c.requires.row_len, c.if-k-eq1.false) in
    ap (λ (g : Fact). g ∷ []) c.fill_below.ensures
    ∙ child_two (arithmetic ge f ∷ []) (arithmetic ge (below f) ∷ []) [] c.args.k second
