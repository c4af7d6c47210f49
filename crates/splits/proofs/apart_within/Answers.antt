use Prim.Native.Nat.{◌≤◌}
use lib.IntN.{ℤ, pos, negsuc, nat_abs, ◌+ℤ◌, ◌*ℤ◌}
use lib.ListN.{length, get_or, drop, length-drop}
use lib.Seq.{get_or-drop}
use mathlib.Core.Bool.{true}
use mathlib.Core.List.{List, [], ◌∷◌}
use mathlib.Core.Path.{◌∙◌, ◌≡◌, sym, ap}
use native.Mathlib.Omega.{arith}
use Rattle.calculus.specs.LinearForms.{above, below}
use Rattle.calculus.specs.Facts.{arithmetic, ge}
use Rattle.calculus.specs.Limits.{number_limit}
use Rattle.format.specs.Checking.{facts_within}
use Rattle.format.specs.Fields.{all_within}
use Rattle.rows.specs.Rows.{row_at}
use Rattle.rows.proofs.Branches.{length_row}
use Rattle.rows.proofs.Small.{behind_tag, above_fits, above_is, under_fits, under_is}
use Rattle.splits.proofs.Forms.{child_one, child_two, ne_within}
use Rattle.splits.proofs.Limits.{above_within, below_within}
use Rattle.splits.proofs.apart_within.Goals as goal

-- the fact's constant
constant-small : (r row : List ℤ) → r ≡ row → all_within number_limit (drop 1 row) ≡ true → nat_abs (get_or r 1 (pos 0)) ≤ number_limit
constant-small r row e h = behind_tag r 1 (ap (λ (l : List ℤ). all_within number_limit (drop 1 l)) e ∙ h) (omega arith)

first-of-form : (r row : List ℤ) → r ≡ row → get_or r 1 (pos 0) ≡ get_or (drop 1 row) 0 (pos 0)
first-of-form r row e = ap (λ (l : List ℤ). get_or l 1 (pos 0)) e ∙ sym (get_or-drop 1 row 0 (pos 0))

form-length : (row : List ℤ) → length row ≡ 50 → length (drop 1 row) ≡ 49
form-length row h = length-drop 1 row ∙ omega arith

pub overflow_sub-constant : goal.overflow_sub-constant
overflow_sub-constant c =
    let row = row_at c.args.work.now c.args.fact in
    above_fits (get_or c.row_at.result.now 1 (pos 0)) number_limit
    (constant-small _ row c.row_at.ensures (ne_within row c.requires.fact_value.0 c.requires.fact_value.1)) (omega arith)

pub returns-then-k-eq1 : goal.returns-then-k-eq1
returns-then-k-eq1 c =
    let few = c.requires.fact_lt_fact_limit.0 in
    let room = c.requires.fact_lt_fact_limit.1 in
    let row = row_at c.args.work.now c.args.fact in
    let e = c.row_at.ensures in
    let small = ne_within row c.requires.fact_value.0 c.requires.fact_value.1 in
    c.in_limit.ensures
    ∙ above_within (drop 1 row) _ (form-length row (length_row c.args.work.now c.args.fact (omega arith))) small
    (above_is (get_or c.row_at.result.now 1 (pos 0)) number_limit (constant-small _ row e small) (omega arith)
    ∙ ap (λ (z : ℤ). z +ℤ negsuc 0) (first-of-form _ row e))
    ∙ ap facts_within (child_one (arithmetic ge (above (drop 1 row)) ∷ []) ((arithmetic ge (below (drop 1 row)) ∷ []) ∷ []) c.args.k c.if-k-eq1.true)

pub overflow_sub-constant-else-k-eq1 : goal.overflow_sub-constant-else-k-eq1
overflow_sub-constant-else-k-eq1 c =
    let row = row_at c.args.work.now c.args.fact in
    under_fits (get_or c.row_at.result.now 1 (pos 0)) number_limit
    (constant-small _ row c.row_at.ensures (ne_within row c.requires.fact_value.0 c.requires.fact_value.1)) (omega arith)

pub returns-else-k-eq1 : goal.returns-else-k-eq1
returns-else-k-eq1 c =
    let few = c.requires.fact_lt_fact_limit.0 in
    let room = c.requires.fact_lt_fact_limit.1 in
    let row = row_at c.args.work.now c.args.fact in
    let e = c.row_at.ensures in
    let small = ne_within row c.requires.fact_value.0 c.requires.fact_value.1 in
    let second : c.args.k ≡ 2 = omega (arith, c.requires.fact_lt_fact_limit, c.if-k-eq1.false) in
    c.in_limit-else-k-eq1.ensures
    ∙ below_within (drop 1 row) _ (form-length row (length_row c.args.work.now c.args.fact (omega arith))) small
    (under_is (get_or c.row_at.result.now 1 (pos 0)) number_limit (constant-small _ row e small) (omega arith)
    ∙ ap (λ (z : ℤ). (negsuc 0 *ℤ z) +ℤ negsuc 0) (first-of-form _ row e))
    ∙ ap facts_within (child_two (arithmetic ge (above (drop 1 row)) ∷ []) (arithmetic ge (below (drop 1 row)) ∷ []) [] c.args.k second)
