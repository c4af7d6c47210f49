use Prim.Native.Nat.{◌+◌, ◌*◌, ◌<◌, ◌≤◌, ℕ}
use Rattle.std.proofs.Common.{rules, tests, true, false}
use Rattle.std.proofs.lemmas.Iterator.{serves_from_Range, first_from_Range}
use lib.IntN.{pos, ℤ}
use lib.ListN.{length}
use mathlib.Core.Bool.{◌||◌, Bool}
use mathlib.Core.List.{List, ◌∷◌}
use mathlib.Core.Path.{◌∙◌, ◌≡◌, ap, ap₂, sym}
use native.Mathlib.Omega.{arith}
use Rattle.calculus.specs.LinearForms.{column, eq_integers, minus}
use Rattle.calculus.specs.Rules.{states_difference}
use Rattle.rows.specs.Rows.{fact_of, row_at}
use Rattle.rows.proofs.Branches.{length_row}
use Rattle.rows.proofs.Chains.{number_found}
use Rattle.std.specs.Prelude.{MatchOption}
use Rattle.rows.proofs.Forms.{columns_difference}
use Rattle.rows.proofs.Tested.{equation_row, states_by_row}
use Rattle.rows.proofs.lowest_difference.Goals as goal
use Rattle.rows.proofs.lowest_difference.Goals.{After-fill_difference, After-fill_difference-2}

-- the rows that are looked for
one-is : (c : After-fill_difference)
    → c.fill_difference.new.row ≡ pos 1 ∷ minus (column c.args.i) (column c.args.j)
one-is c =
    let n : length c.fill_difference.new.row ≡ 50 = search rules in
    equation_row c.fill_difference.new.row _ n c.fill_difference.ensures
    ∙ ap (λ (e : List ℤ). pos 1 ∷ e) (sym (columns_difference c.args.i c.args.j c.requires.i_lt_column_limit.0 c.requires.i_lt_column_limit.1 c.requires.i_lt_column_limit.2))

other-is : (c : After-fill_difference-2)
    →
    let args = c.args in
    c.fill_difference-2.new.row ≡ pos 1 ∷ minus (column args.j) (column args.i)
other-is c =
    let n : length c.fill_difference-2.new.row ≡ 50 = search rules in
    equation_row c.fill_difference-2.new.row _ n c.fill_difference-2.ensures
    ∙ ap (λ (e : List ℤ). pos 1 ∷ e) (sym (columns_difference c.args.j c.args.i c.requires.i_lt_column_limit.1 c.requires.i_lt_column_limit.0 (λ e. c.requires.i_lt_column_limit.2 (sym e))))

-- whether row k is one of them
abbrev found : (c : After-fill_difference-2) → ℕ → Bool
found c k =
    eq_integers c.fill_difference.new.row (row_at c.args.work.now k) || eq_integers c.fill_difference-2.new.row (row_at c.args.work.now k)

-- it is one of them where its fact states the difference
test : (c : After-fill_difference-2) (k : ℕ) → k < c.args.count → states_difference c.args.i c.args.j (fact_of (row_at c.args.work.now k)) ≡ found c k
unfolding states_difference
test c k h =
    let row = row_at c.args.work.now k in
    let whole : length row ≡ 50 = length_row c.args.work.now k (omega arith) in
    sym (ap₂ ◌||◌
    (ap (λ (r : List ℤ). eq_integers r row) (one-is (goal.at.After-fill_difference-2 c).After-fill_difference) ∙ sym (states_by_row (minus (column c.args.i) (column c.args.j)) row whole))
    (ap (λ (r : List ℤ). eq_integers r row) (other-is c) ∙ sym (states_by_row (minus (column c.args.j) (column c.args.i)) row whole)))

pub find-requires-clause-callable : goal.find-requires-clause-callable
find-requires-clause-callable c =
    let w = c.args.work.now in
    serves_from_Range (λ x q r. search rules) (λ x h k.
    let low : x < 128 = omega arith in
    let in_work : 50 * x + 50 ≤ length w = omega arith in
    let n = length_row w x in_work in
    search rules)

pub returns : goal.returns
returns c =
    let here = (goal.at.returns c).After-fill_difference-2 in
    let count = c.args.count in
    let m : MatchOption c.find.result ((k : ℕ) → 0 ≤ k → k < count → found here k ≡ false)
    (λ i. (0 ≤ i) × (i < count) × (found here i ≡ true) × ((k : ℕ) → 0 ≤ k → k < i → found here k ≡ false)) =
    first_from_Range _ _ _ c.find.result (λ k. found here k ≡ true) (λ k. found here k ≡ false) c.find.ensures.ran (λ x q k. search (rules, tests)) (λ x q k. search (rules, tests)) in
    number_found (states_difference c.args.i c.args.j) c.args.work.now (found here) count c.find.result (test here) m
