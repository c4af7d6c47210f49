use Prim.Native.Nat.{ℕ, ◌+◌}
use borrow.Author.Rules.{rules}
use lib.IntN.{ℤ, negsuc}
use mathlib.Core.List.{List, [], ◌∷◌, ◌++◌}
use mathlib.Core.Path.{◌∙◌, ◌≡◌, ap, ap₂, sym}
use native.Mathlib.Omega.{arith}
use Rattle.calculus.specs.LinearForms.{column, number, minus}
use Rattle.calculus.specs.Facts.{Fact, same, arithmetic, eq, ne}
use Rattle.question.specs.Columns.{column_at}
use Rattle.rows.specs.Rows.{branch_of}
use Rattle.rows.proofs.Forms.{minus_number, columns_difference}
use Rattle.splits.proofs.Forms.{child_one, child_two, child_three}
use Rattle.splits.proofs.put_c_inj.Goals as goal
use Rattle.splits.proofs.put_c_inj.Goals.{Start}

-- the children, from the columns of x and y
module _ (s : Start) where
  abbrev code : ℕ → ℕ
  code z = s.args.s.q + (s.args.s.p + z)

  abbrev one : List Fact
  one = arithmetic eq (minus (column (code s.args.x)) (number (negsuc 0))) ∷ []

  abbrev two : List Fact
  two = arithmetic ne (minus (column (code s.args.x)) (column (code s.args.y))) ∷ []

  abbrev three : List Fact
  three = same s.args.x s.args.y ∷ []

pub returns-in-1 : goal.returns-in-1
unfolding column_at
returns-in-1 c =
    let here = (goal.at.returns-in-1 c).Start in
    let br = branch_of c.args.work.now c.args.count in
    let j = c.column_of-first in
    c.put_single.ensures
    ∙ ap (λ (l : List ℤ). br ++ (arithmetic eq l ∷ [])) (sym (minus_number j.result j.ensures.1 (negsuc 0)))
    ∙ ap (λ (i : ℕ). br ++ (arithmetic eq (minus (column i) (number (negsuc 0))) ∷ [])) j.ensures.0
    ∙ ap (λ (l : List Fact). br ++ l) (child_one (one here)
    (two here ∷ three here ∷ []) c.args.k c.in-1.is)

pub put_difference-requires : goal.put_difference-requires
unfolding column_at
put_difference-requires c = search rules

pub returns-in-2 : goal.returns-in-2
unfolding column_at
returns-in-2 c =
    let here = (goal.at.returns-in-2 c).Start in
    let br = branch_of c.args.work.now c.args.count in
    let i = c.column_of-first in
    let j = c.column_of in
    let ei = i.ensures.0 in
    let ej = j.ensures.0 in
    c.put_difference.ensures
    ∙ ap (λ (l : List ℤ). br ++ (arithmetic ne l ∷ []))
    (sym (columns_difference i.result j.result i.ensures.1 j.ensures.1 (λ q. c.requires.x_lt_variable_limit.2 (omega arith))))
    ∙ ap₂ (λ (i j : ℕ). br ++ (arithmetic ne (minus (column i) (column j)) ∷ [])) ei ej
    ∙ ap (λ (l : List Fact). br ++ l) (child_two (one here) (two here)
    (three here ∷ []) c.args.k c.in-2.is)

pub returns-in_default : goal.returns-in_default
returns-in_default c =
    let here = (goal.at.returns-in_default c).Start in
    let e : c.args.k ≡ 3 = omega (arith, c.requires.x_lt_variable_limit, c.in_default) in
    c.put_string.ensures
    ∙ ap (λ (l : List Fact). branch_of c.args.work.now c.args.count ++ l)
    (child_three (one here) (two here) (three here) [] c.args.k e)
