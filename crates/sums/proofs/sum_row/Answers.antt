use Prim.Native.Nat.{ℕ}
use borrow.Author.Rules.{rules}
use borrow.Author.Tests.{not-false, not-true}
use lib.IntN.{nat_abs, pos, ℤ}
use lib.ListN.{drop, get_or, length, set}
use lib.Signed.{◌≤ℤ◌}
use mathlib.Core.List.{List}
use mathlib.Core.Option.{some}
use mathlib.Core.Path.{◌∙◌, ◌≡◌, ap, sym}
use mir.Facts.{to_z-of_z, to_z_pos}
use mir.Syntax.{w64}
use mir.Val.{SFits, of_z, to_z}
use native.Mathlib.Omega.{arith}
use Rattle.calculus.specs.Facts.{Branch}
use Rattle.calculus.specs.Rules.{divided, sum_of}
use Rattle.format.specs.Fields.{pairs_at}
use Rattle.integers.proofs.Laws.{pos_≤ℤ}
use Rattle.rows.specs.Rows.{branch_of, fact_of}
use Rattle.sums.proofs.Division.{no_row, some_row}
use Rattle.sums.proofs.Equations.{fact_tagged, none_divided, none_summed}
use Rattle.sums.specs.Sums.{fact_in, sum_tag}
use Rattle.sums.proofs.sum_row.Goals as goal
use Rattle.sums.proofs.sum_row.Goals.{After-divide_by, After-sum_of, After-sum_tag-tag, Else-not-sum_of, Start}

-- the step, and its divisor as the machine holds it
module _ (s : Start) where
  abbrev branch : Branch
  branch = branch_of s.args.work.now s.args.count

  abbrev summands : List (ℕ × ℤ)
  summands = pairs_at s.args.b.now s.args.at s.args.pairs

  abbrev d : ℕ
  d = s.args.divisor

  divisor-is : to_z w64 d ≡ pos d
  divisor-is = to_z_pos w64 {n = d} (omega arith)

  positive : pos 1 ≤ℤ to_z w64 d
  positive = rw divisor-is (pos_≤ℤ s.requires.le_divisor.0)

-- the sum, where it does not fit and where it does
module _ (c : After-sum_of) where
  abbrev row : List ℤ
  row = c.sum_of.new.sum

  long : length row ≡ 50
  long = search rules

summed : (c : Else-not-sum_of) →
    (sum_of (branch (goal.at.Else-not-sum_of c).Start) (summands (goal.at.Else-not-sum_of c).Start)
    ≡ some (drop 1 (row (goal.at.Else-not-sum_of c).After-sum_of)))
    × (get_or (row (goal.at.Else-not-sum_of c).After-sum_of) 0 (pos 0) ≡ pos 0)
summed c = some_row c.sum_of.result (row (goal.at.Else-not-sum_of c).After-sum_of) _ (not-false c.sum_of.result c.if-not-sum_of.false-raw) c.sum_of.ensures

-- the tag
module _ (c : After-sum_tag-tag) where
  given : c.sum_tag-tag.result
      ≡ sum_tag (branch (goal.at.After-sum_tag-tag c).Start) (nat_abs (to_z w64 (d (goal.at.After-sum_tag-tag c).Start)))
      (summands (goal.at.After-sum_tag-tag c).Start) (drop 1 (row (goal.at.After-sum_tag-tag c).After-sum_of))
  given = c.sum_tag-tag.ensures

  tag_is : to_z w64 (of_z w64 c.sum_tag-tag.result)
      ≡ sum_tag (branch (goal.at.After-sum_tag-tag c).Start) (d (goal.at.After-sum_tag-tag c).Start) (summands (goal.at.After-sum_tag-tag c).Start)
      (drop 1 (row (goal.at.After-sum_tag-tag c).After-sum_of))
  tag_is =
      let f : SFits w64 c.sum_tag-tag.result = record { sfits = c.sum_tag-tag.type_inv } in
      to_z-of_z f
      ∙ given
      ∙ ap (λ (z : ℤ). sum_tag (branch (goal.at.After-sum_tag-tag c).Start) (nat_abs z) (summands (goal.at.After-sum_tag-tag c).Start)
      (drop 1 (row (goal.at.After-sum_tag-tag c).After-sum_of)))
      (divisor-is (goal.at.After-sum_tag-tag c).Start)

-- the sum divided
module _ (c : After-divide_by) where
  fitted : sum_of (branch (goal.at.After-divide_by c).Start) (summands (goal.at.After-divide_by c).Start)
      ≡ some (drop 1 (row (goal.at.After-divide_by c).After-sum_of))
  fitted =
      (summed (goal.at.After-divide_by c).Else-not-sum_of).0

  long-divided : length c.divide_by.new.row ≡ 50
  long-divided = search rules

  divided-is : divided (nat_abs (to_z w64 (d (goal.at.After-divide_by c).Start))) (drop 1 (row (goal.at.After-divide_by c).After-sum_of))
      ≡ divided (d (goal.at.After-divide_by c).Start) (drop 1 (row (goal.at.After-divide_by c).After-sum_of))
  divided-is = ap (λ (z : ℤ). divided (nat_abs z) (drop 1 (row (goal.at.After-divide_by c).After-sum_of))) (divisor-is (goal.at.After-divide_by c).Start)

pub returns-then-not-sum_of : goal.returns-then-not-sum_of
unfolding fact_in
returns-then-not-sum_of c =
    let here = (goal.at.returns-then-not-sum_of c).Start in
    sym (none_summed (branch here) (d here)
    (summands here)
    (no_row c.sum_of.result (row (goal.at.returns-then-not-sum_of c).After-sum_of) _ (not-true c.sum_of.result c.if-not-sum_of.true-raw) c.sum_of.ensures))

pub sum_tag-tag-requires : goal.sum_tag-tag-requires
sum_tag-tag-requires c =
    record {
      pos_bound = positive (goal.at.sum_tag-tag-requires c).Start;
      pairs_in_bounds = c.requires.le_pairs.2;
      fine = c.requires.fine;
    }

pub divide_by-requires : goal.divide_by-requires
divide_by-requires c =
    (positive (goal.at.divide_by-requires c).Start, (summed (goal.at.divide_by-requires c).Else-not-sum_of).1)

pub returns-then-not-divide_by : goal.returns-then-not-divide_by
unfolding fact_in
returns-then-not-divide_by c =
    let here = (goal.at.returns-then-not-divide_by c).Start in
    let e = no_row c.divide_by.result c.divide_by.new.row _ (not-true c.divide_by.result c.if-not-divide_by.true-raw) c.divide_by.ensures in
    sym (none_divided (branch here) (d here)
    (summands here) (drop 1 (row (goal.at.returns-then-not-divide_by c).After-sum_of))
    (fitted (goal.at.returns-then-not-divide_by c).After-divide_by) (sym (divided-is (goal.at.returns-then-not-divide_by c).After-divide_by) ∙ e))

pub returns : goal.returns
unfolding fact_in
returns c =
    let after_divide_by = (goal.at.returns c).After-divide_by in
    let Start_2 = (goal.at.returns c).Start in
    let e = (some_row c.divide_by.result c.divide_by.new.row _ (not-false c.divide_by.result c.if-not-divide_by.false-raw) c.divide_by.ensures).0 in
    ap (λ (z : ℤ). some (fact_of (set c.divide_by.new.row 0 z))) (tag_is (goal.at.returns c).After-sum_tag-tag)
    ∙ fact_tagged (branch Start_2) (d Start_2) (summands Start_2) c.divide_by.new.row
    (drop 1 (row (goal.at.returns c).After-sum_of)) (long-divided after_divide_by) (fitted after_divide_by)
    (sym (divided-is after_divide_by) ∙ e)
