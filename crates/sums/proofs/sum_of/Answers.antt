use Prim.Native.Nat.{◌*◌, ◌+◌, ◌<◌, ◌≤◌, ℕ}
use borrow.Author.Tests.{not-false, not-true}
use lib.IntN.{nat_abs, pos, ℤ}
use lib.ListN.{drop, length}
use mathlib.Core.Bool.{true}
use mathlib.Core.List.{List}
use mathlib.Core.Option.{none, some}
use mathlib.Core.Path.{◌∙◌, ◌≡◌, ap, ap₂, subst, sym}
use mir.Facts.{to_z-of_z}
use mir.Syntax.{w64}
use mir.Val.{SFits, of_z, to_z}
use native.Mathlib.Nat.{le_trans}
use native.Mathlib.Omega.{arith}
use Rattle.calculus.specs.LinearForms.{zeros}
use Rattle.calculus.specs.Rules.{sum_of, summand}
use Rattle.calculus.specs.Limits.{number_limit}
use Rattle.format.specs.Checking.{fits}
use Rattle.format.specs.Fields.{i32, pairs_at, u16, all_within}
use Rattle.rows.proofs.Branches.{length_row}
use Rattle.rows.specs.Rows.{branch_of, fact_of, row_at}
use Rattle.sums.proofs.Division.{tag_first}
use Rattle.sums.proofs.Summing.{Summing, multiplier_small, row_small, summing_absent, summing_all}
use Rattle.sums.proofs.Summing.{summing_done, summing_misfit, summing_more, summing_start}
use Rattle.sums.proofs.Totals.{sum_from}
use Rattle.sums.specs.Sums.{added, ge_row, row_in}
use Rattle.sums.proofs.sum_of.Goals as goal
use Rattle.sums.proofs.sum_of.Goals.{After-i32_at-multiplier, After-row_at-row, After-takes, Else-not-takes}

-- the pair read
module _ (c : After-i32_at-multiplier) where
  abbrev w : List ℤ
  w =
      let args = c.args in
      args.work.now

  abbrev count : ℕ
  count = c.args.count

  abbrev b : List ℕ
  b =
      let args = c.args in
      args.b.now

  abbrev at' : ℕ
  at' = c.args.at

  abbrev n : ℕ
  n = c.args.pairs

  abbrev i : ℕ
  i = c.loop-i.i

  abbrev fact : ℕ
  fact = u16 b (at' + 6 * i)

  abbrev multiplier : ℤ
  multiplier = i32 b (at' + 6 * i + 2)

  fact-is : c.u16_at-fact.result ≡ fact
  fact-is = c.u16_at-fact.ensures.0

  multiplier-is : to_z w64 (of_z w64 c.i32_at-multiplier.result) ≡ multiplier
  multiplier-is = let f : SFits w64 c.i32_at-multiplier.result = record { sfits = c.i32_at-multiplier.type_inv } in to_z-of_z f ∙ c.i32_at-multiplier.ensures.0

  -- where there is no sum
  nothing : sum_from (branch_of w count) (zeros 49) (pairs_at b at' n) ≡ none → none ≡ ge_row (sum_of (branch_of w count) (pairs_at b at' n))
  nothing e =
      let pre = c.requires in
      sym (ap ge_row (sym (summing_all w count b at' n pre.fine pre.le_pairs.0) ∙ e))

-- the row named and its test
module _ (c : After-row_at-row) where
  on_branch : fact (goal.at.After-row_at-row c).After-i32_at-multiplier < count (goal.at.After-row_at-row c).After-i32_at-multiplier
  on_branch =
      subst (λ (k : ℕ). k < count (goal.at.After-row_at-row c).After-i32_at-multiplier) (fact-is (goal.at.After-row_at-row c).After-i32_at-multiplier)
      c.if-fact-count.false

  row_is : c.row_at-row.result.now ≡ row_at (w (goal.at.After-row_at-row c).After-i32_at-multiplier) (fact (goal.at.After-row_at-row c).After-i32_at-multiplier)
  row_is =
      c.row_at-row.ensures ∙ ap (row_at (w (goal.at.After-row_at-row c).After-i32_at-multiplier)) (fact-is (goal.at.After-row_at-row c).After-i32_at-multiplier)

  long : length (row_at (w (goal.at.After-row_at-row c).After-i32_at-multiplier) (fact (goal.at.After-row_at-row c).After-i32_at-multiplier)) ≡ 50
  long =
      let few = c.requires.fine.few in
      let room = c.requires.fine.room in
      let h = on_branch in
      length_row (w (goal.at.After-row_at-row c).After-i32_at-multiplier) (fact (goal.at.After-row_at-row c).After-i32_at-multiplier) (omega arith)

test : (c : After-takes)
    → c.takes.result
    ≡ fits (summand (multiplier (goal.at.After-takes c).After-i32_at-multiplier)
    (fact_of (row_at (w (goal.at.After-takes c).After-i32_at-multiplier) (fact (goal.at.After-takes c).After-i32_at-multiplier))))
test c =
    c.takes.ensures
    ∙ ap₂ (λ (m : ℤ) (r : List ℤ). fits (summand m (fact_of r))) (multiplier-is (goal.at.After-takes c).After-i32_at-multiplier)
    (row_is (goal.at.After-takes c).After-row_at-row)

passed : (c : Else-not-takes)
    → fits (summand (multiplier (goal.at.Else-not-takes c).After-i32_at-multiplier)
    (fact_of (row_at (w (goal.at.Else-not-takes c).After-i32_at-multiplier) (fact (goal.at.Else-not-takes c).After-i32_at-multiplier))))
    ≡ true
passed c = sym (test (goal.at.Else-not-takes c).After-takes) ∙ not-false _ c.if-not-takes.false-raw

pub loop-i-init : goal.loop-i-init
loop-i-init c =
    subst (λ (l : List ℤ). Summing c.args.work.now c.args.count c.args.b.now c.args.at c.args.pairs l 0) (sym c.requires.sum_value)
    (summing_start c.args.work.now c.args.count c.args.b.now c.args.at c.args.pairs c.requires.pairs_value)

pub returns-then-fact-count : goal.returns-then-fact-count
unfolding row_in
returns-then-fact-count c =
    let here = (goal.at.returns-then-fact-count c).After-i32_at-multiplier in
    nothing here
    (summing_absent (w here) (count here)
    (b here) (at' here)
    (n here) c.loop-i.sum (i here)
    c.loop-i.invariant (omega arith)
    (subst (λ (k : ℕ). count here ≤ k)
    (fact-is here) c.if-fact-count.true))

pub row_at-row-requires : goal.row_at-row-requires
row_at-row-requires c =
    let few = c.requires.fine.few in
    let room = c.requires.fine.room in
    (omega arith, omega arith)

pub returns-then-not-takes : goal.returns-then-not-takes
unfolding row_in
returns-then-not-takes c =
    let here = (goal.at.returns-then-not-takes c).After-i32_at-multiplier in
    let loop = c.loop-i in
    nothing here
    (summing_misfit (w here) (count here)
    (b here) (at' here)
    (n here) loop.sum (i here) loop.invariant
    (omega arith) (on_branch (goal.at.returns-then-not-takes c).After-row_at-row)
    (sym (test (goal.at.returns-then-not-takes c).After-takes) ∙ not-true _ c.if-not-takes.true-raw))

pub add_multiple-requires : goal.add_multiple-requires
add_multiple-requires c =
    let after_i32_at_multiplier = (goal.at.add_multiple-requires c).After-i32_at-multiplier in
    let after_row_at_row = (goal.at.add_multiple-requires c).After-row_at-row in
    let loop = c.loop-i in
    let pre = c.requires in
    let s = loop.invariant in
    let h : c.loop-i.i < c.args.pairs = omega arith in record {
      row_value =
          ap (λ (r : List ℤ). all_within number_limit (drop 1 r)) (row_is after_row_at_row)
          ∙ row_small (w after_i32_at_multiplier) (count after_i32_at_multiplier)
          (b after_i32_at_multiplier) (at' after_i32_at_multiplier)
          (n after_i32_at_multiplier) loop.sum (i after_i32_at_multiplier) s h
          (on_branch after_row_at_row) pre.fine (passed (goal.at.add_multiple-requires c).Else-not-takes);
      multiplier_bound =
          subst (λ (m : ℤ). nat_abs m ≤ 1000000000) (sym (multiplier-is after_i32_at_multiplier))
          (multiplier_small (w after_i32_at_multiplier) (count after_i32_at_multiplier)
          (b after_i32_at_multiplier) (at' after_i32_at_multiplier)
          (n after_i32_at_multiplier) loop.sum (i after_i32_at_multiplier) s h);
      within = λ j. let k = s.small j in let few = pre.le_pairs.1 in le_trans k (omega arith);
    }

pub loop-i-preserved : goal.loop-i-preserved
loop-i-preserved c =
    let after_i32_at_multiplier = (goal.at.loop-i-preserved c).After-i32_at-multiplier in
    let after_row_at_row = (goal.at.loop-i-preserved c).After-row_at-row in
    let loop = c.loop-i in
    let pre = c.requires in
    let s = loop.invariant in
    let h : c.loop-i.i < c.args.pairs = omega arith in
    let e : c.add_multiple.new.sum
    ≡ added loop.sum (multiplier after_i32_at_multiplier)
    (row_at (w after_i32_at_multiplier) (fact after_i32_at_multiplier)) =
    c.add_multiple.ensures
    ∙ ap₂ (λ (m : ℤ) (r : List ℤ). added loop.sum m r) (multiplier-is after_i32_at_multiplier)
    (row_is after_row_at_row) in
    subst (λ (l : List ℤ). Summing (w after_i32_at_multiplier) (count after_i32_at_multiplier)
    (b after_i32_at_multiplier) (at' after_i32_at_multiplier)
    (n after_i32_at_multiplier) l (i after_i32_at_multiplier + 1))
    (sym e)
    (summing_more (w after_i32_at_multiplier) (count after_i32_at_multiplier)
    (b after_i32_at_multiplier) (at' after_i32_at_multiplier)
    (n after_i32_at_multiplier) loop.sum (i after_i32_at_multiplier) s h
    (on_branch after_row_at_row) pre.fine (passed (goal.at.loop-i-preserved c).Else-not-takes)
    (long after_row_at_row))

pub returns : goal.returns
unfolding row_in
returns c =
    let l = c.loop-i in
    let w = c.args.work.now in
    let b = c.args.b.now in
    let e = summing_done w c.args.count b c.args.at c.args.pairs l.sum l.i l.invariant (omega arith) in
    ap some (tag_first l.sum (pos 0) l.invariant.long l.invariant.tag)
    ∙ sym (ap ge_row (sym (summing_all w c.args.count b c.args.at c.args.pairs c.requires.fine c.requires.le_pairs.0) ∙ e))
