use Prim.Native.Nat.{ℕ}
use borrow.Author.Rules.{rules}
use borrow.Author.Tests.{not-false, not-true}
use lib.IntN.{ℤ}
use mathlib.Core.Bool.{Bool}
use mathlib.Core.List.{List}
use mathlib.Core.Path.{◌∙◌, ◌≡◌, ap, ap₂, sym}
use native.Mathlib.Omega.{arith}
use Rattle.calculus.specs.Facts.{Question}
use Rattle.calculus.specs.Rules.{join_of}
use Rattle.conclusions.proofs.Laws.{join_adds, join_first_beyond, join_second_beyond, join_unfit}
use Rattle.conclusions.proofs.Limits.{join_within}
use Rattle.conclusions.proofs.Tried.{concluded, eight, ten}
use Rattle.format.specs.Checking.{fact_within, fits}
use Rattle.rows.proofs.Small.{fine_at}
use Rattle.rows.specs.Rows.{fact_of, row_at}
use Rattle.conclusions.proofs.join.Goals as goal
use Rattle.conclusions.proofs.join.Goals.{After-joins, then-count-j-via-then-count-j, then-count-j-via-else-count-j+then-count-k, then-count-j-via-else-count-j+else-count-k+then-not-joins}

-- the test of the two rows
tested : (w : List ℤ) (j k : ℕ) {l r : List ℤ} {t : Bool} → l ≡ row_at w j → r ≡ row_at w k → t ≡ fits (join_of (fact_of l) (fact_of r))
    → t ≡ fits (join_of (fact_of (row_at w j)) (fact_of (row_at w k)))
tested w j k x y e = e ∙ ap₂ (λ (l r : List ℤ). fits (join_of (fact_of l) (fact_of r))) x y

joins-is : (c : After-joins) →
    let a = c.args in
    c.joins.result ≡ fits (join_of (fact_of (row_at a.work.now a.j)) (fact_of (row_at a.work.now a.k)))
joins-is c = tested c.args.work.now c.args.j c.args.k c.row_at.ensures c.row_at-else-count-k.ensures c.joins.ensures

pub returns-then-count-j : goal.returns-then-count-j
returns-then-count-j c =
    let a = c.args in
    let w = a.work.now in
    λ (u : Question). eight w _ a.count _
    (elim c.then-count-j.branch [
      | then-count-j-via-then-count-j t ↦ join_first_beyond u w a.count a.j a.k t.if-count-j.true
      | then-count-j-via-else-count-j+then-count-k t ↦
          join_second_beyond u w a.count a.j a.k (omega (arith, t.if-count-j.false)) t.if-count-k.true
      | then-count-j-via-else-count-j+else-count-k+then-not-joins t ↦
          join_unfit u w a.count a.j a.k (omega (arith, t.if-count-j.false)) (omega (arith, t.if-count-k.false))
          (sym (tested w a.j a.k t.row_at.ensures t.row_at-else-count-k.ensures t.joins.ensures) ∙ not-true _ t.if-not-joins.true-raw)
    ])

pub joins-requires : goal.joins-requires
joins-requires c =
    let f = c.requires in
    ap (λ (l : List ℤ). fact_within (fact_of l)) c.row_at.ensures
    ∙ fine_at c.args.work.now c.args.count c.args.j f (omega (arith, c.if-count-j.false))

pub returns-then-count-ge-FACT_LIMIT : goal.returns-then-count-ge-FACT_LIMIT
returns-then-count-ge-FACT_LIMIT c =
    let if2 = c.if-count-k in
    let if1 = c.if-count-j in
    let a = c.args in
    let w = a.work.now in
    let fit = sym (joins-is (goal.at.returns-then-count-ge-FACT_LIMIT c).After-joins) ∙ not-false _ c.if-not-joins.false-raw in
    λ (u : Question). ten w _ a.count _ _ (join_adds u w a.count a.j a.k (omega (arith, if1.false)) (omega (arith, if2.false)) fit)
    (join_within (row_at w a.j) (row_at w a.k) fit (fine_at w a.count a.j c.requires (omega (arith, if1.false)))) c.if-count-ge-FACT_LIMIT.true

pub returns : goal.returns
returns c =
    let if4 = c.if-count-ge-FACT_LIMIT in
    let if2 = c.if-count-k in
    let if1 = c.if-count-j in
    let a = c.args in
    let w = a.work.now in
    let fit = sym (joins-is (goal.at.returns c).After-joins) ∙ not-false _ c.if-not-joins.false-raw in
    λ (u : Question). concluded w _ a.count _ _ (join_adds u w a.count a.j a.k (omega (arith, if1.false)) (omega (arith, if2.false)) fit)
    (join_within (row_at w a.j) (row_at w a.k) fit (fine_at w a.count a.j c.requires (omega (arith, if1.false))))
    c.requires (omega (arith, if4.false)) (search rules) c.put_equation.ensures
