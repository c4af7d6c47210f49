use Prim.Native.Nat.{◌+◌, ◌≤◌, ℕ}
use lib.IntN.{ℤ}
use mathlib.Core.Bool.{Bool, cond, false, true}
use mathlib.Core.List.{List}
use mathlib.Core.Logic.{inl, inr}
use mathlib.Core.Path.{◌∙◌, ◌≡◌, ap, ap₂, refl, sym}
use native.Mathlib.Omega.{arith}
use Rattle.calculus.specs.Extended.{basic}
use Rattle.calculus.specs.NormalForms.{alike, occurrences}
use Rattle.lists.proofs.Lists.{count_snoc}
use Rattle.lists.specs.Lists.{count}
use Rattle.question.specs.Posed.{asked}
use Rattle.question.specs.declared.Progress.{Progress}
use Rattle.rows.specs.Rows.{branch_of, fact_of, row_at}
use Rattle.sameness.proofs.Facts.{facts_more, literal_named_law, one_more, row_lent, row_there}
use Rattle.sameness.specs.Ready.{facts_in, literal_named}
use Rattle.sameness.proofs.count_rows.Goals as goal
use Rattle.sameness.proofs.count_rows.Goals.{After-rows_alike, Joined-rows_alike, else-rows_alike, then-rows_alike}

-- how many are found with the row lent
found-is : (c : Joined-rows_alike) → c.if-rows_alike.found ≡ c.loop-k.found + cond c.rows_alike.result 1 0
found-is c =
    elim c.if-rows_alike.branch [
      | then-rows_alike w ↦ one_more (λ (t : c.rows_alike.result ≡ true). t) (λ (e : c.rows_alike.result ≡ false). e) (inl (w.if-rows_alike.true, w.found-is))
      | else-rows_alike w ↦ one_more (λ (t : c.rows_alike.result ≡ true). t) (λ (e : c.rows_alike.result ≡ false). e) (inr (w.if-rows_alike.false, w.found-is))
    ]

-- whether the fact of that row is alike
test : (c : After-rows_alike) →
    let args = c.args in
    let w = args.work.now in
    let k = c.loop-k.k in
    (s : Progress)
    → literal_named (fact_of args.row.now) ≤ s.literals
    → c.rows_alike.result ≡ alike (asked args.b.now s) (asked args.c.now args.t) (basic (fact_of args.row.now)) (basic (fact_of (row_at w k)))
test c s h =
    let args = c.args in
    let lent = c.row_at in
    c.rows_alike.ensures s args.t h (literal_named_law c.requires.1 c.loop-k.k c.loop-k-test.true lent.result.now lent.ensures)
    ∙ ap (λ (row : List ℤ). alike (asked args.b.now s) (asked args.c.now args.t) (basic (fact_of args.row.now)) (basic (fact_of row))) lent.ensures

pub loop-k-init : goal.loop-k-init
unfolding branch_of count
loop-k-init c = (omega arith, λ s h. refl)

pub row_at-requires : goal.row_at-requires
row_at-requires c = row_there c.requires.1 c.loop-k.k c.loop-k-test.true

pub rows_alike-requires : goal.rows_alike-requires
rows_alike-requires c =
    let pre = c.requires in
    record {
      row_literal = pre.0;
      other_literal = row_lent pre.1 c.loop-k.k c.loop-k-test.true c.row_at.result.now c.row_at.ensures;
    }

pub loop-k-preserved : goal.loop-k-preserved
loop-k-preserved c =
    let w = c.args.work.now in
    let loop = c.loop-k in (
      elim c.if-rows_alike.branch [
        | then-rows_alike w ↦ omega (arith, w.found-is)
        | else-rows_alike w ↦ omega (arith, w.found-is)
      ],
      λ s h.
          let same = alike (asked c.args.b.now s) (asked c.args.c.now c.args.t) (basic (fact_of c.args.row.now)) in
          found-is c
          ∙ ap₂ (λ (n : ℕ) (t : Bool). n + cond t 1 0) (loop.invariant.1 s h) (test (goal.at.loop-k-preserved c).After-rows_alike s h)
          ∙ sym (ap (count same) (facts_more w loop.k) ∙ count_snoc same (facts_in w loop.k) (basic (fact_of (row_at w loop.k)))),
    )

pub returns : goal.returns
returns c =
    let loop = c.loop-k in
    let w = c.args.work.now in
    let t = c.args.t in
    let e : loop.k ≡ t.constraints = omega arith in
    λ s h. loop.invariant.1 s h
    ∙ ap (λ (k : ℕ). occurrences (asked c.args.b.now s) (asked c.args.c.now t) (basic (fact_of c.args.row.now)) (facts_in w k)) e
