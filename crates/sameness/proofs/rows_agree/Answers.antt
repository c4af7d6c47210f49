use Prim.Native.Nat.{ℕ}
use lib.IntN.{ℤ}
use mathlib.Core.Bool.{Bool, ◌&&◌}
use mathlib.Core.List.{List}
use mathlib.Core.Path.{◌∙◌, ◌≡◌, ap, ap₂, refl, sym}
use native.Mathlib.Omega.{arith}
use Rattle.calculus.specs.Extended.{Constraint, basic}
use Rattle.calculus.specs.NormalForms.{agrees_by, agrees_on}
use Rattle.format.specs.Sameness.{agreement}
use Rattle.lists.proofs.Every.{every_broken, every_snoc}
use Rattle.lists.specs.Lists.{all}
use Rattle.question.specs.Posed.{asked}
use Rattle.rows.specs.Rows.{branch_of, fact_of, row_at}
use Rattle.sameness.proofs.Facts.{facts_at_law, facts_more, literal_named_law, row_lent, row_there}
use Rattle.sameness.specs.Ready.{facts_in}
use Rattle.sameness.proofs.rows_agree.Goals as goal
use Rattle.sameness.proofs.rows_agree.Goals.{After-agree, Start}

-- whether a fact agrees
abbrev agrees : Start → Constraint → Bool
agrees s = agrees_on agreement (asked s.args.b.now s.args.s) (facts_in s.args.mine.now s.args.s.constraints)
    (asked s.args.c.now s.args.t) (facts_in s.args.theirs.now s.args.t.constraints)

-- that of the row lent
test : (c : After-agree) →
    let k = c.loop-k.k in
    c.agree.result ≡ agrees (goal.at.After-agree c).Start (basic (fact_of (row_at c.args.mine.now k)))
test c =
    let k = c.loop-k.k in
    let lent = c.row_at-row in
    let named = literal_named_law c.requires.0 k c.loop-k-test.true lent.result.now lent.ensures in
    c.agree.ensures
    ∙ ap₂ agreement (c.count_rows.ensures c.args.s named) (c.count_rows-in-loop-k.ensures c.args.s named)
    ∙ ap (λ (row : List ℤ). agrees (goal.at.After-agree c).Start (basic (fact_of row))) lent.ensures

pub loop-k-init : goal.loop-k-init
unfolding branch_of
loop-k-init c = refl

pub row_at-row-requires : goal.row_at-row-requires
row_at-row-requires c = row_there c.requires.0 c.loop-k.k c.loop-k-test.true

pub count_rows-requires : goal.count_rows-requires
count_rows-requires c =
    let r = c.requires.0 in
    let literal = row_lent r c.loop-k.k c.loop-k-test.true c.row_at-row.result.now c.row_at-row.ensures in
    (literal, r)

pub count_rows-requires-in-loop-k : goal.count_rows-requires-in-loop-k
count_rows-requires-in-loop-k c =
    let pre = c.requires in
    let literal =
    row_lent pre.0 c.loop-k.k c.loop-k-test.true c.row_at-row.result.now
    c.row_at-row.ensures in
    (literal, pre.1)

pub returns-then-not-agree : goal.returns-then-not-agree
unfolding agrees_by
returns-then-not-agree c =
    let loop-test = c.loop-k-test in
    let k = c.loop-k.k in
    let w = c.args.mine.now in
    let count = c.args.s.constraints in
    sym (every_broken (agrees (goal.at.returns-then-not-agree c).Start) (facts_in w count) k (basic (fact_of (row_at w k))) (facts_at_law w count k loop-test.true)
    (sym (test (goal.at.returns-then-not-agree c).After-agree) ∙ c.if-not-agree.true))

pub loop-k-preserved : goal.loop-k-preserved
loop-k-preserved c =
    let loop = c.loop-k in
    let w = c.args.mine.now in
    ap (all (agrees (goal.at.loop-k-preserved c).Start)) (facts_more w loop.k)
    ∙ every_snoc (agrees (goal.at.loop-k-preserved c).Start) (facts_in w loop.k) (basic (fact_of (row_at w loop.k)))
    ∙ ap₂ ◌&&◌ loop.invariant (sym (test (goal.at.loop-k-preserved c).After-agree) ∙ c.if-not-agree.false)

pub returns : goal.returns
unfolding agrees_by
returns c =
    let e : c.loop-k.k ≡ c.args.s.constraints = omega arith in
    sym (ap (λ (k : ℕ). all (agrees (goal.at.returns c).Start) (facts_in c.args.mine.now k)) (sym e) ∙ c.loop-k.invariant)
