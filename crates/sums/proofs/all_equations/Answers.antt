use Prim.Native.Nat.{◌*◌, ◌+◌, ◌<◌, ◌≤◌, ℕ}
use lib.IntN.{ℤ}
use mathlib.Core.List.{List}
use mathlib.Core.Path.{◌∙◌, ◌≡◌, ap, subst, sym}
use native.Mathlib.Omega.{arith}
use Rattle.format.specs.Fields.{u16}
use Rattle.rows.specs.Rows.{fact_of, row_at}
use Rattle.rows.specs.Work.{tag_of}
use Rattle.sums.proofs.Equations.{equations_absent, equations_all, equations_done, equations_no, equations_yes}
use Rattle.sums.proofs.all_equations.Goals as goal
use Rattle.sums.proofs.all_equations.Goals.{After-tag_of-tag, After-u16_at-fact, Else-count-fact}

-- the fact named
module _ (c : After-u16_at-fact) where
  abbrev w : List ℤ
  w = c.args.work.now

  abbrev k : ℕ
  k = c.loop-k.k

  abbrev fact : ℕ
  fact = u16 c.args.b.now (c.args.at + 6 * k)

  fact-is : c.u16_at-fact.result ≡ fact
  fact-is = c.u16_at-fact.ensures.0

on_branch : (c : Else-count-fact) → fact (goal.at.Else-count-fact c).After-u16_at-fact < c.args.count
on_branch c = subst (λ (k : ℕ). k < c.args.count) (fact-is (goal.at.Else-count-fact c).After-u16_at-fact) c.if-count-fact.false

tag_is : (c : After-tag_of-tag) →
    c.tag_of-tag.result ≡ tag_of (fact_of (row_at (w (goal.at.After-tag_of-tag c).After-u16_at-fact) (fact (goal.at.After-tag_of-tag c).After-u16_at-fact)))
tag_is c =
    c.tag_of-tag.ensures
    ∙ ap (λ (l : List ℤ). tag_of (fact_of l))
    (c.row_at.ensures ∙ ap (row_at (w (goal.at.After-tag_of-tag c).After-u16_at-fact)) (fact-is (goal.at.After-tag_of-tag c).After-u16_at-fact))

pub loop-k-init : goal.loop-k-init
loop-k-init c = let a = c.args in equations_all a.work.now a.count a.b.now a.at a.pairs

pub returns-then-count-fact : goal.returns-then-count-fact
returns-then-count-fact c =
    let here = (goal.at.returns-then-count-fact c).After-u16_at-fact in
    let a = c.args in
    sym (sym c.loop-k.invariant
    ∙ equations_absent (w here) a.count a.b.now a.at a.pairs
    (k here) (omega arith)
    (subst (λ (k : ℕ). a.count ≤ k) (fact-is here) c.if-count-fact.true))

pub row_at-requires : goal.row_at-requires
row_at-requires c = (omega (arith, c.requires.fine.few), omega (arith, c.requires.fine.few, c.requires.fine.room))

pub returns-then-tag-ne-TAG_EQ : goal.returns-then-tag-ne-TAG_EQ
returns-then-tag-ne-TAG_EQ c =
    let here = (goal.at.returns-then-tag-ne-TAG_EQ c).After-u16_at-fact in
    let a = c.args in
    sym (sym c.loop-k.invariant
    ∙ equations_no (w here) a.count a.b.now a.at a.pairs
    (k here) (omega arith) (on_branch (goal.at.returns-then-tag-ne-TAG_EQ c).Else-count-fact)
    (λ (e : tag_of
    (fact_of (row_at (w here) (fact here)))
    ≡ 1).
    c.if-tag-ne-TAG_EQ.true (tag_is (goal.at.returns-then-tag-ne-TAG_EQ c).After-tag_of-tag ∙ e)))

pub loop-k-preserved : goal.loop-k-preserved
loop-k-preserved c =
    let a = c.args in
    sym (equations_yes (w (goal.at.loop-k-preserved c).After-u16_at-fact) a.count a.b.now a.at a.pairs (k (goal.at.loop-k-preserved c).After-u16_at-fact)
    (omega arith) (on_branch (goal.at.loop-k-preserved c).Else-count-fact)
    (sym (tag_is (goal.at.loop-k-preserved c).After-tag_of-tag) ∙ c.if-tag-ne-TAG_EQ.false))
    ∙ c.loop-k.invariant

pub returns : goal.returns
returns c =
    let a = c.args in
    let loop = c.loop-k in
    sym (equations_done a.work.now a.count a.b.now a.at a.pairs loop.k (omega arith)) ∙ loop.invariant
