use Prim.Native.Nat.{suc}
use borrow.Author.Tests.{lt-leb}
use lib.IntN.{ℤ}
use mathlib.Core.List.{List, []}
use mathlib.Core.Option.{Option}
use mathlib.Core.Path.{◌∙◌, ap, sym}
use native.Mathlib.Omega.{arith}
use Rattle.calculus.specs.Facts.{Fact, Question}
use Rattle.calculus.specs.Rules.{is_false, guard, then}
use Rattle.conclusions.specs.Made.{closing_of}
use Rattle.rows.proofs.Branches.{branch_at, branch_beyond}
use Rattle.rows.specs.Rows.{fact_of}
use Rattle.conclusions.proofs.a_conf.Goals as goal

pub returns-else-k-count : goal.returns-else-k-count
unfolding closing_of
returns-else-k-count c =
    let a = c.args in
    λ (u : Question). ap closing_of (lt-leb (suc a.k) a.count (omega (arith, c.if-k-count.false)))
    ∙ sym (ap (λ (o : Option Fact). then o (λ f. guard (is_false f) [])) (branch_beyond a.work.now a.count a.k c.if-k-count.false))

pub returns-then-k-count : goal.returns-then-k-count
unfolding closing_of
returns-then-k-count c =
    let w = c.args.work.now in
    λ (u : Question). ap closing_of (c.is_false.ensures ∙ ap (λ (l : List ℤ). is_false (fact_of l)) c.row_at.ensures)
    ∙ sym (ap (λ (o : Option Fact). then o (λ f. guard (is_false f) [])) (branch_at w c.args.count c.args.k (omega arith)))
