use Prim.Native.Nat.{ℕ, ◌+◌, ◌≤◌}
use lib.IntN.{ℤ, pos, neg_ℤ}
use mathlib.Core.List.{List, [], ◌∷◌, ◌++◌}
use mathlib.Core.Path.{◌∙◌, ap, ap₂, refl, sym}
use native.Mathlib.Omega.{arith}
use Rattle.integers.proofs.Laws.{minus_one_*ℤ}
use Rattle.calculus.specs.Facts.{Fact, arithmetic, ge}
use Rattle.calculus.specs.Children.{child_at}
use Rattle.calculus.specs.Rules.{least_power}
use Rattle.format.specs.Checking.{or_none}
use Rattle.question.specs.Columns.{column_at}
use Rattle.rows.specs.Rows.{branch_of}
use Rattle.rows.specs.Work.{single}
use Rattle.rows.proofs.Small.{neg_fits, neg_is}
use Rattle.splits.proofs.Forms.{child_one, last_is}
use Rattle.splits.proofs.put_bound.Goals as goal

pub overflow_sub-bound : goal.overflow_sub-bound
overflow_sub-bound c =
    let m : c.args.m ≤ 16 = c.requires.x_lt_variable_limit.1 in
    let h : c.least_power-bound.result ≤ 16 = omega (arith, c.least_power-bound.ensures.upper_bound) in
    neg_fits (pos c.least_power-bound.result) 16 h (omega arith)

pub returns : goal.returns
unfolding column_at
returns c =
    let br = branch_of c.args.work.now c.args.count in
    let r = c.least_power-bound.result in
    let m : c.args.m ≤ 16 = c.requires.x_lt_variable_limit.1 in
    let h : r ≤ 16 = omega (arith, c.least_power-bound.ensures.upper_bound) in
    c.put_single.ensures
    ∙ ap₂ (λ (z : ℤ) (j : ℕ). br ++ (arithmetic ge (single z j (pos 1)) ∷ []))
    (neg_is (pos r) 16 h (omega arith) ∙ minus_one_*ℤ (pos r) ∙ ap (λ (n : ℕ). neg_ℤ (pos n)) c.least_power-bound.ensures.value)
    c.column_of.ensures.0
    ∙ ap (λ (l : List Fact). br ++ l)
    (child_one (arithmetic ge (single (neg_ℤ (pos (least_power c.args.m c.args.s.n c.args.m 0))) (c.args.s.q + c.args.x) (pos 1)) ∷ []) [] 1
    refl
    ∙ sym (ap (λ (cs : List (List Fact)). or_none (child_at cs 1)) (last_is c.args.s c.args.x c.args.m c.requires.x_lt_variable_limit.2 (omega (arith, c.requires.x_lt_variable_limit)))))
