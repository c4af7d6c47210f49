use borrow.Author.Tests.{ne_eqb}
use mathlib.Core.Path.{◌≡◌, refl, sym, ap}
use native.Mathlib.Omega.{arith}
use Prim.Native.Nat.{ℕ, zero, suc, ◌≤◌}
use Rattle.format.specs.Question.{rank_of}
use Rattle.question.proofs.rank_of.Goals as goal

own-rank : (k : ℕ) → k ≤ 4 → k ≡ rank_of k
unfolding rank_of
own-rank zero h = refl
own-rank (suc zero) h = refl
own-rank (suc (suc zero)) h = refl
own-rank (suc (suc (suc zero))) h = refl
own-rank (suc (suc (suc (suc zero)))) h = refl
own-rank (suc (suc (suc (suc (suc k))))) h = absurd (omega arith)

pub returns-then-kind-le-KIND_ARITHMETIC : goal.returns-then-kind-le-KIND_ARITHMETIC
returns-then-kind-le-KIND_ARITHMETIC c = own-rank c.args.kind c.if-kind-le-KIND_ARITHMETIC.true

pub returns-then-kind-eq-KIND_EXTENDED : goal.returns-then-kind-eq-KIND_EXTENDED
unfolding rank_of
returns-then-kind-eq-KIND_EXTENDED c = sym (ap rank_of c.if-kind-eq-KIND_EXTENDED.true)

pub returns-else-kind-eq-KIND_EXTENDED : goal.returns-else-kind-eq-KIND_EXTENDED
unfolding rank_of
returns-else-kind-eq-KIND_EXTENDED c =
    let kind = c.args.kind in
    sym (rw (
      ne_eqb kind 1 (λ e. omega arith),
      ne_eqb kind 2 (λ e. omega arith),
      ne_eqb kind 3 (λ e. omega arith),
      ne_eqb kind 4 (λ e. omega arith),
      ne_eqb kind 11 c.if-kind-eq-KIND_EXTENDED.false,
    ))
