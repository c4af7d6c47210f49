use native.Mathlib.Omega.{arith}
use mathlib.Core.Bool.{Bool, ◌&&◌}
use mathlib.Core.Logic.{◌⊎◌, inl, inr}
use mathlib.Core.Path.{◌≡◌, ◌∙◌, sym}
use Prim.Native.Nat.{ℕ, ◌+◌, ◌<◌, ◌≤◌}
use lib.Dec.{leb}
use borrow.Author.Tests.{le-leb, lt-leb}
use Rattle.format.specs.Fields.{u32}
use Rattle.format.specs.StepForms.{operands_in_range}
use Rattle.steps.proofs.sum_in_range.Goals as goal
use Rattle.steps.proofs.sum_in_range.Goals.{then-divisor-ge1, else-divisor-ge1}

-- a divisor of 0, and one that is too large
none : (d u : ℕ) (m : Bool) → d ≡ u → d < 1 → leb 1 d ≡ (leb 1 u && (leb u 2147483647 && m))
none d u m e h = rw (← e, lt-leb 1 d h)

large : (d u : ℕ) (m : Bool) → d ≡ u → 1 ≤ d → ((1 ≤ d) × (2147483647 < d)) ⊎ (d < 1) → leb d 2147483647 ≡ (leb 1 u && (leb u 2147483647 && m))
large d u m e l (inl (a, b)) = rw (← e, le-leb 1 d l, lt-leb d 2147483647 b)
large d u m e l (inr b) = absurd (omega arith)

pub returns-then-divisor-le-DIVISOR_LIMIT : goal.returns-then-divisor-le-DIVISOR_LIMIT
unfolding operands_in_range
returns-then-divisor-le-DIVISOR_LIMIT c =
    let (one, most) = c.if-divisor-le-DIVISOR_LIMIT.true in
    λ p k. c.multipliers_within.ensures
    ∙ sym
    (rw (le-leb 1 (u32 c.args.b.now (c.args.body + 4)) (omega arith), le-leb (u32 c.args.b.now (c.args.body + 4)) 2147483647 (omega arith)))

pub returns-else-divisor-le-DIVISOR_LIMIT : goal.returns-else-divisor-le-DIVISOR_LIMIT
unfolding operands_in_range
returns-else-divisor-le-DIVISOR_LIMIT c =
    let is = c.u32_at-divisor.ensures.0 in
    λ p k. elim c.if-divisor-ge1.branch [
      | then-divisor-ge1 w ↦ w.t-7-is ∙ large _ _ _ is w.if-divisor-ge1.true c.if-divisor-le-DIVISOR_LIMIT.either
      | else-divisor-ge1 w ↦ w.t-7-is ∙ none _ _ _ is w.if-divisor-ge1.false
    ]
