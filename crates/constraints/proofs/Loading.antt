-- The constraints go into their rows one by one: those loaded and those left are the question's.
use Prim.Native.Nat.{ℕ, zero, suc, ◌+◌, ◌-◌, ◌≤◌, ◌<◌}
use native.Mathlib.Omega.{arith}
use mathlib.Core.Path.{◌≡◌}
use mathlib.Core.List.{List, [], ◌∷◌, ◌++◌, append_assoc, append-nil}
use Rattle.lists.proofs.Lists.{down}
use Rattle.calculus.specs.Facts.{Branch}
use Rattle.format.specs.Records.{size, kind, next}
use Rattle.format.specs.Question.{body_fact}
use Rattle.format.specs.Places.{facts_at}

pub loaded_more : (b : List ℕ) (at left : ℕ) (br : Branch) → 0 < left
    → (br ++ (body_fact b (kind b at) (at + 6) (size b at) ∷ [])) ++ facts_at b (left - 1) (next b at) ≡ br ++ facts_at b left at
unfolding facts_at
loaded_more b at zero br h = absurd (omega arith)
loaded_more b at (suc left) br h = rw (append_assoc, down left)

pub loaded_all : (b : List ℕ) (at left : ℕ) (br : Branch) → left ≤ 0 → br ++ facts_at b left at ≡ br
unfolding facts_at
loaded_all b at zero br h = append-nil br
loaded_all b at (suc left) br h = absurd (omega arith)
