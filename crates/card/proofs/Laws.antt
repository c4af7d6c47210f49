-- Laws of the least power, in the form that a loop asks.
use mathlib.Core.Path.{◌≡◌, refl, sym, ◌∙◌, ap}
use Prim.Native.Nat.{ℕ, zero, suc, ◌+◌, ◌-◌, ◌^◌, ◌≤◌, ◌<◌}
use native.Mathlib.Omega.{arith}
use borrow.Author.Tests.{le-leb, lt-leb}
use Rattle.lists.proofs.Lists.{down}
use Rattle.calculus.specs.Rules.{least_power}

module _ (n m k : ℕ) where
  pub least_power_done : (d : ℕ) → d ≤ 0 → least_power d n m k ≡ k
  least_power_done zero h = refl
  least_power_done (suc d) h = absurd (omega arith)

  pub least_power_yes : (d : ℕ) → m ≤ n ^ k → least_power d n m k ≡ k
  least_power_yes zero h = refl
  least_power_yes (suc d) h = rw (le-leb m (n ^ k) h, least_power)

  pub least_power_no : (d : ℕ) → 0 < d → n ^ k < m → least_power d n m k ≡ least_power (d - 1) n m (k + 1)
  least_power_no zero h l = absurd (omega arith)
  least_power_no (suc d) h l =
      rw (lt-leb m (n ^ k) l, least_power) (ap (λ (i : ℕ). least_power d n m i) one ∙ ap (λ (i : ℕ). least_power i n m (k + 1)) (sym (down d)))
    where
      one : suc k ≡ k + 1
      one = omega arith
