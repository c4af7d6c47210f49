-- Tests of all and of some numbers below a bound.
use Prim.Native.Nat.{ℕ, zero, suc, ◌<◌}
use native.Mathlib.Omega.{arith}
use native.Mathlib.Decide.{ℕ_discrete}
use mathlib.Core.Path.{◌≡◌, refl, ap₂, subst}
use mathlib.Core.Logic.{◌⊎◌, inl, inr}
use mathlib.Core.Bool.{Bool, ◌&&◌, ◌||◌}
use lib.Dec.{T}
use Rattle.lists.specs.Lists.{all_below, any_below}
use Rattle.lists.proofs.Tests.{and→, →and, or→, →or_left, →or_right}

below_suc : (P : ℕ → Type 0) (m i : ℕ) → i < suc m → P m → (i < m → P i) → P i
below_suc P m i h p ih = go (ℕ_discrete m i)
  where
    go : Dec (m ≡ i) → P i
    go (yes e) = subst P e p
    go (no f) = ih (omega arith)

pub any_below→ : (m : ℕ) (t : ℕ → Bool) → T (any_below m t) → (i : ℕ) × (i < m) × T (t i)
any_below→ zero t h = absurd h
any_below→ (suc m) t h = go (or→ (t m) (any_below m t) h) (any_below→ m t)
  where
    go : T (t m) ⊎ T (any_below m t) → (T (any_below m t) → (i : ℕ) × (i < m) × T (t i)) → (i : ℕ) × (i < suc m) × T (t i)
    go (inl s) ih = (m, omega arith, s)
    go (inr s) ih = let (i, g, r) = ih s in (i, omega arith, r)

pub →any_below : (m : ℕ) (t : ℕ → Bool) (i : ℕ) → i < m → T (t i) → T (any_below m t)
→any_below zero t i h s = absurd (omega arith)
→any_below (suc m) t i h s =
    below_suc (λ k. T (t k) → T (t m || any_below m t)) m i h (→or_left (t m) (any_below m t)) (λ g s. →or_right (t m) (any_below m t) (→any_below m t i g s)) s

pub all_below→ : (m : ℕ) (t : ℕ → Bool) → T (all_below m t) → (i : ℕ) → i < m → T (t i)
all_below→ zero t h i g = absurd (omega arith)
all_below→ (suc m) t h i g = let (s, r) = and→ (t m) (all_below m t) h in below_suc (λ k. T (t k)) m i g s (all_below→ m t r i)

pub →all_below : (m : ℕ) (t : ℕ → Bool) → ((i : ℕ) → i < m → T (t i)) → T (all_below m t)
→all_below zero t h = tt
→all_below (suc m) t h = →and (t m) (all_below m t) (h m (omega arith)) (→all_below m t (λ i g. h i (omega arith)))

-- two tests that agree everywhere agree below a bound
pub all_below_same : (m : ℕ) (s t : ℕ → Bool) → ((i : ℕ) → s i ≡ t i) → all_below m s ≡ all_below m t
all_below_same zero s t e = refl
all_below_same (suc m) s t e = ap₂ ◌&&◌ (e m) (all_below_same m s t e)
