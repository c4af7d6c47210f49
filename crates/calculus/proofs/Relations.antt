-- Relations and multipliers: the tests say what the words say.
use Prim.Native.Nat.{zero, suc}
use native.Mathlib.Omega.{arith}
use mathlib.Core.Path.{◌≡◌, refl}
use mathlib.Core.Logic.{◌≢◌}
use mathlib.Core.Bool.{not, ◌&&◌}
use lib.Dec.{T, T_not, not_T, le→leb}
use lib.IntN.{ℤ, pos, negsuc}
use lib.Signed.{◌≤ℤ◌, le_z, non_neg}
use borrow.Author.Tests.{le-leb}
use Rattle.calculus.specs.LinearForms.{is_zero}
use Rattle.calculus.specs.Facts.{Relation, ge, eq, ne, holds, Holds}
use Rattle.calculus.proofs.LinearForms.{is_zero→, →is_zero}

pub nonneg→ : (z : ℤ) → T (non_neg z) → pos 0 ≤ℤ z
nonneg→ (pos n) t = record { le = le→leb 0 n (omega arith) }
nonneg→ (negsuc n) t = absurd t

pub →nonneg : (z : ℤ) → pos 0 ≤ℤ z → T (non_neg z)
→nonneg (pos n) h = tt
→nonneg (negsuc n) h = absurd h.le

pub nonneg_test : (z : ℤ) → le_z (pos 0) z ≡ non_neg z
nonneg_test (pos n) = le-leb 0 n (omega arith)
nonneg_test (negsuc n) = refl

pub nonzero→ : (z : ℤ) → T (not (is_zero z)) → z ≢ pos 0
nonzero→ z t e = T_not (is_zero z) t (→is_zero e)

pub →nonzero : (z : ℤ) → z ≢ pos 0 → T (not (is_zero z))
→nonzero z h = not_T (is_zero z) (λ t. h (is_zero→ z t))

pub holds→ : (r : Relation) (z : ℤ) → T (holds r z) → Holds r z
holds→ ge z t = nonneg→ z t
holds→ eq z t = is_zero→ z t
holds→ ne z t = nonzero→ z t

pub →holds : (r : Relation) (z : ℤ) → Holds r z → T (holds r z)
→holds ge z h = →nonneg z h
→holds eq z h = →is_zero h
→holds ne z h = →nonzero z h

-- ---- a constant that makes a relation false

pub fails→ : (r : Relation) (z : ℤ) → T (not (holds r z)) → Holds r z → ⊥
fails→ r z t h = T_not (holds r z) t (→holds r z h)

pub →fails : (r : Relation) (z : ℤ) → (Holds r z → ⊥) → T (not (holds r z))
→fails r z f = not_T (holds r z) (λ t. f (holds→ r z t))

-- ---- multipliers

pub positive→ : (m : ℤ) → T (non_neg m && not (is_zero m)) → pos 1 ≤ℤ m
positive→ (pos zero) t = absurd t
positive→ (pos (suc n)) t = record { le = le→leb 1 (suc n) (omega arith) }
positive→ (negsuc n) t = absurd t

pub →positive : (m : ℤ) → pos 1 ≤ℤ m → T (non_neg m && not (is_zero m))
→positive (pos zero) h = absurd h.le
→positive (pos (suc n)) h = tt
→positive (negsuc n) h = absurd h.le
