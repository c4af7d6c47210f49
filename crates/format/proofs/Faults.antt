-- A chain of tests: no number applies exactly when every test is passed.
use Prim.Native.Nat.{ℕ, suc}
use native.Mathlib.Omega.{arith}
use mathlib.Core.Path.{◌≡◌, refl, sym, ◌∙◌, ap}
use mathlib.Core.Logic.{◌≢◌}
use mathlib.Core.Bool.{Bool, true, false, true≢false}
use Rattle.format.specs.Records.{need}

-- another number than the test's: the test is passed, and the number is that of what is asked next
pub another : (k : ℕ) (t : Bool) (later : ℕ) {c : ℕ} → k ≢ c → need k t later ≡ c → (t ≡ true) × (later ≡ c)
another k true later n e = (refl, e)
another k false later n e = absurd (n e)

pub none_applies : (c : ℕ) (t : Bool) (later : ℕ) → need (suc c) t later ≡ 0 → (t ≡ true) × (later ≡ 0)
none_applies c t later e = another (suc c) t later (λ z. omega arith) e

pub passed : (c : ℕ) (t : Bool) (later : ℕ) → t ≡ true → need c t later ≡ later
passed c t later e = ap (λ x. need c x later) e

pub not_both : (b : Bool) → b ≡ true → b ≡ false → ⊥
not_both b e f = true≢false (sym e ∙ f)

-- what follows from a contradiction found by `cc`
pub clash : {X : Type 0} → ◌≡◌ {A = ℕ} 0 1 → X
clash z = absurd (omega arith)
