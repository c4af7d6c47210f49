-- What the machine tells of signed numbers.
use mathlib.Core.Path.{◌≡◌, refl, sym, ◌∙◌, ap}
use mathlib.Core.Bool.{Bool, true, false, not}
use Prim.Native.Nat.{ℕ, suc, ◌-◌, ◌^◌}
use native.Mathlib.Omega.{arith}
use borrow.Author.Tests.{eqb-true, eqb-false, eq-eqb, ne_eqb, le-leb, le-ltb}
use lib.Dec.{eqb}
use lib.IntN.{ℤ, pos, negsuc}
use lib.Signed.{le_z, lt_z}
use mir.Syntax.{w64}
use mir.Val.{SFits, of_z}
use Rattle.calculus.specs.LinearForms.{eqℤ}

-- numbers are equal just if their bits are
pub bits_equal : (x y : ℤ) → SFits w64 x → SFits w64 y → eqb (of_z w64 x) (of_z w64 y) ≡ eqℤ x y
bits_equal (pos m) (pos n) f g = refl
bits_equal (pos m) (negsuc n) f g = ne_eqb m (2 ^ 64 - suc n) (λ e. omega (arith, f.sfits, g.sfits))
bits_equal (negsuc m) (pos n) f g = ne_eqb (2 ^ 64 - suc m) n (λ e. omega (arith, f.sfits, g.sfits))
bits_equal (negsuc m) (negsuc n) f g = go (eqb m n) refl
  where
    go : (t : Bool) → eqb m n ≡ t → eqb (2 ^ 64 - suc m) (2 ^ 64 - suc n) ≡ eqb m n
    go true e = eq-eqb (2 ^ 64 - suc m) (2 ^ 64 - suc n) (ap (λ (k : ℕ). 2 ^ 64 - suc k) (eqb-true m n e)) ∙ sym e
    go false e = ne_eqb (2 ^ 64 - suc m) (2 ^ 64 - suc n) (λ h. eqb-false m n e (omega (arith, f.sfits, g.sfits))) ∙ sym e

-- what a test of the machine's numbers says
module _ (x y : ℤ) (f : SFits w64 x) (g : SFits w64 y) where
  pub equal_true : of_z w64 x ≡ of_z w64 y → eqℤ x y ≡ true
  equal_true e = sym (bits_equal x y f g) ∙ eq-eqb (of_z w64 x) (of_z w64 y) e

  pub equal_false : (of_z w64 x ≡ of_z w64 y → ⊥) → eqℤ x y ≡ false
  equal_false e = sym (bits_equal x y f g) ∙ ne_eqb (of_z w64 x) (of_z w64 y) e

-- below zero, by the test of at least zero
pub below_zero : (x : ℤ) → lt_z x (pos 0) ≡ not (le_z (pos 0) x)
below_zero (pos n) = le-ltb n 0 (omega arith) ∙ sym (ap not (le-leb 0 n (omega arith)))
below_zero (negsuc n) = refl
