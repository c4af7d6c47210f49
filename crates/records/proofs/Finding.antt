-- What was found at a position says what stands there.
use native.Mathlib.Omega.{arith}
use mathlib.Core.Path.{◌≡◌, refl, sym}
use mathlib.Core.Logic.{◌⊎◌, inl, inr}
use mathlib.Core.Bool.{Bool, true, false, cond}
use mathlib.Core.List.{List}
use Prim.Native.Nat.{ℕ, ◌+◌, ◌≤◌, ◌<◌}
use lib.ListN.{length}
use denote.Enum.Declared.{tag_of}
use borrow.Author.Tests.{leb-true, leb-false}
use Rattle.format.specs.Records.{leading_whole, whole, next, kind, size}
use Rattle.format.proofs.Faults.{clash}
use Rattle.records.specs.Found.{found_at, WholeRecord}
use Rattle.records.specs.contracts.Found.{the_type}
use Rattle.records.specs.declared.Found.{Found}
use Rattle.records.specs.declared.Found.TheVariants.{Whole, Cut, Nothing}

module _ (b : List ℕ) (at : ℕ) where
  -- what is found, by whether the six leading bytes and the body are there
  abbrev found : Bool → Bool → Found
  found h w = cond h (cond w (Whole (kind b at) (size b at)) (Cut (kind b at))) Nothing

  pub found_nothing : found_at b at ≡ Nothing → length b < at + 6
  unfolding found_at
  found_nothing = go (leading_whole b at) (whole b at) refl
    where
      go : (h w : Bool) → leading_whole b at ≡ h → found h w ≡ Nothing → length b < at + 6
      go true true eh q = clash cc
      go true false eh q = clash cc
      go false w eh q = leb-false (at + 6) (length b) eh

  pub found_cut : (k : ℕ) → found_at b at ≡ Cut k → (k ≡ kind b at) × (at + 6 ≤ length b) × (length b < next b at)
  unfolding found_at
  found_cut k = go (leading_whole b at) (whole b at) refl refl
    where
      go : (h w : Bool) → leading_whole b at ≡ h → whole b at ≡ w → found h w ≡ Cut k → (k ≡ kind b at) × (at + 6 ≤ length b) × (length b < next b at)
      go true true eh ew q = clash cc
      go true false eh ew q = (cc, leb-true (at + 6) (length b) eh, leb-false (next b at) (length b) ew)
      go false w eh ew q = clash cc

  pub found_whole : (k m : ℕ) → found_at b at ≡ Whole k m → WholeRecord b at k m
  unfolding found_at
  found_whole k m = go (leading_whole b at) (whole b at) refl refl
    where
      go : (h w : Bool) → leading_whole b at ≡ h → whole b at ≡ w → found h w ≡ Whole k m → WholeRecord b at k m
      go true true eh ew q =
          let e : m ≡ size b at = cc in
          (cc, e, rw e (leb-true (next b at) (length b) ew))
      go true false eh ew q = clash cc
      go false w eh ew q = clash cc

-- ---- no whole record, and a whole one

-- it was told by its tag
pub not_whole : (b : List ℕ) (at : ℕ) (f : Found) → f ≡ found_at b at → (tag_of the_type f ≡ 1) ⊎ (tag_of the_type f ≡ 2) → length b < next b at
not_whole b at (Whole k m) e (inl t) = absurd (omega arith)
not_whole b at (Whole k m) e (inr t) = absurd (omega arith)
not_whole b at (Cut k) e t = (found_cut b at k (sym e)).2
not_whole b at Nothing e t = omega (arith, found_nothing b at (sym e))

-- a whole record ends within the bytes
pub all_there : (b : List ℕ) (at k m : ℕ) → WholeRecord b at k m → next b at ≤ length b
all_there b at k m w = rw w.1 at w.2
