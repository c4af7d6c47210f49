-- Values of forms: a sum of products at an i64, and the loops over a form and over the facts of a branch.
use Prim.Native.Nat.{ℕ, zero, suc, ◌+◌, ◌*◌, ◌≤◌, ◌<◌}
use native.Mathlib.Numerals.{add-one}
use native.Mathlib.Omega.{arith}
use mathlib.Core.Path.{◌≡◌, refl, ◌∙◌, ap, ap₂}
use mathlib.Core.Bool.{true, ◌&&◌}
use mathlib.Core.List.{List, [], ◌∷◌, ◌++◌}
use lib.ListN.{length, get_or, drop, drop_of_length-le}
use lib.Seq.{drop-cons}
use lib.IntN.{ℤ, pos, nat_abs, one, ◌+ℤ◌, ◌*ℤ◌, *ℤ-zero, *ℤ-one}
use mir.Syntax.{w64}
use mir.Val.{SFits, to_z, of_z}
use mir.Facts.{to_z-of_z}
use Rattle.integers.proofs.Laws.{abs_+_le, abs_*_le}
use Rattle.lists.proofs.Lists.{all_append, all_replicate}
use Rattle.calculus.specs.Limits.{value_limit, Small}
use Rattle.calculus.specs.LinearForms.{dot, zeros, value_in}
use Rattle.calculus.specs.Facts.{Fact, Branch, same, not_same, is_literal, arithmetic, holds}
use Rattle.format.specs.Fields.{all_within}
use Rattle.format.specs.Checking.{keeps_fact, keeps}
use Rattle.format.proofs.Limits.{within→}
use Rattle.rows.specs.Work.{Within}
use Rattle.rows.proofs.Small.{small_fits, all_small}

-- ---- s + m x at an i64, where |s| is at most n, |m| at most a and |x| at most b

module _ (s m x : ℤ) (n a b : ℕ) (hs : nat_abs s ≤ n) (hm : nat_abs m ≤ a) (hx : nat_abs x ≤ b) (fm : SFits w64 m) (fx : SFits w64 x)
    (room : n + a * b ≤ 8000000000000000000) where
  product_small : nat_abs (m *ℤ x) ≤ a * b
  product_small = abs_*_le m x hm hx

  plain : to_z w64 (of_z w64 m) *ℤ to_z w64 (of_z w64 x) ≡ m *ℤ x
  plain = ap₂ (λ (a b : ℤ). a *ℤ b) (to_z-of_z fm) (to_z-of_z fx)

  pub product_fits : SFits w64 (to_z w64 (of_z w64 m) *ℤ to_z w64 (of_z w64 x))
  product_fits = rw plain (small_fits (m *ℤ x) (omega (arith, product_small)))

  plain_product : to_z w64 (of_z w64 (to_z w64 (of_z w64 m) *ℤ to_z w64 (of_z w64 x))) ≡ m *ℤ x
  plain_product = to_z-of_z product_fits ∙ plain

  pub step_small : nat_abs (s +ℤ m *ℤ x) ≤ n + a * b
  step_small = abs_+_le s (m *ℤ x) hs product_small

  pub step_fits : SFits w64 (s +ℤ to_z w64 (of_z w64 (to_z w64 (of_z w64 m) *ℤ to_z w64 (of_z w64 x))))
  step_fits = rw plain_product (small_fits (s +ℤ m *ℤ x) (omega (arith, step_small)))

  pub step_is : to_z w64 (of_z w64 (s +ℤ to_z w64 (of_z w64 (to_z w64 (of_z w64 m) *ℤ to_z w64 (of_z w64 x))))) ≡ s +ℤ m *ℤ x
  step_is = to_z-of_z step_fits ∙ ap (λ (z : ℤ). s +ℤ z) plain_product

-- ---- a form's value

-- one column more, and none left
pub dot_more : (cs xs : List ℤ) (j i : ℕ) → j < length cs → i < length xs
    → dot (drop j cs) (drop i xs) ≡ (get_or cs j (pos 0) *ℤ get_or xs i (pos 0)) +ℤ dot (drop (j + 1) cs) (drop (i + 1) xs)
dot_more cs xs j i h k = rw (drop-cons cs j (pos 0) h, drop-cons xs i (pos 0) k, add-one j, add-one i)

pub dot_done : (cs xs : List ℤ) (j i : ℕ) → length cs ≤ j → dot (drop j cs) (drop i xs) ≡ pos 0
dot_done cs xs j i h = rw (drop_of_length-le cs h)

-- the constant and the columns
pub value_row : (m row : List ℤ) → length row ≡ 50 → value_in m (drop 1 row) ≡ get_or row 1 (pos 0) +ℤ dot (drop 2 row) m
unfolding one
value_row m [] h = absurd (omega arith)
value_row m (x ∷ []) h = absurd (omega arith)
value_row m (x ∷ c ∷ cs) h = ap (λ (z : ℤ). z +ℤ dot cs m) (*ℤ-one c)

-- ---- a model that is filled up with zeros

dot_zero : (e : List ℤ) (n : ℕ) → dot e (zeros n) ≡ pos 0
dot_zero [] n = refl
dot_zero (k ∷ e) zero = refl
dot_zero (k ∷ e) (suc n) = ap₂ ◌+ℤ◌ (*ℤ-zero k) (dot_zero e n)

dot_filled : (e v : List ℤ) (n : ℕ) → dot e (v ++ zeros n) ≡ dot e v
dot_filled [] v n = refl
dot_filled (k ∷ e) [] n = dot_zero (k ∷ e) n
dot_filled (k ∷ e) (z ∷ v) n = ap (λ x. (k *ℤ z) +ℤ x) (dot_filled e v n)

keeps_fact_filled : (m : List ℤ) (n : ℕ) (f : Fact) → keeps_fact (m ++ zeros n) f ≡ keeps_fact m f
keeps_fact_filled m n (same x y) = refl
keeps_fact_filled m n (not_same x y) = refl
keeps_fact_filled m n (is_literal x l) = refl
keeps_fact_filled m n (arithmetic r e) = ap (holds r) (dot_filled e (pos 1 ∷ m) n)

pub keeps_filled : (m : List ℤ) (n : ℕ) (b : Branch) → keeps (m ++ zeros n) b ≡ keeps m b
unfolding keeps
keeps_filled m n [] = refl
keeps_filled m n (f ∷ b) = ap₂ ◌&&◌ (keeps_fact_filled m n f) (keeps_filled m n b)

pub within_filled : (m : List ℤ) (n : ℕ) → all_within value_limit m ≡ true → Within value_limit (m ++ zeros n)
within_filled m n e =
    all_small value_limit (m ++ zeros n)
    (all_append (Small value_limit) m (zeros n) (within→ value_limit m e) (all_replicate (Small value_limit) n (pos 0) (omega arith)))
