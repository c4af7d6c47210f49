-- The loop that fills a form's row: what holds of the row after i of n pairs, and what one pair more does to it.
use Prim.Native.Nat.{ℕ, zero, suc, ◌+◌, ◌≤◌, ◌<◌}
use native.Mathlib.Omega.{arith}
use mathlib.Core.Path.{◌≡◌, refl, sym, ◌∙◌, ap, ap₂}
use mathlib.Core.Bool.{true, ◌&&◌}
use mathlib.Core.List.{List, [], ◌∷◌, ◌++◌, map}
use borrow.Author.Tests.{le-leb}
use lib.ListN.{length, take, drop, set, length-set, take-append-drop}
use lib.Seq.{take-set-le, drop-set-add}
use lib.Dec.{leb, ltb}
use lib.IntN.{ℤ, nat_abs, pos, one, ◌*ℤ◌, *ℤ-zero, *ℤ-one, *ℤ_comm}
use Rattle.lists.proofs.Tests.{and_both}
use Rattle.calculus.specs.Limits.{column_limit, number_limit}
use Rattle.calculus.specs.LinearForms.{zeros, scale}
use Rattle.format.specs.Question.{coefficient_in_range, pair_in_range, rising, fill_coefficients}
use Rattle.format.proofs.Sums.{ranged}

-- columns that rise from somewhere on rise from 0 on
rising_low : (c low : ℕ) (ts : List (ℕ × ℤ)) → rising c low ts ≡ true → rising c 0 ts ≡ true
unfolding rising
rising_low c low [] e = refl
rising_low c low (t ∷ ts) e =
    let (p, q) = and_both (pair_in_range c low t) (rising c (t.0 + 1) ts) e in
    let (l, r) = and_both (leb low t.0) (ltb t.0 c && coefficient_in_range t.1) p in
    ap₂ ◌&&◌ (ap₂ ◌&&◌ (le-leb 0 t.0 (omega arith)) r) q

-- ---- coefficients times a sign

-- the pairs with their coefficients times a sign
abbrev signed : ℤ → List (ℕ × ℤ) → List (ℕ × ℤ)
signed s ts = map (λ t. (t.0, s *ℤ t.1)) ts

scale_set : (s : ℤ) (row : List ℤ) (j : ℕ) (z : ℤ) → scale s (set row j z) ≡ set (scale s row) j (s *ℤ z)
scale_set s [] j z = refl
scale_set s (x ∷ row) zero z = refl
scale_set s (x ∷ row) (suc j) z = ap (λ (l : List ℤ). (s *ℤ x) ∷ l) (scale_set s row j z)

scale_zeros : (s : ℤ) (n : ℕ) → scale s (zeros n) ≡ zeros n
scale_zeros s zero = refl
scale_zeros s (suc n) = ap₂ ◌∷◌ (*ℤ-zero s) (scale_zeros s n)

fill_scaled : (s : ℤ) (row : List ℤ) (ts : List (ℕ × ℤ)) → fill_coefficients (scale s row) (signed s ts) ≡ scale s (fill_coefficients row ts)
unfolding fill_coefficients
fill_scaled s row [] = refl
fill_scaled s row (t ∷ ts) =
    ap (λ (l : List ℤ). fill_coefficients l (signed s ts)) (sym (scale_set s row t.0 t.1)) ∙ fill_scaled s (set row t.0 t.1) ts

fill_signed : (s : ℤ) (n : ℕ) (ts : List (ℕ × ℤ)) → fill_coefficients (zeros n) (signed s ts) ≡ scale s (fill_coefficients (zeros n) ts)
fill_signed s n ts = ap (λ (l : List ℤ). fill_coefficients l (signed s ts)) (sym (scale_zeros s n)) ∙ fill_scaled s (zeros n) ts

-- by 1 a form stays as it is
pub scale_one : (a : List ℤ) → scale (pos 1) a ≡ a
unfolding one
scale_one [] = refl
scale_one (x ∷ a) = ap₂ ◌∷◌ (*ℤ_comm (pos 1) x ∙ *ℤ-one x) (scale_one a)

-- ---- the loop

module _ (all : List (ℕ × ℤ)) (tag constant sign : ℤ) where
  -- of the pairs of a form some are left
  pub record Filling (out : List ℤ) (ts : List (ℕ × ℤ)) : Type 0 where
    pub long : length out ≡ 50
    pub front : take 2 out ≡ tag ∷ constant ∷ []
    pub rises : rising column_limit 0 ts ≡ true
    pub left : fill_coefficients (drop 2 out) (signed sign ts) ≡ scale sign (fill_coefficients (zeros 48) all)

  pub filling_start : rising column_limit 0 all ≡ true → Filling (tag ∷ constant ∷ zeros 48) all
  filling_start h = record {
    long = refl;
    front = refl;
    rises = h;
    left = fill_signed sign 48 all;
  }

  module _ (out : List ℤ) (t : ℕ × ℤ) (ts : List (ℕ × ℤ)) (s : Filling out (t ∷ ts)) where
    pub column_small : t.0 < 48
    column_small = (ranged column_limit 0 t ts s.rises).column

    pub coefficient_small : nat_abs t.1 ≤ number_limit
    coefficient_small = (ranged column_limit 0 t ts s.rises).coefficient

    pub filling_more : Filling (set out (t.0 + 2) (sign *ℤ t.1)) ts
    unfolding fill_coefficients
    filling_more =
        let e : t.0 + 2 ≡ 2 + t.0 = omega arith in
        let z = sign *ℤ t.1 in
        record {
          long = length-set out (t.0 + 2) z ∙ s.long;
          front = take-set-le 2 out (t.0 + 2) z (omega arith) ∙ s.front;
          rises = rising_low column_limit (t.0 + 1) ts (ranged column_limit 0 t ts s.rises).rest;
          left =
              ap (λ (k : ℕ). fill_coefficients (drop 2 (set out k z)) (signed sign ts)) e
              ∙ ap (λ (l : List ℤ). fill_coefficients l (signed sign ts)) (drop-set-add 2 out t.0 z)
              ∙ s.left;
        }

  -- none is left
  pub filling_done : (out : List ℤ) → Filling out [] → out ≡ tag ∷ constant ∷ scale sign (fill_coefficients (zeros 48) all)
  unfolding fill_coefficients
  filling_done out s = sym (take-append-drop 2 out) ∙ ap₂ ◌++◌ s.front s.left
