-- A text as a numeral: when it is numeric, and when it is an integer read or written in decimal.
use mathlib.Core.Path.{◌≡◌, refl, sym, ◌∙◌, ap}
use mathlib.Core.Bool.{Bool, true, false, not, cond, ◌&&◌, ◌||◌}
use mathlib.Core.List.{List, []}
use Prim.Native.Nat.{ℕ, zero, suc, ◌≤◌, ◌<◌}
use native.Mathlib.Omega.{arith}
use native.Mathlib.Decide.{dec_lt}
use lib.Dec.{ltb, eqb}
use lib.IntN.{pos, negsuc}
use lib.ListN.{length}
use borrow.Author.Tests.{ne_eqb}
use Rattle.lists.specs.Lists.{all}
use Rattle.lists.proofs.Tests.{and_both, eqb_turned}
use Rattle.calculus.specs.Limits.{value_limit}
use Rattle.calculus.specs.LinearForms.{eqℤ}
use Rattle.calculus.specs.Strings.{eq_string}
use Rattle.calculus.specs.Extended.{zero_digit, is_digit, numeric, numeral, to_int}
use Rattle.format.specs.Fields.{u32, u32s}
use Rattle.format.proofs.Fields.{length_u32s}

-- ---- numeric texts

module _ (b : List ℕ) (at : ℕ) where
  pub numeric_is : (k : ℕ) → numeric (u32s b at k) ≡ (ltb 0 k && (all is_digit (u32s b at k) && (eqb k 1 || not (eqb (u32 b at) zero_digit))))
  unfolding numeric u32s
  numeric_is zero = refl
  numeric_is (suc k) = rw (length_u32s b at (suc k))

pub numeric_digits : (s : List ℕ) → numeric s ≡ true → all is_digit s ≡ true
unfolding numeric
numeric_digits s e = (and_both (all is_digit s) _ (and_both (ltb 0 (length s)) _ e).1).0

-- ---- values

-- a numeral of the value k
abbrev pub has_value : List ℕ → ℕ → Bool
has_value s k = numeric s && eqb (numeral s) k

-- a number that is the value n, or over the limit where n is, serves for every test of n within the limit
pub value_test : (n r k : ℕ) → k ≤ value_limit → (n ≤ value_limit → r ≡ n) → (value_limit < n → value_limit < r) → eqb r k ≡ eqb n k
value_test n r k h low high = go (dec_lt value_limit n)
  where
    go : Dec (value_limit < n) → eqb r k ≡ eqb n k
    go (yes l) = ne_eqb r k (λ e. omega (arith, high l)) ∙ sym (ne_eqb n k (λ e. omega arith))
    go (no l) = ap (λ (m : ℕ). eqb m k) (low (omega arith))

-- ---- integers

-- "read in decimal, −1 if .. not numeric"
pub read_below : (s : List ℕ) (k : ℕ) → eqℤ (negsuc (suc k)) (to_int s) ≡ false
read_below s k = go (numeric s)
  where
    go : (t : Bool) → eqℤ (negsuc (suc k)) (cond t (pos (numeral s)) (negsuc 0)) ≡ false
    go true = refl
    go false = ne_eqb (suc k) 0 (λ e. omega arith)

pub read_minus_one : (s : List ℕ) → eqℤ (negsuc 0) (to_int s) ≡ not (numeric s)
read_minus_one s = go (numeric s)
  where
    go : (t : Bool) → eqℤ (negsuc 0) (cond t (pos (numeral s)) (negsuc 0)) ≡ not t
    go true = refl
    go false = refl

pub read_value : (s : List ℕ) (k : ℕ) → eqℤ (pos k) (to_int s) ≡ has_value s k
read_value s k = go (numeric s)
  where
    go : (t : Bool) → eqℤ (pos k) (cond t (pos (numeral s)) (negsuc 0)) ≡ (t && eqb (numeral s) k)
    go true = eqb_turned k (numeral s)
    go false = refl

-- "empty for negatives"
pub empty_text : (b : List ℕ) (at k : ℕ) → eq_string (u32s b at k) [] ≡ eqb k 0
unfolding u32s
empty_text b at zero = refl
empty_text b at (suc k) = sym (ne_eqb (suc k) 0 (λ e. omega arith))
