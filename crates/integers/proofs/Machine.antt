-- What the machine asks and tells of signed integers: a signed local holds bits, so that its value stands as `to_z w (of_z w z)`, which is z where z fits.
use Prim.Native.Nat.{ℕ, zero, suc, ◌-◌, ◌/◌, ◌^◌, ◌≤◌, ◌<◌, ◌*◌}
use native.Mathlib.Omega.{arith}
use native.Mathlib.Nat.{div-le_self, div-mul-le_self, mul-div_cancel_left, mul-pos}
use mathlib.Core.Path.{◌≡◌, refl, sym, ◌∙◌, ap, subst}
use mathlib.Core.Bool.{Bool, true, false, not, true≢false, false≢true}
use lib.Dec.{T, leb→le, lt→ltb, nleb→lt}
use lib.IntN.{ℤ, pos, negsuc, neg_ℤ, nat_abs, ◌-ℤ◌, ◌*ℤ◌, +ℤ_idl}
use lib.Signed.{mag, ◌≤ℤ◌, ◌<ℤ◌, le_z, lt_z, quot_z, le_z_yes, lt_z_yes, lt_z_no}
use mir.Syntax.{Width, w32, w64}
use mir.Val.{SFits, hbits, bits, to_z, of_z}
use mir.Facts.{to_z-of_z}
use mir.ValLaws.{sfits_le}
use borrow.Author.Tests.{lt-ltb, le-ltb, ltb-true, ltb-false}
use Rattle.integers.specs.Division.{floor_div}
use Rattle.integers.proofs.Ring.{v, ◌⊖◌, ring, lt_up}
use Rattle.integers.proofs.Laws.{abs_neg, sfits_abs}

-- ---- division by a positive number
mag_neg : (n a : ℕ) → n ≤ suc a → mag (neg_ℤ (pos n)) ≤ a
mag_neg zero a h = omega arith
mag_neg (suc n) a h = omega arith

mag_quot : (x : ℤ) (b : ℕ) → mag (quot_z x (pos b)) ≤ mag x
mag_quot (pos a) b = div-le_self a b
mag_quot (negsuc a) b = mag_neg (suc a / b) a (div-le_self (suc a) b)

-- the quotient fits, and the divisor's bits are not 0
pub quot_fits : {w : Width} (x d : ℤ) → SFits w x → pos 1 ≤ℤ d → SFits w (quot_z x d)
quot_fits x (pos b) fx h = sfits_le (mag_quot x b) fx
quot_fits x (negsuc b) fx h = absurd h.le

pub bits_pos : (w : Width) (d : ℤ) → pos 1 ≤ℤ d → 0 < of_z w d
bits_pos w (pos b) h = omega (arith, leb→le 1 b h.le)
bits_pos w (negsuc b) h = absurd h.le

pub div_need : (w : Width) (x d : ℤ) → SFits w x → SFits w d → pos 1 ≤ℤ d
    → (0 < of_z w d) × SFits w (quot_z (to_z w (of_z w x)) (to_z w (of_z w d)))
div_need w x d fx fd h = (bits_pos w d h, rw (to_z-of_z fx, to_z-of_z fd) (quot_fits x d fx h))

-- ---- floor division from division toward zero
pub floor_up : (x d : ℤ) → pos 0 ≤ℤ x → pos 1 ≤ℤ d → quot_z x d ≡ floor_div x (nat_abs d)
floor_up (pos a) (pos b) h k = refl
floor_up (pos a) (negsuc b) h k = absurd k.le
floor_up (negsuc a) d h k = absurd h.le

-- -1 - z is z with every bit turned
abbrev turned : ℤ → ℤ
turned (pos n) = negsuc n
turned (negsuc n) = pos n

pub flip : (z : ℤ) → negsuc 0 -ℤ z ≡ turned z
flip (pos n) = ring (v (negsuc 0) ⊖ v (pos n)) (v (negsuc n)) (omega arith)
flip (negsuc n) = ring (v (negsuc 0) ⊖ v (negsuc n)) (v (pos n)) (omega arith)

turned_mag : (z : ℤ) → mag (turned z) ≤ mag z
turned_mag (pos n) = omega arith
turned_mag (negsuc n) = omega arith

pub flip_fits : {w : Width} (z : ℤ) → SFits w z → SFits w (negsuc 0 -ℤ z)
flip_fits z f = rw flip (sfits_le (turned_mag z) f)

pub floor_down : (x d : ℤ) → x <ℤ pos 0 → pos 1 ≤ℤ d → negsuc 0 -ℤ quot_z (negsuc 0 -ℤ x) d ≡ floor_div x (nat_abs d)
floor_down (pos a) d h k = absurd (omega (arith, lt_up h))
floor_down (negsuc a) (pos b) h k =
    ap (λ (z : ℤ). negsuc 0 -ℤ quot_z z (pos b)) (flip (negsuc a))
    ∙ flip (pos (a / b))
floor_down (negsuc a) (negsuc b) h k = absurd k.le

-- ---- comparisons: what a branch's flag tells of two signed numbers that fit
module _ {w : Width} {x y : ℤ} (fx : SFits w x) (fy : SFits w y) where
  pub le_true : le_z (to_z w (of_z w x)) (to_z w (of_z w y)) ≡ true → x ≤ℤ y
  le_true e = le_z_yes (subst T (sym (rw (to_z-of_z fx, to_z-of_z fy) at e)) tt)

  pub lt_true : lt_z (to_z w (of_z w x)) (to_z w (of_z w y)) ≡ true → x <ℤ y
  lt_true e = lt_z_yes (subst T (sym (rw (to_z-of_z fx, to_z-of_z fy) at e)) tt)

  pub lt_false : lt_z (to_z w (of_z w x)) (to_z w (of_z w y)) ≡ false → y ≤ℤ x
  lt_false e = lt_z_no (subst (λ (t : Bool). T (not t)) (sym (rw (to_z-of_z fx, to_z-of_z fy) at e)) tt)

  pub le_false : le_z (to_z w (of_z w x)) (to_z w (of_z w y)) ≡ false → y <ℤ x
  le_false e = nle x y (subst (λ (t : Bool). T (not t)) (sym (rw (to_z-of_z fx, to_z-of_z fy) at e)) tt)
    where
      nle : (x y : ℤ) → T (not (le_z x y)) → y <ℤ x
      nle (pos a) (pos b) t = record { lt = lt→ltb b a (nleb→lt a b t) }
      nle (pos a) (negsuc b) t = record { lt = tt }
      nle (negsuc a) (pos b) t = absurd t
      nle (negsuc a) (negsuc b) t = record { lt = lt→ltb a b (nleb→lt b a t) }

-- ---- the negative of z, which was read as y
module _ (z y : ℤ) (e : y ≡ z) (h : nat_abs z < 9223372036854775808) where
  pub minus_fits : SFits w64 (pos 0 -ℤ y)
  minus_fits = rw (e, +ℤ_idl (neg_ℤ z)) (sfits_abs (neg_ℤ z) (rw (abs_neg z) (omega arith)))

  pub minus_is : to_z w64 (of_z w64 (pos 0 -ℤ y)) ≡ neg_ℤ z
  minus_is = to_z-of_z minus_fits ∙ ap (λ (x : ℤ). pos 0 -ℤ x) e ∙ +ℤ_idl (neg_ℤ z)

-- ---- bits read as signed, below and above the middle
pub to_z_low : (w : Width) (n : ℕ) → n < 2 ^ hbits w → to_z w n ≡ pos n
to_z_low w n h = rw (lt-ltb n (2 ^ hbits w) h)

pub to_z_high : (w : Width) (n : ℕ) → 2 ^ hbits w ≤ n → to_z w n ≡ negsuc (2 ^ bits w - suc n)
to_z_high w n h = rw (le-ltb n (2 ^ hbits w) h)

-- a u32's bits as an i64, by taking 2³² away
pub signed_of : (u : ℕ) → 2147483648 ≤ u → u < 4294967296 → to_z w64 u -ℤ pos 4294967296 ≡ to_z w32 u
signed_of u h k =
    ap (λ (z : ℤ). z -ℤ pos 4294967296) (to_z_low w64 u (omega arith))
    ∙ ring (v (pos u) ⊖ v (pos 4294967296)) (v (negsuc (4294967296 - suc u))) (omega arith)
    ∙ sym (to_z_high w32 u h)

-- ---- exact division by way of the quotient: x / d × d is x just where d divides x
neg_product : (k n a : ℕ) → k * n ≤ suc a → mag (neg_ℤ (pos k) *ℤ pos n) ≤ a
neg_product zero n a h = omega arith
neg_product (suc k) n a h = mag_neg (suc k * n) a h

back_mag : (x : ℤ) (n : ℕ) → mag (quot_z x (pos n) *ℤ pos n) ≤ mag x
back_mag (pos a) n = div-mul-le_self a n
back_mag (negsuc a) n = neg_product (suc a / n) n a (div-mul-le_self (suc a) n)

-- the quotient times the divisor fits
pub back_fits : {w : Width} (x : ℤ) (n : ℕ) → SFits w x → SFits w (quot_z x (pos n) *ℤ pos n)
back_fits x n f = sfits_le (back_mag x n) f

quot_neg : (t n : ℕ) → 0 < t → quot_z (neg_ℤ (pos t)) (pos n) ≡ neg_ℤ (pos (t / n))
quot_neg zero n h = absurd (omega arith)
quot_neg (suc t) n h = refl

-- the quotient of a multiple
pub quot_multiple : (n : ℕ) (k : ℤ) → 1 ≤ n → quot_z (pos n *ℤ k) (pos n) ≡ k
quot_multiple n (pos m) h = ap pos (mul-div_cancel_left m h)
quot_multiple n (negsuc m) h = quot_neg (n * suc m) n (mul-pos h (omega arith)) ∙ ap (λ q. neg_ℤ (pos q)) (mul-div_cancel_left (suc m) h)

-- ---- a number past the test for a sign

module _ (z : ℤ) (f : SFits w64 z) where
  pub not_negative : lt_z (to_z w64 (of_z w64 z)) (pos 0) ≡ false → (k : ℕ) × (k < 9223372036854775808) × (to_z w64 (of_z w64 z) ≡ pos k) × (z ≡ pos k)
  not_negative e = rw (to_z-of_z f) (go z f (rw (to_z-of_z f) at e))
    where
      go : (z : ℤ) → SFits w64 z → lt_z z (pos 0) ≡ false → (k : ℕ) × (k < 9223372036854775808) × (z ≡ pos k) × (z ≡ pos k)
      go (pos k) f h = (k, omega (arith, f.sfits), refl, refl)
      go (negsuc k) f h = absurd (true≢false h)

  pub negative : lt_z (to_z w64 (of_z w64 z)) (pos 0) ≡ true → (k : ℕ) × (k < 9223372036854775808) × (to_z w64 (of_z w64 z) ≡ negsuc k) × (z ≡ negsuc k)
  negative e = rw (to_z-of_z f) (go z f (rw (to_z-of_z f) at e))
    where
      go : (z : ℤ) → SFits w64 z → lt_z z (pos 0) ≡ true → (k : ℕ) × (k < 9223372036854775808) × (z ≡ negsuc k) × (z ≡ negsuc k)
      go (pos k) f h = absurd (let l : k < 0 = ltb-true k 0 h in omega arith)
      go (negsuc k) f h = (k, omega (arith, f.sfits), refl, refl)

-- ---- machine integers below −1, and −1

module _ (z : ℤ) (f : SFits w64 z) where
  pub below_minus_one : lt_z (to_z w64 (of_z w64 z)) (negsuc 0) ≡ true → (k : ℕ) × (z ≡ negsuc (suc k))
  below_minus_one e = go z (rw (to_z-of_z f) at e)
    where
      go : (z : ℤ) → lt_z z (negsuc 0) ≡ true → (k : ℕ) × (z ≡ negsuc (suc k))
      go (pos n) h = absurd (false≢true h)
      go (negsuc zero) h = absurd (false≢true h)
      go (negsuc (suc k)) h = (k, refl)

  pub minus_one : lt_z (to_z w64 (of_z w64 z)) (negsuc 0) ≡ false → lt_z (to_z w64 (of_z w64 z)) (pos 0) ≡ true → z ≡ negsuc 0
  minus_one d e = go z (rw (to_z-of_z f) at d) (rw (to_z-of_z f) at e)
    where
      go : (z : ℤ) → lt_z z (negsuc 0) ≡ false → lt_z z (pos 0) ≡ true → z ≡ negsuc 0
      go (pos n) g h = absurd (let l : n < 0 = ltb-true n 0 h in omega arith)
      go (negsuc zero) g h = refl
      go (negsuc (suc k)) g h = absurd (let l : suc k ≤ 0 = ltb-false 0 (suc k) g in omega arith)
