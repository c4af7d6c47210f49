-- Laws of ℤ that the library lacks: sums and products, order, differences, size, and division rounding down.
use Prim.Native.Nat.{ℕ, zero, suc, ◌+◌, ◌*◌, ◌/◌, ◌^◌, ◌≤◌, ◌<◌}
use native.Mathlib.Omega.{arith}
use native.Mathlib.Nat.{mul-le-mul, mul-le-mul_left, div-add-mod, mod-lt, lt_of_mul-lt-mul_left, lt_of_le_of_lt}
use mathlib.Core.Path.{◌≡◌, refl, sym, ◌∙◌, ap}
use mathlib.Core.Logic.{◌≢◌, ◌⊎◌, inl, inr}
use lib.IntN.{ℤ, pos, negsuc, neg_ℤ, nat_abs, ◌+ℤ◌, ◌-ℤ◌, ◌*ℤ◌}
use lib.Signed.{mag, ◌≤ℤ◌, ◌<ℤ◌, ≤ℤ_refl, yes_non_neg, pos-nat_abs}
use mir.Syntax.{Width}
use mir.Val.{SFits, hbits}
use Rattle.integers.specs.Division.{floor_div}
use Rattle.integers.proofs.Ring.{up, dn, inj, up_le, up_lt, le_up, lt_up, up_neg, dn_neg, Expr, v, ◌⊕◌}
use Rattle.integers.proofs.Ring.{◌⊖◌, ◌⊗◌, ⊝, ev, ups, dns, sound, ring, le_by, lt_by, le_of, lt_of, eq_of}

-- ---- sums and products

pub *ℤ-+ℤ : (a b c : ℤ) → a *ℤ (b +ℤ c) ≡ a *ℤ b +ℤ a *ℤ c
*ℤ-+ℤ a b c = ring (v a ⊗ (v b ⊕ v c)) (v a ⊗ v b ⊕ v a ⊗ v c) (omega arith)

pub +ℤ-*ℤ : (a b c : ℤ) → (a +ℤ b) *ℤ c ≡ a *ℤ c +ℤ b *ℤ c
+ℤ-*ℤ a b c = ring ((v a ⊕ v b) ⊗ v c) (v a ⊗ v c ⊕ v b ⊗ v c) (omega arith)

pub *ℤ_assoc : (a b c : ℤ) → (a *ℤ b) *ℤ c ≡ a *ℤ (b *ℤ c)
*ℤ_assoc a b c = ring (v a ⊗ v b ⊗ v c) (v a ⊗ (v b ⊗ v c)) (omega arith)

pub interchange : (a b c d : ℤ) → (a +ℤ b) +ℤ (c +ℤ d) ≡ (a +ℤ c) +ℤ (b +ℤ d)
interchange a b c d = ring (v a ⊕ v b ⊕ (v c ⊕ v d)) (v a ⊕ v c ⊕ (v b ⊕ v d)) (omega arith)

pub one_*ℤ : (a : ℤ) → pos 1 *ℤ a ≡ a
one_*ℤ a = ring (v (pos 1) ⊗ v a) (v a) (omega arith)

pub minus_one_*ℤ : (a : ℤ) → negsuc 0 *ℤ a ≡ neg_ℤ a
minus_one_*ℤ a = ring (v (negsuc 0) ⊗ v a) (⊝ (v a)) (omega arith)

pub pos_injective : {m n : ℕ} → pos m ≡ pos n → m ≡ n
pos_injective e = ap nat_abs e

-- ---- order

pub pos_≤ℤ : {m n : ℕ} → m ≤ n → pos m ≤ℤ pos n
pos_≤ℤ h = up_le (omega arith)

pub ≤ℤ_pos : {m n : ℕ} → pos m ≤ℤ pos n → m ≤ n
≤ℤ_pos h = omega (arith, le_up h)

pub ≤ℤ_antisym : {a b : ℤ} → a ≤ℤ b → b ≤ℤ a → a ≡ b
≤ℤ_antisym {a} {b} h g = inj a b (omega (arith, le_up h, le_up g))

pub ≤ℤ_trans : {a b c : ℤ} → a ≤ℤ b → b ≤ℤ c → a ≤ℤ c
≤ℤ_trans h k = omega (arith, le_up, up_le)

pub ≤ℤ_<ℤ_trans : {a b c : ℤ} → a ≤ℤ b → b <ℤ c → a <ℤ c
≤ℤ_<ℤ_trans {a} {b} {c} h g = up_lt (omega (arith, le_up h, lt_up g))

pub lt_suc : {a b : ℤ} → a <ℤ (b +ℤ pos 1) → a ≤ℤ b
lt_suc {a} {b} h = up_le (omega (arith, lt_of (v a) (v b ⊕ v (pos 1)) h))

pub +ℤ_mono : {a b c d : ℤ} → a ≤ℤ b → c ≤ℤ d → (a +ℤ c) ≤ℤ (b +ℤ d)
+ℤ_mono {a} {b} {c} {d} h k = le_by (v a ⊕ v c) (v b ⊕ v d) (omega (arith, le_up))

pub *ℤ_mono : (d : ℤ) {a b : ℤ} → pos 0 ≤ℤ d → a ≤ℤ b → (d *ℤ a) ≤ℤ (d *ℤ b)
*ℤ_mono d {a} {b} h k = le_by (v d ⊗ v a) (v d ⊗ v b) (go d h)
  where
    go : (d : ℤ) → pos 0 ≤ℤ d → ups (v d ⊗ v a) + dns (v d ⊗ v b) ≤ ups (v d ⊗ v b) + dns (v d ⊗ v a)
    go (pos n) h = omega (arith, mul-le-mul_left n (le_up k))
    go (negsuc n) h = absurd h.le

-- a positive factor cancels
pub *ℤ_pos_lt : (n : ℕ) {a b : ℤ} → (pos n *ℤ a) <ℤ (pos n *ℤ b) → a <ℤ b
*ℤ_pos_lt n {a} {b} h = up_lt (lt_of_mul-lt-mul_left n (omega (arith, lt_of (v (pos n) ⊗ v a) (v (pos n) ⊗ v b) h)))

-- ---- differences

pub -ℤ_zero→ : {a b : ℤ} → a -ℤ b ≡ pos 0 → a ≡ b
-ℤ_zero→ {a} {b} e = inj a b (omega (arith, eq_of (v a ⊖ v b) (v (pos 0)) e))

pub →_ℤ_zero : {a b : ℤ} → a ≡ b → a -ℤ b ≡ pos 0
→_ℤ_zero {a} {b} e = ring (v a ⊖ v b) (v (pos 0)) (omega (arith, eq_of (v a) (v b) e))

pub -ℤ_nonneg→ : {a b : ℤ} → pos 0 ≤ℤ (a -ℤ b) → b ≤ℤ a
-ℤ_nonneg→ {a} {b} h = up_le (omega (arith, le_of (v (pos 0)) (v a ⊖ v b) h))

pub →_ℤ_nonneg : {a b : ℤ} → b ≤ℤ a → pos 0 ≤ℤ (a -ℤ b)
→_ℤ_nonneg {a} {b} h = le_by (v (pos 0)) (v a ⊖ v b) (omega (arith, le_up h))

pub neg_nonneg→ : {a : ℤ} → pos 0 ≤ℤ neg_ℤ a → a ≤ℤ pos 0
neg_nonneg→ {a} h = up_le (omega (arith, le_of (v (pos 0)) (⊝ (v a)) h))

-- z or -z - 1 is not negative; of a nonzero z, z - 1 or -z - 1

pub branch_cases : (z : ℤ) → (pos 0 ≤ℤ z) ⊎ (pos 0 ≤ℤ (neg_ℤ z -ℤ pos 1))
branch_cases (pos n) = inl (up_le (omega arith))
branch_cases (negsuc n) = inr (le_by (v (pos 0)) (⊝ (v (negsuc n)) ⊖ v (pos 1)) (omega arith))

pub apart_cases : (z : ℤ) → z ≢ pos 0 → (pos 0 ≤ℤ (z -ℤ pos 1)) ⊎ (pos 0 ≤ℤ (neg_ℤ z -ℤ pos 1))
apart_cases (pos zero) h = absurd (h refl)
apart_cases (pos (suc n)) h = inl (le_by (v (pos 0)) (v (pos (suc n)) ⊖ v (pos 1)) (omega arith))
apart_cases (negsuc n) h = inr (le_by (v (pos 0)) (⊝ (v (negsuc n)) ⊖ v (pos 1)) (omega arith))

-- ---- size: |z| is up z + dn z

pub abs_is : (z : ℤ) → nat_abs z ≡ up z + dn z
abs_is (pos n) = omega arith
abs_is (negsuc n) = omega arith

pub abs_nonneg : (z : ℤ) → pos 0 ≤ℤ z → z ≡ pos (nat_abs z)
abs_nonneg z h = sym (pos-nat_abs z (yes_non_neg h))

pub ≤ℤ_abs : (z : ℤ) {n : ℕ} → pos n ≤ℤ z → n ≤ nat_abs z
≤ℤ_abs (pos a) h = ≤ℤ_pos h
≤ℤ_abs (negsuc a) h = absurd h.le

pub abs_of : (z : ℤ) {n : ℕ} → up z ≤ n → dn z ≤ n → nat_abs z ≤ n
abs_of (pos a) h k = h
abs_of (negsuc a) h k = k

-- -n ≤ z ≤ n, as `le_up` tells it
pub abs_between : (z : ℤ) {n : ℕ} → dn z ≤ up z + n → up z ≤ n + dn z → nat_abs z ≤ n
abs_between (pos a) h k = omega arith
abs_between (negsuc a) h k = omega arith

pub up_abs : (z : ℤ) → up z ≤ nat_abs z
up_abs z = omega (arith, abs_is z)

pub dn_abs : (z : ℤ) → dn z ≤ nat_abs z
dn_abs z = omega (arith, abs_is z)

pub mag_abs : (z : ℤ) → mag z ≤ nat_abs z
mag_abs (pos n) = omega arith
mag_abs (negsuc n) = omega arith

-- the two natural numbers of any expression bound what it comes to
pub abs_ev : (e : Expr) {n : ℕ} → ups e ≤ n → dns e ≤ n → nat_abs (ev e) ≤ n
abs_ev e {n} h k = abs_of (ev e) small.0 small.1
  where
    one_zero : (z : ℤ) (p q : ℕ) → up z + q ≡ p + dn z → p ≤ n → q ≤ n → (up z ≤ n) × (dn z ≤ n)
    one_zero (pos a) p q s f g = (omega arith, omega arith)
    one_zero (negsuc a) p q s f g = (omega arith, omega arith)

    small : (up (ev e) ≤ n) × (dn (ev e) ≤ n)
    small = one_zero (ev e) (ups e) (dns e) (sound e) h k

pub abs_+ : (a b : ℤ) → nat_abs (a +ℤ b) ≤ nat_abs a + nat_abs b
abs_+ a b = abs_ev (v a ⊕ v b) (omega (arith, up_abs a, up_abs b)) (omega (arith, dn_abs a, dn_abs b))

pub abs_neg : (z : ℤ) → nat_abs (neg_ℤ z) ≡ nat_abs z
abs_neg z = omega (arith, abs_is z, abs_is (neg_ℤ z), up_neg z, dn_neg z)

pub abs_* : (a b : ℤ) → nat_abs (a *ℤ b) ≡ nat_abs a * nat_abs b
abs_* (pos a) (pos b) = refl
abs_* (pos a) (negsuc b) = abs_neg (pos (a * suc b))
abs_* (negsuc a) (pos b) = abs_neg (pos (suc a * b))
abs_* (negsuc a) (negsuc b) = refl

pub abs_*_le : (a b : ℤ) {m n : ℕ} → nat_abs a ≤ m → nat_abs b ≤ n → nat_abs (a *ℤ b) ≤ m * n
abs_*_le a b h k = rw abs_* (mul-le-mul h k)

pub abs_+_le : (a b : ℤ) {m n : ℕ} → nat_abs a ≤ m → nat_abs b ≤ n → nat_abs (a +ℤ b) ≤ m + n
abs_+_le a b h k = omega (arith, abs_+ a b)

-- what is small enough fits
pub sfits_abs : {w : Width} (z : ℤ) → nat_abs z < 2 ^ hbits w → SFits w z
sfits_abs z h = record { sfits = lt_of_le_of_lt (mag_abs z) h }

-- ---- division by a natural d, rounding down: the greatest q with d q ≤ z

pub floor_low : (z : ℤ) (d : ℕ) → 0 < d → (pos d *ℤ floor_div z d) ≤ℤ z
floor_low (pos a) d h = le_by (v (pos d) ⊗ v (pos (a / d))) (v (pos a)) (omega (arith, div-add-mod a d))
floor_low (negsuc a) d h = le_by (v (pos d) ⊗ v (negsuc (a / d))) (v (negsuc a)) (omega (arith, div-add-mod a d, mod-lt a h))

pub floor_high : (z : ℤ) (d : ℕ) → 0 < d → z <ℤ (pos d *ℤ (floor_div z d +ℤ pos 1))
floor_high (pos a) d h = lt_by (v (pos a)) (v (pos d) ⊗ (v (pos (a / d)) ⊕ v (pos 1))) (omega (arith, div-add-mod a d, mod-lt a h))
floor_high (negsuc a) d h = lt_by (v (negsuc a)) (v (pos d) ⊗ (v (negsuc (a / d)) ⊕ v (pos 1))) (omega (arith, div-add-mod a d))

-- d q ≤ z < d (q + 1) for one q only
pub floor_unique : (z : ℤ) (d : ℕ) (q : ℤ) → 0 < d → (pos d *ℤ q) ≤ℤ z → z <ℤ (pos d *ℤ (q +ℤ pos 1)) → floor_div z d ≡ q
floor_unique z d q h low high =
    ≤ℤ_antisym (lt_suc (*ℤ_pos_lt d (≤ℤ_<ℤ_trans (floor_low z d h) high))) (lt_suc (*ℤ_pos_lt d (≤ℤ_<ℤ_trans low (floor_high z d h))))

pub floor_multiple : (z : ℤ) (d : ℕ) → 0 < d → floor_div (pos d *ℤ z) d ≡ z
floor_multiple z d h = floor_unique (pos d *ℤ z) d z h (≤ℤ_refl (pos d *ℤ z)) (lt_by (v (pos d) ⊗ v z) (v (pos d) ⊗ (v z ⊕ v (pos 1))) (omega arith))

pub floor_one : (z : ℤ) → floor_div z 1 ≡ z
floor_one z = ap (λ y. floor_div y 1) (sym (one_*ℤ z)) ∙ floor_multiple z 1 (omega arith)

-- a bound is tightened to the next integer
pub tighten : (d : ℕ) (s k q : ℤ) → k <ℤ (pos d *ℤ (q +ℤ pos 1)) → pos 0 ≤ℤ (k +ℤ pos d *ℤ s) → pos 0 ≤ℤ (q +ℤ s)
tighten d s k q h p = lt_suc (*ℤ_pos_lt d
    (lt_by (v (pos d) ⊗ v (pos 0)) (v (pos d) ⊗ (v q ⊕ v s ⊕ v (pos 1)))
    (omega (arith, le_of (v (pos 0)) (v k ⊕ v (pos d) ⊗ v s) p, lt_of (v k) (v (pos d) ⊗ (v q ⊕ v (pos 1))) h))))
