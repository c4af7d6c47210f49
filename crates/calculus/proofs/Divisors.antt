-- The greatest common divisor: Euclid's step, its size, and that it is what the words say.
use Prim.Native.Nat.{ℕ, zero, suc, ◌+◌, ◌*◌, ◌-◌, ◌/◌, ◌%◌, ◌<◌, ◌≤◌}
use native.Mathlib.Nat.{zero-lt-suc, div-add-mod, mod-lt, mul_assoc, mul_comm, mul-sub}
use native.Mathlib.Omega.{arith}
use mathlib.Core.Path.{◌≡◌, refl, sym, ◌∙◌, ap, subst}
use mathlib.Core.List.{List, [], ◌∷◌, map}
use lib.IntN.{ℤ, nat_abs}
use Rattle.lists.proofs.Lists.{all_map}
use Rattle.calculus.specs.NormalForms.{gcd_within, gcd, divisor_of, Divides, GreatestCommonDivisor}

-- ---- Euclid's step

-- divisions past those that are needed change nothing
within_enough : (d e m n : ℕ) → n ≤ d → n ≤ e → gcd_within d m n ≡ gcd_within e m n
unfolding gcd_within
within_enough zero zero m n h g = refl
within_enough zero (suc e) m zero h g = refl
within_enough zero (suc e) m (suc n) h g = absurd (omega arith)
within_enough (suc d) zero m zero h g = refl
within_enough (suc d) zero m (suc n) h g = absurd (omega arith)
within_enough (suc d) (suc e) m zero h g = refl
within_enough (suc d) (suc e) m (suc n) h g =
    within_enough d e (suc n) (m % suc n) (omega (arith, mod-lt m (zero-lt-suc n))) (omega (arith, mod-lt m (zero-lt-suc n)))

pub gcd_zero : (m : ℕ) → gcd m 0 ≡ m
unfolding gcd gcd_within
gcd_zero m = refl

pub gcd_step : (m n : ℕ) → 0 < n → gcd m n ≡ gcd n (m % n)
unfolding gcd gcd_within
gcd_step m zero h = absurd (omega arith)
gcd_step m (suc n) h = within_enough n (m % suc n) (suc n) (m % suc n) (omega (arith, mod-lt m (zero-lt-suc n))) (omega arith)

-- what Euclid's step keeps holds of the greatest common divisor
by_euclid : (P : ℕ → ℕ → ℕ → Type 0)
    → ((m : ℕ) → P m 0 m)
    → ((m n d : ℕ) → 0 < n → P n (m % n) d → P m n d)
    → (m n : ℕ) → P m n (gcd m n)
unfolding gcd gcd_within
by_euclid P done step m n = go n m n (omega arith)
  where
    go : (d m n : ℕ) → n ≤ d → P m n (gcd_within d m n)
    go zero m zero h = done m
    go zero m (suc n) h = absurd (omega arith)
    go (suc d) m zero h = done m
    go (suc d) m (suc n) h =
        step m (suc n) (gcd_within d (suc n) (m % suc n)) (omega arith) (go d (suc n) (m % suc n) (omega (arith, mod-lt m (zero-lt-suc n))))

pub gcd_le : (m n b : ℕ) → m ≤ b → n ≤ b → gcd m n ≤ b
gcd_le m n b = by_euclid (λ m n d. m ≤ b → n ≤ b → d ≤ b) (λ m h g. h) (λ m n d p k h g. k g (omega (arith, mod-lt m p))) m n

-- ---- divisors

divides_zero : (d : ℕ) → Divides d 0
divides_zero d = (0, omega arith)

divides_itself : (d : ℕ) → Divides d d
divides_itself d = (1, omega arith)

-- a sum of multiples, and a multiple less another
divides_sum : (d m n k : ℕ) → Divides d m → Divides d n → Divides d (n * k + m)
divides_sum d m n k (i, e) (j, f) = (k * j + i, rw (e, f) (omega arith))

divides_rest : (d m n k : ℕ) → Divides d (n * k + m) → Divides d n → Divides d m
divides_rest d m n k (i, e) (j, f) = (i - k * j, rw (mul_comm (i - k * j) d, mul-sub d i (k * j)) (omega (arith, ap (λ x. x * k) f)))

-- Euclid's number is the greatest common divisor of the two
pub gcd_greatest : (m n : ℕ) → GreatestCommonDivisor (m ∷ n ∷ []) (gcd m n)
gcd_greatest m n =
    by_euclid (λ m n d. GreatestCommonDivisor (m ∷ n ∷ []) d)
    (λ m. record { divides = (divides_itself m, (divides_zero m, tt)); greatest = λ c h. h.0 })
    (λ m n d p g. record {
      divides = (subst (Divides d) (div-add-mod m n) (divides_sum d (m % n) n (m / n) g.divides.1.0 g.divides.0), (g.divides.0, tt));
      greatest = λ c h. g.greatest c (h.1.0, (divides_rest c (m % n) n (m / n) (subst (Divides c) (sym (div-add-mod m n)) h.0) h.1.0, tt));
    }) m n

divides_through : (d c n : ℕ) → Divides d c → Divides c n → Divides d n
divides_through d c n (i, e) (j, f) = (j * i, f ∙ ap (λ x. j * x) e ∙ sym (mul_assoc j i d))

-- ---- of all numbers of a form

pub divisor_greatest : (e : List ℤ) → GreatestCommonDivisor (map nat_abs e) (divisor_of e)
unfolding divisor_of
divisor_greatest [] = record { divides = tt; greatest = λ c h. divides_zero c }
divisor_greatest (z ∷ e) =
    let d : ℕ = gcd (nat_abs z) (divisor_of e) in
    let (f, (g, _)) = (gcd_greatest (nat_abs z) (divisor_of e)).divides in
    record {
      divides = (f, all_map (map nat_abs e) (λ n h. divides_through d (divisor_of e) n g h) (divisor_greatest e).divides);
      greatest = λ c h. (gcd_greatest (nat_abs z) (divisor_of e)).greatest c (h.0, ((divisor_greatest e).greatest c h.1, tt));
    }
