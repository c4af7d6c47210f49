-- Card's exponent: the search finds the smallest power of n that is at least m.
use Prim.Native.Nat.{ℕ, zero, suc, ◌+◌, ◌*◌, ◌^◌, ◌<◌, ◌≤◌}
use native.Mathlib.Omega.{arith}
use native.Mathlib.Decide.{ℕ_discrete}
use native.Mathlib.Nat.{pow-succ', pow-zero, pow-le-pow_right, mul-le-mul_right}
use mathlib.Core.Path.{◌≡◌, refl, sym, subst}
use mathlib.Core.Bool.{Bool, true, false}
use lib.Dec.{leb}
use borrow.Author.Tests.{leb-true, leb-false}
use Rattle.calculus.specs.Rules.{least_power}
use Rattle.calculus.specs.Instances.{LeastPower}

least_power_reaches : (d n m j : ℕ) → m ≤ n ^ (d + j) → m ≤ n ^ least_power d n m j
least_power_reaches zero n m j h = subst (λ k. m ≤ n ^ k) (let z : 0 + j ≡ j = omega arith in z) h
least_power_reaches (suc d) n m j h =
    go (leb m (n ^ j)) refl (least_power_reaches d n m (suc j) (subst (λ k. m ≤ n ^ k) (let z : suc d + j ≡ d + suc j = omega arith in z) h))
  where
    go : (t : Bool) → leb m (n ^ j) ≡ t → m ≤ n ^ least_power d n m (suc j) → m ≤ n ^ (elim t as (λ _. ℕ) [ true ↦ j | false ↦ least_power d n m (suc j) ])
    go true e ih = leb-true m (n ^ j) e
    go false e ih = ih

least_power_least : (d n m j k : ℕ) → m ≤ n ^ k → j ≤ k → least_power d n m j ≤ k
least_power_least zero n m j k h g = g
least_power_least (suc d) n m j k h g = go (leb m (n ^ j)) refl (ℕ_discrete j k) (least_power_least d n m (suc j) k h)
  where
    go : (t : Bool)
        → leb m (n ^ j) ≡ t
        → Dec (j ≡ k)
        → (suc j ≤ k → least_power d n m (suc j) ≤ k)
        → (elim t as (λ _. ℕ) [ true ↦ j | false ↦ least_power d n m (suc j) ]) ≤ k
    go true e c ih = g
    go false e (yes p) ih = absurd (let f : n ^ j < m = leb-false m (n ^ j) e in let c : m ≤ n ^ j = subst (λ i. m ≤ n ^ i) (sym p) h in omega arith)
    go false e (no f) ih = ih (omega arith)

power_grows : (n m : ℕ) → 2 ≤ n → m < n ^ m
power_grows n zero h = let e : n ^ 0 ≡ 1 = pow-zero n in omega arith
power_grows n (suc m) h =
    let e : n ^ suc m ≡ n * n ^ m = pow-succ' n m in
    let g : m < n ^ m = power_grows n m h in
    let k : 2 * n ^ m ≤ n * n ^ m = mul-le-mul_right (n ^ m) h in
    omega arith

pub least_power_law : (n m : ℕ) → 2 ≤ n → LeastPower n m (least_power m n m 0)
least_power_law n m h = record {
  reaches = least_power_reaches m n m 0 (subst (λ k. m ≤ n ^ k) (let z : m ≡ m + 0 = omega arith in z) (omega (arith, power_grows n m h)));
  least = λ k g. least_power_least m n m 0 k g (omega arith);
}

pub least_unique : {n m k l : ℕ} → LeastPower n m k → LeastPower n m l → k ≡ l
least_unique {k = k} {l = l} p q =
    let a : k ≤ l = p.least l q.reaches in
    let c : l ≤ k = q.least k p.reaches in
    omega arith

pub power_enough : {n m k l : ℕ} → 1 ≤ n → LeastPower n m k → k ≤ l → m ≤ n ^ l
power_enough {n} {m} {k} {l} h p g =
    let a : m ≤ n ^ k = p.reaches in
    let c : n ^ k ≤ n ^ l = pow-le-pow_right h g in
    omega arith

pub one_power : (k : ℕ) → 1 ^ k ≡ 1
one_power zero = pow-zero 1
one_power (suc k) = let e : 1 ^ suc k ≡ 1 * 1 ^ k = pow-succ' 1 k in let f : 1 ^ k ≡ 1 = one_power k in omega arith
