use Prim.Native.Nat.{◌*◌, ◌+◌, ◌-◌, ◌<◌, ◌^◌, ◌≤◌, ℕ}
use mathlib.Core.Path.{◌∙◌, ◌≡◌, ap, sym}
use native.Mathlib.Nat.{mul-le-mul, pow-suc, pow-zero}
use native.Mathlib.Numerals.{add-one}
use native.Mathlib.Omega.{arith}
use Rattle.calculus.specs.Rules.{least_power}
use Rattle.card.proofs.Laws.{least_power_done, least_power_no, least_power_yes}
use Rattle.card.proofs.least_power.Goals as goal

pub loop-k-init : goal.loop-k-init
loop-k-init c =
    let m = c.args.m in
    let z : m - 0 ≡ m = omega arith in
    (sym (pow-zero c.args.n), ap (λ (i : ℕ). least_power i c.args.n m 0) z)

pub returns-then-m-power : goal.returns-then-m-power
returns-then-m-power c =
    let l = c.loop-k in
    let s = c.args in
    record {
      value = sym (least_power_yes s.n s.m l.k (s.m - l.k) (omega (arith, l.invariant.0))) ∙ l.invariant.1;
      upper_bound = omega arith;
    }

pub overflow_mul-power : goal.overflow_mul-power
overflow_mul-power c =
    let l = c.loop-k in
    let s = c.args in
    let less : l.power < s.m = c.if-m-power.false in
    let k : l.power * s.n ≤ 16 * 196608 = mul-le-mul {n₂ = 16} {m₂ = 196608} (omega arith) (omega arith) in
    omega arith

pub loop-k-preserved : goal.loop-k-preserved
loop-k-preserved c =
    let l = c.loop-k in
    let s = c.args in
    let less : s.m - l.k - 1 ≡ s.m - (l.k + 1) = omega arith in (
      ap (λ (i : ℕ). i * s.n) l.invariant.0 ∙ sym (ap (λ (i : ℕ). s.n ^ i) (add-one l.k) ∙ pow-suc s.n l.k),
      ap (λ (i : ℕ). least_power i s.n s.m (l.k + 1)) (sym less)
          ∙ sym (least_power_no s.n s.m l.k (s.m - l.k) (omega arith) (omega (arith, l.invariant.0)))
          ∙ l.invariant.1,
    )

pub returns : goal.returns
returns c =
    let l = c.loop-k in
    let s = c.args in
    let e : s.m ≡ l.k = omega arith in
    record {
      value = e ∙ sym (least_power_done s.n s.m l.k (s.m - l.k) (omega arith)) ∙ l.invariant.1;
      upper_bound = omega arith;
    }
