use mathlib.Core.Path.{◌∙◌, ◌≡◌, ap, refl, sym}
use native.Mathlib.Nat.{mod-lt}
use native.Mathlib.Omega.{arith}
use Rattle.calculus.proofs.Divisors.{gcd_step, gcd_zero}
use Rattle.calculus.specs.NormalForms.{gcd}
use Rattle.normal.proofs.gcd.Goals as goal

pub loop-n-init : goal.loop-n-init
loop-n-init c = refl

pub loop-n-smaller : goal.loop-n-smaller
loop-n-smaller c = mod-lt c.loop-n.m c.loop-n-test.true

pub loop-n-preserved : goal.loop-n-preserved
loop-n-preserved c = sym (gcd_step c.loop-n.m c.loop-n.n c.loop-n-test.true) ∙ c.loop-n.invariant

pub returns : goal.returns
returns c =
    let l = c.loop-n in
    let e : l.n ≡ 0 = omega arith in
    sym (gcd_zero l.m) ∙ ap (gcd l.m) (sym e) ∙ l.invariant
