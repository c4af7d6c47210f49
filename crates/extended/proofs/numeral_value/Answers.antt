use mathlib.Core.Path.{◌∙◌, refl}
use native.Mathlib.Omega.{arith}
use Rattle.calculus.proofs.Extended.{numeral_grows}
use Rattle.calculus.specs.Extended.{numeral_from}
use Rattle.format.specs.Fields.{u32s}
use Rattle.extended.proofs.Loops.{digits→}
use Rattle.extended.proofs.numeral_value.Goals as goal

pub loop-c-init : goal.loop-c-init
unfolding u32s
loop-c-init c =
    let e = c.into_iter-c-iterator.ensures.into_iter_gives ∙ c.fields_at-c-items.ensures in
    (rw e c.requires.1, rw e refl)

pub returns-then-value-gt-VALUE_LIMIT : goal.returns-then-value-gt-VALUE_LIMIT
returns-then-value-gt-VALUE_LIMIT c =
    let l = c.loop-c in
    let g = numeral_grows l.value l.c-iterator in
    ((λ h. absurd (omega (arith, g, l.invariant.1))), λ h. omega arith)

pub overflow_mul-value : goal.overflow_mul-value
overflow_mul-value c = omega arith

pub overflow_sub-value : goal.overflow_sub-value
overflow_sub-value c =
    let l = c.loop-c in
    omega (arith, (digits→ c.in-Some.c c.next.new.self (rw c.in-Some.ensures.steps at l.invariant.0)).0)

pub loop-c-preserved : goal.loop-c-preserved
unfolding numeral_from
loop-c-preserved c =
    let l = c.loop-c in
    let e = c.in-Some.ensures.steps in
    ((digits→ c.in-Some.c c.next.new.self (rw e at l.invariant.0)).2, rw e at l.invariant.1)

pub returns : goal.returns
unfolding numeral_from
returns c =
    let l = c.loop-c in
    let e = rw c.in-None.ensures.steps.0 at l.invariant.1 in
    ((λ h. e), λ h. omega (arith, e))
