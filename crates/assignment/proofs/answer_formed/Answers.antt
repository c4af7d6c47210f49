use Prim.Native.Nat.{ℕ, ◌+◌, ◌-◌}
use Rattle.std.proofs.Common.{add_assoc}
use Rattle.format.specs.Records.{size}
use mathlib.Core.Path.{◌∙◌, ◌≡◌, ap, sym}
use native.Mathlib.Omega.{arith}
use Rattle.format.proofs.Answers.{string_there}
use Rattle.assignment.proofs.Read.{form_no, form_yes}
use Rattle.format.specs.Answer.{answer_form}
use Rattle.assignment.proofs.answer_formed.Goals as goal

pub returns-then-not-string_formed : goal.returns-then-not-string_formed
returns-then-not-string_formed c =
    let l = c.loop in
    let s = c.args in
    sym (form_no s.v.now s.q l.at (s.p - l.counter) (omega arith)
    (sym c.if-not-string_formed.ensures))
    ∙ l.invariant

pub overflow_add-at : goal.overflow_add-at
overflow_add-at c =
    let args = c.args in
    omega (arith, string_there args.v.now c.loop.at (sym c.if-not-string_formed.ensures))

pub u32_at-requires : goal.u32_at-requires
u32_at-requires c =
    let args = c.args in
    omega (arith, string_there args.v.now c.loop.at (sym c.if-not-string_formed.ensures))

pub overflow_add-at-in-loop : goal.overflow_add-at-in-loop
overflow_add-at-in-loop c =
    let args = c.args in
    omega (
      arith,
      string_there args.v.now c.loop.at
          (sym c.if-not-string_formed.ensures),
    )

pub loop-preserved : goal.loop-preserved
loop-preserved c =
    let l = c.loop in
    let s = c.args in
    let e : s.p - l.counter - 1 ≡ s.p - (l.counter + 1) = omega arith in
    rw (c.u32_at.ensures.0, ← add_assoc l.at 6 (size s.v.now l.at), ← e) (sym (form_yes s.v.now s.q l.at (s.p - l.counter) (omega arith)
    (sym c.if-not-string_formed.ensures))
    ∙ l.invariant)

pub returns : goal.returns
returns c =
    let l = c.loop in
    let s = c.args in
    let e : (s.p - l.counter) ≡ 0 = omega arith in
    c.tail_formed.ensures ∙ ap (λ (k : ℕ). answer_form s.v.now k s.q l.at) (sym e) ∙ l.invariant
