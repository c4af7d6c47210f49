use Prim.Native.Nat.{◌+◌, ◌-◌, ◌/◌, ◌≤◌, suc, ℕ}
use lib.ListN.{length}
use mathlib.Core.Bool.{false, true}
use mathlib.Core.Path.{◌∙◌, ◌≡◌, ap, ap₂, refl, sym}
use native.Mathlib.Numerals.{add-one}
use native.Mathlib.Omega.{arith}
use Rattle.assignment.proofs.Read.{outside_last, outside_no, outside_none, outside_yes}
use Rattle.assignment.specs.Form.{placed_in}
use Rattle.std.specs.Prelude.{Some}
use Rattle.format.proofs.Answers.{integers_there, text_there}
use Rattle.calculus.specs.Alphabet.{all_characters}
use Rattle.calculus.specs.Facts.{blank}
use Rattle.format.proofs.Places.{skip_snoc}
use Rattle.format.specs.Answer.{outside}
use Rattle.format.specs.Fields.{u32s}
use Rattle.format.specs.Places.{skip, text_at}
use Rattle.format.specs.Records.{next, size}
use Rattle.std.proofs.Common.{add_assoc}
use Rattle.assignment.proofs.first_outside.Goals as goal

pub loop-number-init : goal.loop-number-init
unfolding skip
loop-number-init c =
    let s = c.args in
    let e : s.p - 0 ≡ s.p = omega arith in
    (refl, ap (λ (k : ℕ). outside s.v.now (blank s.n s.p s.q) k 0 0) e)

pub u32_at-size-requires : goal.u32_at-size-requires
u32_at-size-requires c =
    omega (arith, text_there c.args.v.now c.args.p c.args.q c.requires c.loop-number.number c.loop-number-test.true)

pub overflow_add-at : goal.overflow_add-at
overflow_add-at c =
    omega (arith, text_there c.args.v.now c.args.p c.args.q c.requires c.loop-number.number c.loop-number-test.true)

pub all_characters-requires : goal.all_characters-requires
all_characters-requires c =
    let l = c.loop-number in
    let t : next c.args.v.now l.at ≤ length c.args.v.now =
    rw l.invariant.0 (text_there c.args.v.now c.args.p c.args.q c.requires l.number c.loop-number-test.true) in
    omega arith

pub returns-then-not-all_characters : goal.returns-then-not-all_characters
returns-then-not-all_characters c =
    let l = c.loop-number in
    let s = c.args in
    let t : all_characters s.n (text_at s.v.now l.at) ≡ false =
    ap (λ (m : ℕ). all_characters s.n (u32s s.v.now (l.at + 6) (m / 4))) (sym c.u32_at-size.ensures.0)
    ∙ sym c.if-not-all_characters.ensures in
    ap (λ (at : ℕ). Some record { number = l.number; at = at }) l.invariant.0
    ∙ ap (placed_in s.v.now) (sym (outside_no s.v.now (blank s.n s.p s.q) l.number l.at (s.p - l.number) (omega arith) t) ∙ l.invariant.1)

pub overflow_add-at-in-loop-number-2 : goal.overflow_add-at-in-loop-number-2
overflow_add-at-in-loop-number-2 c =
    let l = c.loop-number in
    let t : next c.args.v.now l.at ≤ length c.args.v.now =
    rw l.invariant.0 (text_there c.args.v.now c.args.p c.args.q c.requires l.number c.loop-number-test.true) in
    omega arith

pub loop-number-preserved : goal.loop-number-preserved
loop-number-preserved c =
    let l = c.loop-number in
    let s = c.args in
    let u = blank s.n s.p s.q in
    let t : all_characters s.n (text_at s.v.now l.at) ≡ true =
    ap (λ (m : ℕ). all_characters s.n (u32s s.v.now (l.at + 6) (m / 4))) (sym c.u32_at-size.ensures.0)
    ∙ sym c.if-not-all_characters.ensures in
    let e : s.p - l.number - 1 ≡ s.p - (l.number + 1) = omega arith in
    let here : next s.v.now l.at ≡ skip s.v.now (suc l.number) 0 = ap (next s.v.now) l.invariant.0 ∙ sym (skip_snoc s.v.now l.number 0) in
    rw (c.u32_at-size.ensures.0, ← add_assoc l.at 6 (size s.v.now l.at)) (
      rw (add-one l.number) here,
      rw (← e, add-one l.number) (sym (outside_yes s.v.now u l.number l.at (s.p - l.number) (omega arith) t) ∙ l.invariant.1),
    )

pub overflow_add-at-2 : goal.overflow_add-at-2
overflow_add-at-2 c =
    let e : c.loop-number.number ≡ c.args.p = omega arith in
    omega (arith, c.loop-number.invariant.0 ∙ ap (λ (k : ℕ). skip c.args.v.now k 0) e, integers_there c.args.v.now c.args.p c.args.q c.requires)

pub integers_within-requires : goal.integers_within-requires
integers_within-requires c =
    let e : c.loop-number.number ≡ c.args.p = omega arith in
    omega (arith, c.loop-number.invariant.0 ∙ ap (λ (k : ℕ). skip c.args.v.now k 0) e, integers_there c.args.v.now c.args.p c.args.q c.requires)

pub returns-then-integers_within : goal.returns-then-integers_within
returns-then-integers_within c =
    let l = c.loop-number in
    let s = c.args in
    ap (placed_in s.v.now) (sym (outside_none s.v.now (blank s.n s.p s.q) l.number l.at (s.p - l.number) (omega arith)
    (sym c.if-integers_within.ensures))
    ∙ l.invariant.1)

pub returns-else-integers_within : goal.returns-else-integers_within
returns-else-integers_within c =
    let l = c.loop-number in
    let s = c.args in
    let e : s.p ≡ l.number = omega arith in
    ap₂ (λ (r at : ℕ). Some record { number = r; at = at }) e l.invariant.0
    ∙ ap (placed_in s.v.now) (sym (outside_last s.v.now (blank s.n s.p s.q) l.number l.at (s.p - l.number) (omega arith)
    (sym c.if-integers_within.ensures))
    ∙ l.invariant.1)
