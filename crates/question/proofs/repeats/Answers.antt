use mathlib.Core.Path.{◌≡◌, refl, ◌∙◌, sym}
use Prim.Native.Nat.{ℕ, ◌-◌, ◌+◌}
use mathlib.Core.List.{List}
use native.Mathlib.Omega.{arith}
use Rattle.format.specs.Question.{text_of}
use Rattle.format.proofs.Places.{skip_done}
use Rattle.question.proofs.Loops.{given_done, given_yes, given_no, record_passed, record_within}
use Rattle.question.proofs.repeats.Goals as goal
use Rattle.question.proofs.repeats.Goals.{Start}

pub loop-init : goal.loop-init
loop-init c =
    let e : c.args.k - 0 ≡ c.args.k = omega arith in
    record { at_record = sym (skip_done _ _ _ (omega arith)); left = rw e refl }

pub u32_at-other-requires : goal.u32_at-other-requires
u32_at-other-requires c = omega (arith, record_within _ _ _ _ c.loop.invariant.at_record _ c.loop-test.true c.requires.1)

pub overflow_add-j : goal.overflow_add-j
overflow_add-j c = omega (arith, record_within _ _ _ _ c.loop.invariant.at_record _ c.loop-test.true c.requires.1)

pub same_text-requires : goal.same_text-requires
same_text-requires c = omega (arith, record_within _ _ _ _ c.loop.invariant.at_record _ c.loop-test.true c.requires.1)

abbrev text : Start → List ℕ
text s = text_of s.args.b.now s.args.at s.args.size

pub returns-then-same_text : goal.returns-then-same_text
returns-then-same_text c =
    sym (given_yes _ (text (goal.at.returns-then-same_text c).Start) _ _ (omega arith)
    (rw c.u32_at-other.ensures.0 at (sym c.same_text.ensures ∙ c.if-same_text.true)))
    ∙ c.loop.invariant.left

pub overflow_add-j-in-loop-2 : goal.overflow_add-j-in-loop-2
overflow_add-j-in-loop-2 c = omega (arith, record_within _ _ _ _ c.loop.invariant.at_record _ c.loop-test.true c.requires.1)

pub loop-preserved : goal.loop-preserved
loop-preserved c =
    let b = c.args.b.now in
    let l = c.loop in
    let t = text (goal.at.loop-preserved c).Start in
    let n : c.args.k - (l.counter + 1) ≡ c.args.k - l.counter - 1 = omega arith in
    let to : l.j + (6 + c.u32_at-other.result) ≡ l.j + 6 + c.u32_at-other.result = omega arith in
    record {
      at_record = record_passed _ _ _ _ l.invariant.at_record _ c.u32_at-other.ensures.0;
      left =
          rw (n, to, c.u32_at-other.ensures.0) (sym (given_no b t _ _ (omega arith)
          (rw c.u32_at-other.ensures.0 at (sym c.same_text.ensures ∙ c.if-same_text.false)))
          ∙ l.invariant.left);
    }

pub returns : goal.returns
returns c = sym (given_done _ (text (goal.at.returns c).Start) _ _ (omega arith)) ∙ c.loop.invariant.left
