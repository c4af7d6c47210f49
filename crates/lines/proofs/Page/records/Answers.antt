use Prim.Native.Nat.{ℕ, ◌+◌, ◌/◌, ◌≤◌}
use borrow.Enum.Refused.{opened}
use lib.ListN.{length}
use mathlib.Core.List.{◌++◌}
use mathlib.Core.Path.{◌≡◌, ◌∙◌, ap, refl, sym}
use native.Mathlib.Omega.{arith}
use Rattle.format.specs.Fields.{u32s}
use Rattle.format.specs.Records.{kind, size, records}
use Rattle.lines.proofs.Lines.{lines_end, lines_integers, lines_string}
use Rattle.lines.proofs.Puts.{puts_same, then}
use Rattle.lines.specs.Buffers.{record_lines}
use Rattle.lines.specs.Lines.{string_line}
use Rattle.records.proofs.Finding.{found_whole, not_whole}
use Rattle.lines.proofs.Page.records.Goals as goal
use Rattle.lines.proofs.Page.records.Goals.{In-Whole}

-- the record that was found stands whole in the answer
here : (c : In-Whole) →
    let b = c.args.answer.now in
    let at = c.loop-kind.at in
    (c.in-Whole.kind ≡ kind b at) × (c.in-Whole.size ≡ size b at) × (at + 6 + c.in-Whole.size ≤ length b)
here c = found_whole c.args.answer.now c.loop-kind.at _ _ (sym c.read_at.ensures ∙ c.in-Whole.is)

pub loop-kind-init : goal.loop-kind-init
loop-kind-init c = record { before = omega arith; within = omega arith; room = omega (arith, c.requires); left = λ p h. puts_same refl (omega arith) h }

pub returns-in_default : goal.returns-in_default
returns-in_default c =
    let b = c.args.answer.now in
    let l = c.loop-kind in
    let none = not_whole b l.at _ c.read_at.ensures (opened c.in_default.in_default-own.keys2) in
    l.invariant.left _ (puts_same (lines_end b l.variable l.at none) (omega arith) c.text.ensures)

pub overflow_add-at : goal.overflow_add-at
overflow_add-at c = let w = here (goal.at.overflow_add-at c).In-Whole in omega (arith, w.2)

pub overflow_add-at-in-loop-kind : goal.overflow_add-at-in-loop-kind
overflow_add-at-in-loop-kind c = let w = here (goal.at.overflow_add-at-in-loop-kind c).In-Whole in omega (arith, w.2)

pub tail-requires : goal.tail-requires
tail-requires c =
    let w = here (goal.at.tail-requires c).In-Whole in
    (omega (arith, w.2), omega (arith, w.2))

pub returns-then-kind-ne-KIND_VALUE : goal.returns-then-kind-ne-KIND_VALUE
returns-then-kind-ne-KIND_VALUE c =
    let w = here (goal.at.returns-then-kind-ne-KIND_VALUE c).In-Whole in
    let l = c.loop-kind in
    l.invariant.left _
    (puts_same (lines_integers c.args.answer.now l.variable l.at _ _ w c.if-kind-ne-KIND_VALUE.true) (omega (arith, w.2)) c.tail.ensures)

pub string-requires : goal.string-requires
string-requires c =
    let w = here (goal.at.string-requires c).In-Whole in
    (omega (arith, w.2), omega (arith, w.2))

pub overflow_add-at-in-loop-kind-2 : goal.overflow_add-at-in-loop-kind-2
overflow_add-at-in-loop-kind-2 c = let w = here (goal.at.overflow_add-at-in-loop-kind-2 c).In-Whole in omega (arith, w.2)

pub overflow_add-at-in-loop-kind-3 : goal.overflow_add-at-in-loop-kind-3
overflow_add-at-in-loop-kind-3 c = let w = here (goal.at.overflow_add-at-in-loop-kind-3 c).In-Whole in omega (arith, w.2)

pub overflow_add-variable : goal.overflow_add-variable
overflow_add-variable c = let w = here (goal.at.overflow_add-variable c).In-Whole in omega (arith, w.2)

pub loop-kind-smaller : goal.loop-kind-smaller
loop-kind-smaller c = let w = here (goal.at.loop-kind-smaller c).In-Whole in omega (arith, w.2)

pub loop-kind-preserved : goal.loop-kind-preserved
loop-kind-preserved c =
    let w = here (goal.at.loop-kind-preserved c).In-Whole in
    let b = c.args.answer.now in
    let l = c.loop-kind in
    let m = c.in-Whole.size in
    let string = string_line l.variable (u32s b (l.at + 6) (m / 4)) in
    let further : l.at + (6 + m) ≡ l.at + 6 + m = omega arith in
    let lines = ap (λ (k : ℕ). string ++ record_lines b (l.variable + 1) (records b k)) further ∙ lines_string b l.variable l.at _ _ w c.if-kind-ne-KIND_VALUE.false in
    record {
      before = omega arith;
      within = omega (arith, w.2);
      room = omega (arith, w.2, c.string.ensures.within, c.string.ensures.same_length);
      left = λ p h. l.invariant.left p (puts_same lines (omega (arith, w.2)) (then c.string.ensures h));
    }
