use mathlib.Core.Path.{sym, ◌∙◌}
use native.Mathlib.Omega.{arith}
use borrow.Author.Tests.{le-leb, lt-leb, eq-eqb, ne_eqb}
use Rattle.format.specs.Records.{kind}
use Rattle.delimiters.specs.Numbers.{end_fault}
use Rattle.delimiters.proofs.Ends.{cut_off}
use Rattle.records.proofs.Finding.{found_whole, all_there}
use Rattle.delimiters.proofs.end_fault.Goals as goal

pub returns-in_default : goal.returns-in_default
unfolding end_fault
returns-in_default c =
    rw (lt-leb _ _ (cut_off c.args.ticket.now c.args.at _ c.read_at.ensures c.in_default.not-Whole))

pub returns-then-kind-ne-KIND_END : goal.returns-then-kind-ne-KIND_END
unfolding end_fault
returns-then-kind-ne-KIND_END c =
    let w =
    found_whole c.args.ticket.now c.args.at _ _ (sym c.read_at.ensures ∙ c.in-Whole.is) in
    rw (le-leb _ _ (all_there _ _ _ _ w), ne_eqb (kind c.args.ticket.now c.args.at) 8 (λ e. c.if-kind-ne-KIND_END.true (w.0 ∙ e)))

pub overflow_add-at : goal.overflow_add-at
overflow_add-at c =
    omega (
      arith,
      (found_whole c.args.ticket.now c.args.at _ _ (sym c.read_at.ensures ∙ c.in-Whole.is)).2,
    )

pub overflow_add-at-2 : goal.overflow_add-at-2
overflow_add-at-2 c =
    omega (
      arith,
      (found_whole c.args.ticket.now c.args.at _ _ (sym c.read_at.ensures ∙ c.in-Whole.is)).2,
    )

pub returns : goal.returns
unfolding end_fault
returns c =
    let read_at = c.read_at in
    let w = found_whole c.args.ticket.now c.args.at _ _ (sym read_at.ensures ∙ c.in-Whole.is) in
    c.last_fault.ensures
    ∙ rw (le-leb _ _ (all_there _ _ _ _ w), eq-eqb (kind c.args.ticket.now c.args.at) 8 (sym w.0 ∙ c.if-kind-ne-KIND_END.false), w.1)
