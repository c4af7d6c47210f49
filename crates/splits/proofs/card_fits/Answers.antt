use Prim.Native.Nat.{ℕ, ◌+◌, ◌-◌}
use mathlib.Core.Bool.{Bool, ◌&&◌}
use mathlib.Core.Path.{◌∙◌, ◌≡◌, sym, ap}
use native.Mathlib.Omega.{arith}
use Rattle.question.specs.Posed.{numbered}
use Rattle.calculus.specs.Rules.{distinct, neighbours}
use Rattle.format.specs.Fields.{u16, u16s}
use Rattle.format.specs.StepForms.{are_variables}
use Rattle.format.specs.Checking.{fits}
use Rattle.rows.specs.Rows.{branch_of}
use Rattle.rows.proofs.Tested.{guard_fits}
use Rattle.splits.proofs.Neighbours.{card_children_law}
use Rattle.splits.proofs.card_fits.Goals as goal

pub returns-else-all_differ : goal.returns-else-all_differ
returns-else-all_differ c =
    let b = c.args.b.now in
    let br = branch_of c.args.work.now c.args.count in
    c.if-all_differ.false
    ∙ sym (ap fits (card_children_law (numbered c.args.s) br b c.args.at c.args.m c.requires.le_m.0)
    ∙ guard_fits _ _
    ∙ ap (λ (t : Bool). t && neighbours (numbered c.args.s) br (u16 b c.args.at) (u16s b (c.args.at + 2) (c.args.m - 1)))
    (sym c.all_differ.ensures ∙ c.if-all_differ.false))

pub overflow_sub-m : goal.overflow_sub-m
overflow_sub-m c = let h = c.requires.le_m.0 in omega arith

pub lengths_agree-requires : goal.lengths_agree-requires
lengths_agree-requires c =
    let b = c.args.b.now in
    let h = c.requires.le_m.0 in
    let w = c.requires.le_m.1 in
    let e : c.args.m - 1 + 1 ≡ c.args.m = omega arith in record {
      others_in_bounds = (omega arith, c.requires.le_m.2, c.requires.le_m.3);
      others_value = (
        ap (λ (n : ℕ). distinct (u16s b c.args.at n)) e ∙ sym c.all_differ.ensures ∙ c.if-all_differ.true,
        ap (λ (n : ℕ). are_variables c.args.s.p (u16s b c.args.at n)) e ∙ c.requires.m_value,
      );
      count_le_fact_limit = c.requires.count_le_fact_limit;
    }

pub returns-then-all_differ : goal.returns-then-all_differ
returns-then-all_differ c =
    let b = c.args.b.now in
    let br = branch_of c.args.work.now c.args.count in
    c.lengths_agree.ensures
    ∙ sym (ap fits (card_children_law (numbered c.args.s) br b c.args.at c.args.m c.requires.le_m.0)
    ∙ guard_fits _ _
    ∙ ap (λ (t : Bool). t && neighbours (numbered c.args.s) br (u16 b c.args.at) (u16s b (c.args.at + 2) (c.args.m - 1)))
    (sym c.all_differ.ensures ∙ c.if-all_differ.true))
