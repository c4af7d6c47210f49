use Prim.Native.Nat.{ℕ}
use borrow.Author.Tests.{not-false, not-true}
use mathlib.Core.Bool.{true}
use mathlib.Core.Path.{◌≡◌, sym, ◌∙◌, ap, subst}
use native.Mathlib.Omega.{arith}
use Rattle.delimiters.specs.declared.Claim.{Claim}
use Rattle.format.specs.Checking.{fits}
use Rattle.format.specs.StepForms.{step_at, child_in_range}
use Rattle.steps.specs.Faults.{field_fits}
use Rattle.steps.specs.Offered.{child_fault, tried_under}
use Rattle.steps.proofs.Bodies.{given, four_bytes}
use Rattle.trials.proofs.Tried.{none_fits}
use Rattle.trials.proofs.split_fault.Goals as goal
use Rattle.trials.proofs.split_fault.Goals.{Else-not-fits}

-- the step fits
fitting : (c : Else-not-fits) → fits (given c.requires.ready_by.ready) ≡ true
fitting c = sym c.fits.ensures ∙ not-false _ c.if-not-fits.false-raw

pub fits-requires : goal.fits-requires
fits-requires c = c.requires.ready_by

pub returns-then-not-fits : goal.returns-then-not-fits
returns-then-not-fits c =
    none_fits c.requires.ready_by.ready c.args.pending c.args.claim (sym c.fits.ensures ∙ not-true _ c.if-not-fits.true-raw)

pub all_fault-requires : goal.all_fault-requires
all_fault-requires c = record {
  ready_by = c.requires.ready_by;
  count_value = fitting (goal.at.all_fault-requires c).Else-not-fits;
}

pub u16_at-k-requires : goal.u16_at-k-requires
u16_at-k-requires c =
    omega (arith, four_bytes c.requires.ready_by.ready)

pub taken_fault-requires : goal.taken_fault-requires
taken_fault-requires c =
    let a = c.args in
    let b = a.ticket.now in
    let is_in_range =
    ap (λ (k : ℕ). child_in_range a.s.n (step_at b a.step.body a.step.size) k) c.u16_at-k.ensures.0
    ∙ subst (λ (x : Claim). field_fits x b a.s.n a.step.body a.step.size ≡ true) c.in-Strings.is c.requires.size_value in
    record {
      ready_by = c.requires.ready_by;
      count_value = fitting (goal.at.taken_fault-requires c).Else-not-fits;
      k_value = is_in_range;
    }

pub returns-in-NoSolution : goal.returns-in-NoSolution
returns-in-NoSolution c =
    let a = c.args in
    c.all_fault.ensures
    ∙ ap (λ (x : Claim). tried_under x a.ticket.now a.s a.step.body a.step.size a.work.now a.count a.pending)
    (sym c.in-NoSolution.is)

pub returns-in-Strings : goal.returns-in-Strings
returns-in-Strings c =
    let a = c.args in
    let b = a.ticket.now in
    c.taken_fault.ensures
    ∙ ap (λ (k : ℕ). child_fault b a.s a.step.body a.step.size a.work.now a.count k) c.u16_at-k.ensures.0
    ∙ ap (λ (x : Claim). tried_under x b a.s a.step.body a.step.size a.work.now a.count a.pending) (sym c.in-Strings.is)
