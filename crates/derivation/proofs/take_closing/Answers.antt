use borrow.Author.Tests.{not-true, not-false}
use mathlib.Core.Path.{refl, sym, ◌∙◌, ap, subst}
use Rattle.delimiters.specs.declared.Claim.{Claim}
use Rattle.rows.specs.Rows.{branch_of}
use Rattle.question.specs.Posed.{asked}
use Rattle.steps.proofs.Bodies.{its_kind}
use Rattle.conclusions.specs.Made.{closing_of}
use Rattle.derivation.specs.State.{tried_at}
use Rattle.derivation.specs.Actions.{Acts}
use Rattle.derivation.specs.declared.Action.TheVariants.{Closes}
use Rattle.derivation.proofs.Taking.{step_open, step_closes, no_children, ready_by, none_to_take}
use Rattle.derivation.proofs.take_closing.Goals as goal

pub closes-requires : goal.closes-requires
closes-requires c =
    record {
      ready_by = ready_by c.requires.ready_under c.requires.rule_value.0;
      labelled = c.requires.rule_value.1;
    }

pub returns-then-not-closes : goal.returns-then-not-closes
unfolding Acts
returns-then-not-closes c =
    let a = c.args in
    let b = a.ticket.now in
    let w = a.work.now in
    let eight =
    step_open b (asked b a.s) (branch_of w a.count) a.«record» a.size c.requires.ready_under.sized
    (ap closing_of (sym (not-true _ c.if-not-closes.true-raw)) ∙ c.closes.ensures) in record {
      number = λ pending. eight pending
          ∙ ap (λ (x : Claim). tried_at x b a.s a.«record» w a.count pending) (sym c.in-NoSolution.is);
      acts = λ pending. tt;
    }

pub returns-else-not-closes : goal.returns-else-not-closes
unfolding Acts
returns-else-not-closes c =
    let a = c.args in
    let b = a.ticket.now in
    let u = asked b a.s in
    let w = a.work.now in
    let br = branch_of w a.count in
    let claimed = sym c.in-NoSolution.is in
    let e = ap closing_of (sym (not-false _ c.if-not-closes.false-raw)) ∙ c.closes.ensures in record {
      number = λ pending. step_closes b u br a.«record» a.size c.requires.ready_under.sized e pending
          ∙ ap (λ (x : Claim). tried_at x b a.s a.«record» w a.count pending) claimed;
      acts = λ pending. subst (λ (x : Claim). Acts x b u a.«record» pending w a.count w Closes) claimed
          (no_children b u br a.«record» a.size c.requires.ready_under.sized e, refl);
    }

pub returns-in-Strings : goal.returns-in-Strings
unfolding Acts
returns-in-Strings c =
    let a = c.args in
    let b = a.ticket.now in
    let w = a.work.now in
    let sized = c.requires.ready_under.sized in record {
      number = λ pending. none_to_take b a.s a.«record» a.size sized w a.count c.requires.ready_under.ready (its_kind (ready_by c.requires.ready_under c.requires.rule_value.0)) pending
          ∙ ap (λ (x : Claim). tried_at x b a.s a.«record» w a.count pending) (sym c.in-Strings.is);
      acts = λ pending. tt;
    }
