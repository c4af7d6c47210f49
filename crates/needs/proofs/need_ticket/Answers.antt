use borrow.Author.Rules.{rules}
use native.Mathlib.Omega.{arith}
use Prim.Native.Nat.{◌+◌}
use mathlib.Core.Path.{◌≡◌, ◌∙◌, ap, sym, subst}
use Rattle.std.specs.Prelude.{Ok}
use Rattle.std.proofs.lemmas.Result.{err_from_is_err_and, IfOk-at_ok}
use Rattle.format.specs.Question as format
use Rattle.format.specs.Question.{question_form, form_manner}
use Rattle.format.specs.Reading.{claim_fault, claim_at}
use Rattle.format.specs.Needs.{needed}
use Rattle.faults.specs.Numbers.{fault_in}
use Rattle.question.specs.Progress.{progress_of, reading_of}
use Rattle.question.specs.Posed.{ReadTo}
use Rattle.delimiters.specs.Claims.{claim_of}
use Rattle.delimiters.proofs.Claiming.{read_question}
use Rattle.needs.specs.Outcomes.{report_is, need_started, Within, AtModel, WalksTo}
use Rattle.needs.proofs.Refusals.{refused, passed}
use Rattle.needs.proofs.Starts.{read_claimed, read_refused, claim_refused, claim_started}
use Rattle.needs.proofs.need_ticket.Goals as goal
use Rattle.needs.proofs.need_ticket.Goals.{In_ok-read, In_ok-claim, In_ok-at, In-Model}

pub returns-in_err-read : goal.returns-in_err-read
unfolding reading_of
returns-in_err-read c =
    let b = c.args.ticket.now in
    let p = err_from_is_err_and c.from_residual.result c.from_residual.ensures.1 in
    rw (p.1, p.2) (sym (read_refused b (sym c.in_err-read.ensures)))

-- reading of the question ended
read_whole : (c : In_ok-read) →
    let b = c.args.ticket.now in
    let r = c.in_ok-read.read in
    question_form b ≡ format.Ended (progress_of b r.numbers) r.at r.record
unfolding reading_of
read_whole c = sym c.in_ok-read.ensures

read_to : (c : In_ok-read) → ReadTo c.args.ticket.now c.in_ok-read.read.numbers c.in_ok-read.read.at c.in_ok-read.read.record
read_to c =
    let r = c.in_ok-read.read in
    read_question form_manner c.args.ticket.now r.numbers r.at r.record (read_whole c)

pub returns-in_err-claim : goal.returns-in_err-claim
returns-in_err-claim c =
    let b = c.args.ticket.now in
    let read = c.in_ok-read.read in
    let p = err_from_is_err_and c.from_residual-in_err-claim.result c.from_residual-in_err-claim.ensures.1 in
    let (e, r) = refused _ c.read_claim.result c.map_err.result c.map_err.ensures.cases _ c.in_err-claim.was read.«record» (λ x h. search rules) in
    rw (p.1, p.2, r) (sym (read_claimed b read.numbers read.at read.record (read_whole (goal.at.returns-in_err-claim c).In_ok-read)
    ∙ claim_refused b read.numbers read.at read.record _ (e ∙ c.read_claim.ensures.fault)))

-- the claim's record
claimed : (c : In_ok-claim) →
    let b = c.args.ticket.now in
    let r = c.in_ok-read.read in
    (claim_fault b (progress_of b r.numbers) r.at ≡ 0) × (c.in_ok-claim.claim ≡ claim_of (claim_at b r.at))
claimed c =
    let b = c.args.ticket.now in
    let r = c.in_ok-read.read in
    let e = passed _ c.read_claim.result c.map_err.result c.map_err.ensures.cases _ c.in_ok-claim.was in
    (sym c.read_claim.ensures.fault ∙ ap fault_in e, IfOk-at_ok (λ claim. claim ≡ claim_of (claim_at b r.at)) e c.read_claim.ensures.claim)

ends_within : (c : In_ok-claim) → Within c.args.ticket.now c.in_ok-read.read.numbers (c.in_ok-read.read.at + 8) (c.in_ok-read.read.record + 1)
ends_within c =
    let b = c.args.ticket.now in
    let r = c.in_ok-read.read in
    let to = read_to (goal.at.In_ok-claim c).In_ok-read in
    record {
      few_strings = to.stands.few_strings;
      few_integers = to.stands.few_integers;
      short = to.short;
      counted = omega (arith, to.stands.counted);
      low = omega (arith, to.low);
    }

pub overflow_add-read-2 : goal.overflow_add-read-2
overflow_add-read-2 c =
    let to = read_to (goal.at.overflow_add-read-2 c).In_ok-read in
    omega (arith, to.low, to.headed, to.short)

pub walk-requires : goal.walk-requires
walk-requires c = ends_within (goal.at.walk-requires c).In_ok-claim

-- the walk begins
begun : (c : In_ok-claim) →
    let b = c.args.ticket.now in
    let r = c.in_ok-read.read in
    need_started c.in_ok-claim.claim b r.numbers (r.record + 1) (r.at + 8) ≡ needed b
begun c =
    let b = c.args.ticket.now in
    let r = c.in_ok-read.read in
    let (e, claim) = claimed c in
    sym (read_claimed b r.numbers r.at r.record (read_whole (goal.at.In_ok-claim c).In_ok-read) ∙ claim_started b r.numbers r.at r.record e c.in_ok-claim.claim claim)

pub returns-in_err-at : goal.returns-in_err-at
unfolding WalksTo
returns-in_err-at c =
    let p = err_from_is_err_and c.from_residual-in_err-at.result c.from_residual-in_err-at.ensures.1 in
    rw (p.1, p.2) (c.in_err-at.ensures ∙ begun (goal.at.returns-in_err-at c).In_ok-claim)

-- and it comes to an end that tells what the ticket needs
walked : (c : In_ok-at) → WalksTo c.args.ticket.now c.in_ok-read.read.numbers (needed c.args.ticket.now) (Ok c.in_ok-at.field-0)
walked c =
    subst (λ n. WalksTo c.args.ticket.now c.in_ok-read.read.numbers n (Ok c.in_ok-at.field-0)) (begun (goal.at.In_ok-at c).In_ok-claim) c.in_ok-at.ensures

model : (c : In-Model) →
    let m = c.in-Model in
    AtModel c.args.ticket.now c.in_ok-read.read.numbers (needed c.args.ticket.now) m.at m.record (report_is m.report)
unfolding WalksTo
model c =
    let b = c.args.ticket.now in
    subst (λ w. WalksTo b c.in_ok-read.read.numbers (needed b) (Ok w)) c.in-Model.is (walked (goal.at.In-Model c).In_ok-at)

pub at_model-requires : goal.at_model-requires
at_model-requires c = (model (goal.at.at_model-requires c).In-Model).here

pub returns-in-Closed : goal.returns-in-Closed
unfolding WalksTo
returns-in-Closed c =
    let b = c.args.ticket.now in
    let s = c.in_ok-read.read.numbers in
    c.at_end.ensures s ∙ subst (λ w. WalksTo b s (needed b) (Ok w)) c.in-Closed.is (walked (goal.at.returns-in-Closed c).In_ok-at)

pub returns-in-Model : goal.returns-in-Model
returns-in-Model c =
    let m = model (goal.at.returns-in-Model c).In-Model in
    c.at_model.ensures m.facts m.reported ∙ m.rest
