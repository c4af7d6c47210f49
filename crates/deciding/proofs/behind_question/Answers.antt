use borrow.Author.Rules.{rules}
use mathlib.Core.Path.{◌≡◌, ◌∙◌, ap, sym}
use native.Mathlib.Omega.{arith}
use Rattle.std.specs.Prelude.{Ok}
use Rattle.std.proofs.lemmas.Result.{err_from_is_err_and, IfOk-at_ok}
use Rattle.faults.specs.Numbers.{fault_in}
use Rattle.question.proofs.Refusals.{numbered}
use Rattle.claims.proofs.Located.{value_before, error_before}
use Rattle.deciding.proofs.Outcomes.{decided_by, with_set, refused_at}
use Rattle.deciding.proofs.Posing.{posed, core_behind}
use Rattle.delimiters.proofs.Claiming.{claims_so}
use Rattle.format.proofs.StepTurns.{nonzero, claim_faulty}
use Rattle.format.specs.Checking.{checker, outcome_of}
use Rattle.format.specs.Reading.{claim_fault}
use Rattle.question.specs.Progress.{progress_of}
use Rattle.deciding.proofs.behind_question.Goals as goal
use Rattle.deciding.proofs.behind_question.Goals.{In_ok-claim}

pub returns-in_err-claim : goal.returns-in_err-claim
returns-in_err-claim c =
    let s = c.args in
    let b = s.ticket.now in
    let p = err_from_is_err_and c.from_residual.result c.from_residual.ensures.1 in
    let (f, q, h) = error_before _ c.read_claim.result c.map_err.ensures.cases c.in_err-claim.was in
    let at : (c.in_err-claim.field-0.0.fault ≡ f) × (c.in_err-claim.field-0.0.«record» ≡ s.read.«record») = search rules in
    rw (p.1, p.2) (refused_at s.answer.now f at
    (ap outcome_of (nonzero (claim_faulty checker b (progress_of b s.read.numbers) s.read.at s.read.«record») _ (sym (ap fault_in q) ∙ c.read_claim.ensures.fault) (numbered f))))

-- the claim is good
claimed : (c : In_ok-claim) → c.read_claim.result ≡ Ok c.in_ok-claim.claim
claimed c = value_before _ c.read_claim.result c.map_err.ensures.cases c.in_ok-claim.was

good : (c : In_ok-claim) → claim_fault c.args.ticket.now (progress_of c.args.ticket.now c.args.read.numbers) c.args.read.at ≡ 0
good c = sym c.read_claim.ensures.fault ∙ ap fault_in (claimed c)

pub load-requires : goal.load-requires
load-requires c = (
  posed c.args.ticket.now c.args.read.numbers c.args.read.at c.args.read.«record» c.requires.read_to_claim (good (goal.at.load-requires c).In_ok-claim),
  c.requires.work_numbers_in_bounds.0,
)

pub behind_claim-requires : goal.behind_claim-requires
behind_claim-requires c = (
  (
    posed c.args.ticket.now c.args.read.numbers c.args.read.at c.args.read.«record» c.requires.read_to_claim (good (goal.at.behind_claim-requires c).In_ok-claim),
    c.load.ensures.fine,
    c.load.ensures.loaded,
  ),
  omega arith,
  c.requires.work_numbers_in_bounds.1,
)

pub returns : goal.returns
returns c =
    let s = c.args in
    let b = s.ticket.now in
    let here = (goal.at.returns c).In_ok-claim in
    decided_by (ap outcome_of (claims_so checker b s.read.numbers s.read.at s.read.«record» (good here) c.in_ok-claim.claim
    (IfOk-at_ok _ (claimed here) c.read_claim.ensures.claim)))
    (with_set (core_behind b s.read.numbers s.read.at s.read.«record» c.requires.read_to_claim (good here)) c.behind_claim.ensures)
