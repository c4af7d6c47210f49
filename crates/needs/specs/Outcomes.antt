-- What a ticket will need, as the code tells it.
use Rattle.std.specs.Prelude.{ℕ, ◌+◌, ◌≤◌, max, ◌≡◌, List, [], length, Result, Ok, Err}
use Rattle.calculus.specs.Limits.{ticket_bytes, variable_limit}
use Rattle.calculus.specs.Facts.{Question}
use Rattle.calculus.specs.Walk.{closed}
use Rattle.format.specs.Records.{kind, next, records}
use Rattle.format.specs.Reading.{State, proving, taking, steps_on, claim_at, begin, read_claim}
use Rattle.format.specs.ProperForm.{by_shape, steps_at}
use Rattle.format.specs.Needs as format
use Rattle.format.specs.Needs.{report, need_by}
use Rattle.question.specs.declared.Progress.{Progress}
use Rattle.question.specs.Progress.{progress_of}
use Rattle.question.specs.Posed.{asked}
use Rattle.delimiters.specs.declared.Claim.{Claim}
use Rattle.delimiters.specs.Claims.{open_under}
use Rattle.needs.specs.declared.Report.{Report}
use Rattle.faults.specs.Numbers.{number}
use Rattle.faults.specs.declared.Refusal.{Refusal}
use Rattle.needs.specs.declared.Walked.{Walked}
use Rattle.needs.specs.declared.Walked.TheVariants.{Closed, Model}

abbrev pub report_is : Report → format.Report
report_is r = record { steps = r.steps; facts = r.facts; pending = r.pending }

-- a refusal by its number
abbrev pub need_of : Result Report Refusal → format.Need
need_of (Err f) = format.NeedRefused (number f.fault) f.record
need_of (Ok r) = format.Needs (report_is r)

-- ---- a walk on its way

-- a report and a state met besides
abbrev pub with_state : format.Report → ℕ → ℕ → format.Report
with_state m facts pending = record { steps = m.steps; facts = max m.facts facts; pending = max m.pending pending }

-- a report and a step besides
abbrev pub with_step : format.Report → format.Report
with_step m = record { steps = m.steps + 1; facts = m.facts; pending = m.pending }

-- the reports of two parts of a walk, together
abbrev pub joined : format.Report → format.Report → format.Report
joined m l = record { steps = m.steps + l.steps; facts = max m.facts l.facts; pending = max m.pending l.pending }

abbrev pub nothing_met : format.Report
nothing_met = record { steps = 0; facts = 0; pending = 0 }

-- what a ticket with the question u needs, where the walk stands in a state before record r at a position, with the report m of its way there
unfoldable pub need_from : List ℕ → Question → State ℕ ℕ → format.Report → ℕ → ℕ → format.Need
need_from b u st m r at = need_by (λ _. joined m (report (λ k. k) (by_shape u) st (steps_at b (records b at)))) (steps_on (by_shape u) b u st r at)

-- where it begins under a claim
abbrev pub need_started : Claim → List ℕ → Progress → ℕ → ℕ → format.Need
need_started claim b s r at = need_from b (asked b s) (open_under claim (length (asked b s).constraints) []) nothing_met r at

-- a question's numbers are within their limits in a ticket that is not too long, and there are no more constraints and records than bytes before a position
pub record Within (b : List ℕ) (s : Progress) (at r : ℕ) : Type 0 where
  pub few_strings : s.p ≤ variable_limit
  pub few_integers : s.q ≤ variable_limit
  pub short : length b ≤ ticket_bytes
  pub counted : s.constraints ≤ at
  pub low : r ≤ at

-- the model's record is all there
pub record ModelHere (b : List ℕ) (s : Progress) (at r : ℕ) : Type 0 where
  pub within : Within b s at r
  pub model : kind b at ≡ 7
  pub whole : next b at ≤ length b

-- the walk came to a model, on a branch of so many facts, which the report has
pub record AtModel (b : List ℕ) (s : Progress) (n : format.Need) (at r : ℕ) (m : format.Report) : Type 0 where
  pub here : ModelHere b s at r
  pub facts : ℕ
  pub reported : facts ≤ m.facts
  pub rest : need_from b (asked b s) (taking facts) m r at ≡ n

-- n is what the ticket needs, by where the walk came to
unfoldable pub WalksTo : List ℕ → Progress → format.Need → Result Walked Refusal → Type 0
WalksTo b s n (Err f) = format.NeedRefused (number f.fault) f.record ≡ n
WalksTo b s n (Ok (Closed at r m)) = need_from b (asked b s) (proving closed) (report_is m) r at ≡ n
WalksTo b s n (Ok (Model at r m)) = AtModel b s n at r (report_is m)

-- ---- the whole ticket

-- at the claim
abbrev pub need_claimed : List ℕ → Progress → ℕ → ℕ → format.Need
need_claimed b s at r =
    need_by (λ v. report (λ k. k) (by_shape v) (begin (by_shape v) (claim_at b at)) (steps_at b (records b (next b at)))) (read_claim by_shape b (progress_of b s) at r)
