-- The numbers that the host gets.
use Rattle.std.specs.Prelude.{ℕ, ◌-◌, ◌≡◌, List, length, ℤ}
use Rattle.calculus.specs.Limits.{work_numbers}
use Rattle.calculus.specs.Cores.{Set}
use Rattle.format.specs.Checking.{Outcome, Refused, NoSolution, Strings, verdict}
use Rattle.format.specs.Cores.{core_of, low, high}
use Rattle.format.specs.Demands.{Th1, answer_after}
use Rattle.format.specs.Judging.{Judgement, Refusal, AllMet, Unmet, submission, said, Shown, shown_by, by_side}
use Rattle.format.specs.Needs as needs
use Rattle.format.specs.Sameness as sameness
use Rattle.nuldwich.specs.declared.JudgementNumbers.{JudgementNumbers}
use Rattle.nuldwich.specs.declared.JudgeReply.{JudgeReply}
use Rattle.nuldwich.specs.declared.Reply.{Reply}
use Rattle.nuldwich.specs.declared.NeedReply.{NeedReply}
use Rattle.nuldwich.specs.declared.SameReply.{SameReply}

-- judging: number 0 and record 0 where all constraints are met; number 255 where the constraint named by record is not met; else a refusal
abbrev pub numbered : Judgement → JudgementNumbers
numbered (Refusal c r) = record { number = c; «record» = r }
numbered AllMet = record { number = 0; «record» = 0 }
numbered (Unmet k) = record { number = 255; «record» = k }

-- the part shown: its side, 0 for the question and 1 for the answer, where it begins there, and its length
abbrev pub judge_reply : Judgement → Shown → JudgeReply
judge_reply j s = record {
  number = (numbered j).number;
  «record» = (numbered j).«record»;
  shown = by_side s.side 0 1;
  offset = s.from;
  length = s.to - s.from;
}

-- what judge promises of its reply
abbrev pub JudgeReplies : List ℕ → List ℕ → JudgeReply → Type 0
JudgeReplies question answer reply = reply ≡ judge_reply (said (submission question answer)) (shown_by question answer (submission question answer))

-- checking: number 0 where the ticket is accepted, with the claim as record, 1 for no solution and 2 for strings; else a refusal. With it the set that
-- comes with the outcome, in two numbers
unfoldable pub check_reply : Outcome → Set → Reply
check_reply (Refused c r) set = record { number = c; «record» = r; core_low = low set; core_high = high set }
check_reply NoSolution set = record { number = 0; «record» = 1; core_low = low set; core_high = high set }
check_reply (Strings a) set = record { number = 0; «record» = 2; core_low = low set; core_high = high set }

-- what check promises of its reply and the answer buffer, before and after
pub record CheckReplies (ticket answer answer' : List ℕ) (reply : Reply) : Type 0 where
  pub numbered : reply ≡ check_reply (verdict work_numbers (length answer) ticket) (core_of (verdict work_numbers (length answer) ticket) ticket)
  pub answer_is : answer' ≡ answer_after (verdict work_numbers (length answer) ticket) answer

-- and with a lent work area
pub record LentReplies (ticket : List ℕ) (work work' : List ℤ) (answer answer' : List ℕ) (reply : Reply) : Type 0 where
  pub outcome : Outcome
  pub set : Set
  pub checked : Th1 ticket work work' answer answer' outcome set
  pub numbered : reply ≡ check_reply outcome set

-- what a ticket will need: number 0 and record 0 with the report; else a refusal, and the three counts are 0 (docs/DECISIONS.md, 114)
abbrev pub need_reply : needs.Need → NeedReply
need_reply (needs.NeedRefused c r) = record { number = c; «record» = r; steps = 0; facts = 0; pending = 0 }
need_reply (needs.Needs m) = record { number = 0; «record» = 0; steps = m.steps; facts = m.facts; pending = m.pending }

-- whether two questions are the same: 1 or 0; a refusal says which of the two it concerns, 1 or 2, and same is 0
abbrev pub which_number : sameness.Which → ℕ
which_number sameness.first = 1
which_number sameness.second = 2

abbrev pub same_reply : sameness.Sameness → SameReply
same_reply (sameness.SameRefused w c r) = record { number = c; «record» = r; which = which_number w; same = 0 }
same_reply sameness.Same = record { number = 0; «record» = 0; which = 0; same = 1 }
same_reply sameness.Different = record { number = 0; «record» = 0; which = 0; same = 0 }
