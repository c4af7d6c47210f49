-- The reply to a finding of judging, and to an outcome of checking.
use Prim.Native.Nat.{ℕ, ◌-◌}
use mathlib.Core.Path.{◌≡◌, refl, sym, ◌∙◌, ap, ap₂, subst}
use mathlib.Core.List.{List, ◌++◌}
use lib.ListN.{length, drop}
use lib.IntN.{ℤ}
use Rattle.calculus.specs.Limits.{work_numbers}
use Rattle.format.specs.Checking as format
use Rattle.format.specs.Checking.{verdict}
use Rattle.format.specs.Cores.{word, core_of}
use Rattle.format.specs.Demands.{answer_written}
use Rattle.std.specs.Prelude.{Result}
use Rattle.faults.specs.declared.Refusal.{Refusal}
use Rattle.deciding.specs.declared.Verdict.{Verdict}
use Rattle.deciding.specs.Outcomes.{Told, Refused, NoSolution, Strings, told, told_by}
use Rattle.checking.specs.Outcomes.{Promised}
use Rattle.format.specs.Judging.{Submission, said, shown_by, by_side}
use Rattle.judging.specs.declared.Finding.{Finding}
use Rattle.judging.specs.Judgements.{judgement_of, side_of, Finds}
use Rattle.nuldwich.specs.declared.JudgementNumbers.{JudgementNumbers}
use Rattle.nuldwich.specs.declared.Reply.{Reply}
use Rattle.nuldwich.specs.Replies.{numbered, judge_reply, check_reply, CheckReplies, LentReplies}

-- ---- judging

pub judge_reply_law : {b v : List ℕ} {g : Submission} {f : Finding} {n : JudgementNumbers} {side size : ℕ}
    → Finds b v g f
    → n ≡ numbered (judgement_of f.said)
    → side ≡ by_side (side_of f.shown.side) 0 1
    → size ≡ f.shown.to - f.shown.from
    → record { number = n.number; «record» = n.«record»; shown = side; offset = f.shown.from; length = size } ≡ judge_reply (said g) (shown_by b v g)
judge_reply_law h en es el = rw (en, es, el) (ap₂ judge_reply h.says h.shows)

-- ---- checking

abbrev pub reply_to : Told → Reply
reply_to (Refused c r) = record { number = c; «record» = r; core_low = 0; core_high = 0 }
reply_to (NoSolution x y) = record { number = 0; «record» = 1; core_low = x; core_high = y }
reply_to Strings = record { number = 0; «record» = 2; core_low = 0; core_high = 0 }

outcome_numbered : (x : format.Outcome) (ticket : List ℕ) → reply_to (told x (core_of x ticket)) ≡ check_reply x (core_of x ticket)
unfolding told check_reply word
outcome_numbered (format.Refused c r) ticket = refl
outcome_numbered format.NoSolution ticket = refl
outcome_numbered (format.Strings s) ticket = refl

pub replied : {o p : Result Verdict Refusal} → o ≡ p → (x : format.Outcome) (ticket : List ℕ) → told_by o ≡ told x (core_of x ticket)
    → reply_to (told_by p) ≡ check_reply x (core_of x ticket)
replied e x ticket f = ap reply_to (sym (ap told_by e) ∙ f) ∙ outcome_numbered x ticket

-- a reply that numbers the outcome that was promised, with its set
module _ {ticket : List ℕ} {work work' : List ℤ} {answer answer' : List ℕ} {o : Result Verdict Refusal} {reply : Reply}
    (k : Promised ticket work work' answer answer' o)
    (r : (x : format.Outcome) (t : List ℕ) → told_by o ≡ told x (core_of x t) → reply ≡ check_reply x (core_of x t)) where
  with_set : reply ≡ check_reply k.outcome (core_of k.outcome ticket)
  with_set = r k.outcome ticket (k.tells ∙ ap (told k.outcome) k.checked.took_part)

  pub lent : LentReplies ticket work work' answer answer' reply
  lent = record {
    outcome = k.outcome;
    set = k.set;
    checked = k.checked;
    numbered = with_set ∙ ap (check_reply k.outcome) (sym k.checked.took_part);
  }

  pub own : length work ≡ work_numbers → CheckReplies ticket answer answer' reply
  own e =
      let outcome : k.outcome ≡ verdict work_numbers (length answer) ticket = k.checked.outcome ∙ ap (λ n. verdict n (length answer) ticket) e in
      record {
        numbered = with_set ∙ ap (λ o. check_reply o (core_of o ticket)) outcome;
        answer_is = subst (λ x. answer' ≡ answer_written x ++ drop (length (answer_written x)) answer) outcome k.checked.answer_is;
      }
