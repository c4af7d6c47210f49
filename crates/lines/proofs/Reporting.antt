-- The lines for what checking promised.
use Prim.Native.Nat.{ℕ, ◌≤◌}
use mathlib.Core.Path.{◌≡◌, refl, sym, ◌∙◌, ap, ap₂}
use mathlib.Core.List.{List, ◌++◌}
use lib.ListN.{length, drop}
use lib.Seq.{length-take-le}
use lib.IntN.{ℤ}
use Rattle.calculus.specs.Limits.{work_numbers, answer_bytes}
use Rattle.calculus.specs.Cores.{Set}
use Rattle.format.specs.Checking as format
use Rattle.format.specs.Checking.{verdict}
use Rattle.format.specs.Answer.{encode}
use Rattle.format.specs.Demands.{answer_after}
use Rattle.std.specs.Prelude.{Result}
use Rattle.faults.specs.declared.Refusal.{Refusal}
use Rattle.deciding.specs.declared.Verdict.{Verdict}
use Rattle.deciding.specs.Outcomes.{told, told_by}
use Rattle.checking.specs.Outcomes.{Promised}
use Rattle.lines.specs.Lines.{strings_line}
use Rattle.lines.specs.Put.{Put}
use Rattle.lines.specs.Buffers.{lines_by}
use Rattle.lines.specs.Reports.{lines_of, Reports}
use Rattle.lines.proofs.Answers.{answer_lines_law}

-- the buffer that checking leaves has the answer at its front
same_lines : (ticket buffer : List ℕ) (o : format.Outcome) (set : Set) → verdict work_numbers answer_bytes ticket ≡ o → lines_by (told o set) (answer_after o buffer) ≡ lines_of o
unfolding told lines_by lines_of
same_lines ticket buffer (format.Refused c r) set e = refl
same_lines ticket buffer format.NoSolution set e = refl
same_lines ticket buffer (format.Strings a) set e =
    ap (λ l. strings_line ++ l) (answer_lines_law work_numbers answer_bytes ticket a (drop (length (encode a)) buffer) e)

pub reported : {ticket : List ℕ} {work work' : List ℤ} {answer answer' out out' : List ℕ} {o : Result Verdict Refusal} {to : ℕ} → Promised ticket work work' answer answer' o
    → length work ≡ work_numbers → length answer ≡ answer_bytes → Put out 0 (lines_by (told_by o) answer') out' to → to ≤ length out' → Reports ticket out out' to
reported {ticket} {answer = answer} {out' = out'} {to = to} k e f p h =
    let outcome : k.outcome ≡ verdict work_numbers answer_bytes ticket = k.checked.outcome ∙ ap₂ (λ w a. verdict w a ticket) e f in
    record {
      lines = p.front ∙ ap₂ lines_by k.tells k.checked.answer_is ∙ same_lines ticket answer k.outcome k.set (sym outcome) ∙ ap lines_of outcome;
      rest = p.rest;
      within = h;
      counted = sym (length-take-le to out' h);
    }
