use mathlib.Core.Path.{◌∙◌, ap, sym}
use native.Mathlib.Omega.{arith}
use Rattle.std.specs.Prelude.{Result, Ok}
use Rattle.deciding.specs.declared.Verdict.{Verdict}
use Rattle.deciding.specs.Outcomes.{told_by}
use Rattle.faults.specs.declared.Refusal.{Refusal}
use Rattle.lines.proofs.Puts.{puts_same, then}
use Rattle.lines.specs.Buffers.{lines_by}
use Rattle.lines.proofs.Page.outcome.Goals as goal

pub returns-in-Err : goal.returns-in-Err
unfolding lines_by
returns-in-Err c = puts_same (ap (λ (x : Result Verdict Refusal). lines_by (told_by x) c.args.answer.now) (sym c.in-Err.is)) (omega arith) c.refused.ensures

pub returns-in-Ok-NoSolution : goal.returns-in-Ok-NoSolution
unfolding lines_by
returns-in-Ok-NoSolution c =
    let e = rw c.in-Ok-NoSolution.is at c.in-Ok-NoSolution.field-0-is in
    puts_same (ap (λ (x : Result Verdict Refusal). lines_by (told_by x) c.args.answer.now) (sym (c.in-Ok-NoSolution.is ∙ ap Ok e))) (omega arith) c.text.ensures

pub returns-in-Ok-Strings : goal.returns-in-Ok-Strings
unfolding lines_by
returns-in-Ok-Strings c =
    let e = rw c.in-Ok-Strings.is at c.in-Ok-Strings.field-0-is in
    puts_same (ap (λ (x : Result Verdict Refusal). lines_by (told_by x) c.args.answer.now) (sym (c.in-Ok-Strings.is ∙ ap Ok e))) (omega arith)
    (then c.text-in-Ok-Strings.ensures c.records.ensures)
