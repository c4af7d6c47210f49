use Prim.Native.Nat.{ℕ}
use mathlib.Core.Path.{◌∙◌, ap}
use Rattle.std.specs.Prelude.{Ok}
use Rattle.nuldwich.proofs.Numbered.{replied}
use Rattle.nuldwich.proofs.ReplyFromResultVerdictRefusal.from.Goals as goal

pub returns-in-Err : goal.returns-in-Err
returns-in-Err c = λ x ticket e.
    ap (λ (n : ℕ). record { number = n; «record» = c.in-Err.refusal.«record»; core_low = 0; core_high = 0 }) c.number.ensures
    ∙ replied c.in-Err.is x ticket e

pub returns-in-Ok-NoSolution : goal.returns-in-Ok-NoSolution
returns-in-Ok-NoSolution c = λ x ticket e.
    let is = rw c.in-Ok-NoSolution.is at c.in-Ok-NoSolution.field-0-is in
    replied (c.in-Ok-NoSolution.is ∙ ap Ok is) x ticket e

pub returns-in-Ok-Strings : goal.returns-in-Ok-Strings
returns-in-Ok-Strings c = λ x ticket e.
    let is = rw c.in-Ok-Strings.is at c.in-Ok-Strings.field-0-is in
    replied (c.in-Ok-Strings.is ∙ ap Ok is) x ticket e
