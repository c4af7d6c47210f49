use Prim.Native.Nat.{ℕ}
use lib.IntN.{pos}
use lib.ListN.{length-replicate}
use native.Mathlib.Omega.{arith}
use Rattle.calculus.specs.Limits.{work_numbers, answer_bytes}
use Rattle.lines.proofs.Reporting.{reported}
use Rattle.lines.proofs.report.Goals as goal

pub returns : goal.returns
returns c =
    reported c.check_ticket-outcome.ensures (length-replicate work_numbers (pos 0)) (length-replicate {A = ℕ} answer_bytes 0) c.outcome.ensures.put (omega arith)
