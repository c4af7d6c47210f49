use native.Mathlib.Omega.{arith}
use Rattle.question.proofs.Columns.{column_code, column_length}
use Rattle.question.proofs.column_of.Goals as goal

pub returns-then-function-eq-LEN : goal.returns-then-function-eq-LEN
returns-then-function-eq-LEN c = (column_length _ _ _ _ c.if-function-eq-LEN.true, omega arith)

pub returns-else-function-eq-LEN : goal.returns-else-function-eq-LEN
returns-else-function-eq-LEN c = (column_code _ _ _ _ c.if-function-eq-LEN.false, omega arith)
