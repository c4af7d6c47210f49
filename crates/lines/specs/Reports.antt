-- What the program prints for a ticket.
use Rattle.std.specs.Prelude.{ℕ, ◌≤◌, ◌≡◌, List, ◌++◌, length, take, drop}
use Rattle.calculus.specs.Limits.{work_numbers, answer_bytes}
use Rattle.format.specs.Checking.{Outcome, Refused, NoSolution, Strings, verdict}
use Rattle.lines.specs.Lines.{refused_line, none_line, strings_line, answer_lines}

-- "it prints three lines .. Others print one line": the lines for an outcome. The set that comes with it is not printed
unfoldable pub lines_of : Outcome → List ℕ
lines_of (Refused c r) = refused_line c r
lines_of NoSolution = none_line
lines_of (Strings a) = strings_line ++ answer_lines a

-- the first bytes of the buffer, up to a position, are the lines for a ticket, and the others are as they were; the buffer before and after
pub record Reports (ticket out out' : List ℕ) (to : ℕ) : Type 0 where
  pub lines : take to out' ≡ lines_of (verdict work_numbers answer_bytes ticket)
  pub rest : drop to out' ≡ drop to out
  pub within : to ≤ length out'
  -- so that a caller may lend these bytes on
  pub counted : to ≡ length (take to out')
