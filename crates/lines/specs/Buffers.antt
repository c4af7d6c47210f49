-- The lines as they are made: from what checking tells, and from the answer's records as they stand in the buffer.
use Rattle.std.specs.Prelude.{ℕ, suc, ◌+◌, ◌/◌, true, false, List, [], ◌∷◌, ◌++◌, eqb}
use Rattle.format.specs.Fields.{i32s}
use Rattle.format.specs.Records.{size, kind, whole, records}
use Rattle.format.specs.Places.{text_at}
use Rattle.deciding.specs.Outcomes.{Told, Refused, NoSolution, Strings}
use Rattle.lines.specs.Lines.{refused_line, none_line, strings_line, string_line, integer_lines, end_line}

-- of the records left, by their positions, the first of which has number k
unfoldable pub record_lines : List ℕ → ℕ → List ℕ → List ℕ
record_lines b k [] = end_line
record_lines b k (at ∷ ats) = elim (whole b at) [
  | false ↦ end_line
  | true ↦ elim (eqb (kind b at) 9) [
    | true ↦ string_line k (text_at b at) ++ record_lines b (suc k) ats
    | false ↦ integer_lines 0 (i32s b (at + 6) (size b at / 4)) ++ end_line
  ]
]

-- the lines for what checking tells, with the answer at the front of a buffer
unfoldable pub lines_by : Told → List ℕ → List ℕ
lines_by (Refused c r) answer = refused_line c r
lines_by (NoSolution low high) answer = none_line
lines_by Strings answer = strings_line ++ record_lines answer 0 (records answer 0)
