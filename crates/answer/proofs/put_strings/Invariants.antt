use lib.ListN.{length}
use lib.Seq.{sets}
use mathlib.Core.Path.{◌≡◌}
use Rattle.answer.specs.Table.{table_strings}
use Rattle.format.specs.Answer.{string_records}
use Rattle.answer.proofs.put_strings.Given as goal

abbrev pub invariant-loop-x : goal.invariant-loop-x
invariant-loop-x l =
    (length l.buffer ≡ length l.initial.buffer)
    × (l.at ≡ length (string_records (table_strings l.characters l.sizes l.x)))
    × (l.buffer ≡ sets l.initial.buffer 0 (string_records (table_strings l.characters l.sizes l.x)))
