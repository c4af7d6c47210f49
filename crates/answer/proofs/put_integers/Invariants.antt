use lib.ListN.{length, take}
use lib.Seq.{sets}
use mathlib.Core.Path.{◌≡◌}
use Rattle.format.specs.Answer.{integer_bytes}
use Rattle.answer.proofs.put_integers.Given as goal

abbrev pub invariant-loop-i : goal.invariant-loop-i
invariant-loop-i l = (length l.buffer ≡ length l.initial.buffer) × (l.buffer ≡ sets l.initial.buffer l.at (integer_bytes (take l.i l.model)))
