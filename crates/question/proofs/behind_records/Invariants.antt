use mathlib.Core.Path.{◌≡◌}
use Rattle.format.specs.Places.{skip}
use Rattle.question.proofs.behind_records.Given as goal

abbrev pub invariant-loop : goal.invariant-loop
invariant-loop l = l.j ≡ skip l.b l.counter l.from
