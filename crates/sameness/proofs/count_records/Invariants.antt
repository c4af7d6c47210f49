use Prim.Native.Nat.{◌-◌}
use Rattle.sameness.proofs.Records.{Counting}
use Rattle.sameness.proofs.count_records.Given as goal

abbrev pub invariant-loop : goal.invariant-loop
invariant-loop l = Counting l.b l.x l.c l.initial.at l.fn.t.extended l.at l.found (l.fn.t.extended - l.counter)
