use Prim.Native.Nat.{◌-◌}
use Rattle.sameness.proofs.Records.{Agreeing}
use Rattle.sameness.specs.Ready.{extended_in}
use Rattle.sameness.proofs.records_agree.Given as goal

abbrev pub invariant-loop : goal.invariant-loop
invariant-loop l = Agreeing l.b l.s (extended_in l.c l.t) l.at (l.s.extended - l.counter)
