use Prim.Native.Nat.{◌+◌, ◌*◌, ◌-◌, ◌≤◌}
use lib.ListN.{length}
use Rattle.format.specs.Records.{records}
use Rattle.lines.specs.declared.Page.{Page}
use Rattle.lines.specs.Buffers.{record_lines}
use Rattle.lines.specs.Pages.{Puts, Room}
use Rattle.lines.proofs.Page.records.Given as goal

abbrev pub invariant-loop-kind : goal.invariant-loop-kind
invariant-loop-kind l = record {
  before : l.variable ≤ l.at;
  within : l.at ≤ length l.answer;
  room : Room l.self (12 * (length l.answer - l.at) + 4);
  left : (p : Page) → Puts l.self (record_lines l.answer l.variable (records l.answer l.at)) (12 * (length l.answer - l.at) + 4) p
      → Puts l.initial.self (record_lines l.answer 0 (records l.answer 0)) (12 * length l.answer + 4) p;
}

abbrev pub decreases-loop-kind : goal.decreases-loop-kind
decreases-loop-kind l = length l.answer - l.at
