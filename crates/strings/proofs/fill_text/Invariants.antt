use lib.ListN.{length, take}
use mathlib.Core.List.{◌++◌}
use mathlib.Core.Path.{◌≡◌}
use Prim.Native.Nat.{◌+◌}
use Rattle.format.specs.Fields.{u32s}
use Rattle.strings.proofs.fill_text.Given as goal

abbrev pub invariant-loop-i : goal.invariant-loop-i
invariant-loop-i l =
    let left = l.i-iterator.iter in
    let i = l.i-iterator.count in
    (length l.row ≡ length l.initial.row) × (i + length left ≡ l.count) × (take i l.row ++ left ≡ u32s l.ticket l.at l.count)
