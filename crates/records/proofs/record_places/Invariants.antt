use Prim.Native.Nat.{◌<◌, ◌≤◌, ℕ}
use lib.ListN.{get_or, length}
use mathlib.Core.Path.{◌≡◌}
use Rattle.format.specs.Places.{skip}
use Rattle.records.proofs.record_places.Given as goal

abbrev pub invariant-loop-x : goal.invariant-loop-x
invariant-loop-x l =
    (l.x ≤ l.count) × (l.at ≡ skip l.b l.x l.from) × (length l.places ≡ 17) × ((k : ℕ) → k < l.x → get_or l.places k 0 ≡ skip l.b k l.from)
