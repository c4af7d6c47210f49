use Prim.Native.Nat.{◌<◌, ℕ}
use lib.ListN.{length}
use mathlib.Core.Path.{◌≡◌}
use Rattle.question.specs.Posed.{asked}
use Rattle.strings.specs.Filling.{string_in, fixed_at}
use Rattle.strings.proofs.give_fixed.Given as goal

abbrev pub invariant-loop-x : goal.invariant-loop-x
invariant-loop-x l =
    (length l.characters ≡ length l.initial.characters)
    × (length l.sizes ≡ 16)
    × ((y : ℕ) → y < l.x → string_in l.characters l.sizes y ≡ fixed_at (asked l.leaf.ticket.now l.leaf.s) l.leaf.labels.now l.leaf.model.now y)
