use Prim.Native.Nat.{◌*◌, ◌<◌, ◌≤◌, ℕ}
use lib.ListN.{get_or, length}
use mathlib.Core.Path.{◌≡◌}
use Rattle.calculus.specs.Classes as calculus
use Rattle.calculus.specs.Facts.{Branch}
use Rattle.calculus.specs.Limits.{length_limit, variable_limit}
use Rattle.question.specs.Posed.{asked}
use Rattle.strings.proofs.Rounds.{Filled}
use Rattle.strings.proofs.give_strings.Given as goal

abbrev pub invariant-loop-x : goal.invariant-loop-x
invariant-loop-x l =
    (l.leaf.s.p ≤ variable_limit) × (length_limit * l.leaf.s.p ≤ length l.characters) × (length l.characters ≡ length l.initial.characters) × (length l.sizes ≡ variable_limit)
    × ((y : ℕ) → y < l.x → get_or l.sizes y 0 ≤ length_limit) × ((b : Branch) → l.leaf.labels.now ≡ calculus.labels b →
    Filled (asked l.leaf.ticket.now l.leaf.s) b l.leaf.model.now l.characters l.sizes l.x)
