use Prim.Native.Nat.{ℕ, ◌*◌, ◌+◌, ◌-◌}
use mathlib.Core.Bool.{true}
use mathlib.Core.List.{List}
use mathlib.Core.Path.{◌≡◌}
use Rattle.calculus.specs.Cores.{Rested, neighbour_sets}
use Rattle.calculus.specs.Rules.{distinct}
use Rattle.cores.proofs.Resting.{Gathers}
use Rattle.cores.specs.Sets.{Stands}
use Rattle.cores.specs.declared.Words.{Words}
use Rattle.format.specs.Fields.{u16, u16s}
use Rattle.format.specs.StepForms.{are_variables}
use Rattle.question.specs.declared.Progress.{Progress}
use Rattle.question.specs.Posed.{numbered}
use Rattle.cores.proofs.neighbour_sets.Given as goal

-- the variable at position i and the others after it are in range, and where all are distinct the words are those of the pairs before it
pub record Onward (b : List ℕ) (s : Progress) (Standing : Rested → Type 0) (at others : ℕ) (set : Words) (i left : ℕ) : Type 0 where
  pub variables : are_variables s.p (u16s b i (left + 1)) ≡ true
  pub gathered : (r : Rested)
      → Standing r
      → distinct (u16s b at (others + 1)) ≡ true
      → (distinct (u16s b i (left + 1)) ≡ true)
      × Gathers set (neighbour_sets (numbered s) r (u16 b i) (u16s b (i + 2) left)) (neighbour_sets (numbered s) r (u16 b at) (u16s b (at + 2) others))

abbrev pub invariant-loop-k : goal.invariant-loop-k
invariant-loop-k l = Onward l.b l.s (Stands l.work l.sets l.count) l.at l.others l.set (l.at + 2 * l.k) (l.others - l.k)
