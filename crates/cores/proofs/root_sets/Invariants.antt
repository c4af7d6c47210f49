use Prim.Native.Nat.{◌<◌, ℕ}
use mathlib.Core.List.{List}
use lib.ListN.{length}
use mathlib.Core.Path.{◌≡◌}
use Rattle.calculus.specs.Cores.{only}
use Rattle.cores.specs.Sets.{words_at}
use Rattle.cores.specs.declared.Words.{Words}
use Rattle.cores.specs.Words.{words_of}
use Rattle.cores.proofs.root_sets.Given as goal

-- the first k facts rest on themselves
abbrev pub RootedTo : ℕ → List Words → Type 0
RootedTo k v = (j : ℕ) → j < k → words_at v j ≡ words_of (only j)

abbrev pub invariant-loop-k : goal.invariant-loop-k
invariant-loop-k l = RootedTo l.k l.sets × (length l.sets ≡ length l.initial.sets)
