use Prim.Native.Nat.{◌*◌, ◌≤◌, ℕ}
use lib.IntN.{negsuc, pos, ℤ}
use lib.ListN.{drop, length, take}
use mathlib.Core.List.{List, ◌∷◌}
use mathlib.Core.Path.{◌≡◌}
use Rattle.calculus.specs.LinearForms.{scale}
use Rattle.rows.specs.Rows.{row_at}
use Rattle.rows.proofs.copy_negative.Given as goal

-- −e after the tag of ≥, of row i
abbrev pub negative : List ℤ → ℕ → List ℤ
negative w i = pos 0 ∷ scale (negsuc 0) (drop 1 (row_at w i))

abbrev pub invariant-loop-j : goal.invariant-loop-j
invariant-loop-j l =
    (6400 ≤ length l.work) × (length l.work ≡ length l.initial.work)
    × (take (50 * l.k) l.work ≡ take (50 * l.k) l.initial.work) × (take l.j (row_at l.work l.k) ≡ take l.j (negative l.initial.work l.earlier))
