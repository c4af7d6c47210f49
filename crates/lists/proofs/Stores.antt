-- Runs of stores into a list, one after another.
use mathlib.Core.Path.{◌≡◌, ◌∙◌}
use mathlib.Core.List.{List, [], ◌∷◌, ◌++◌}
use Prim.Native.Nat.{ℕ, suc, ◌+◌, ◌≤◌}
use native.Mathlib.Nat.{add-suc, suc-add, add-zero, zero-add}
use lib.ListN.{length, drop, set}
use lib.Seq.{sets, sets-eq}

module _ {A : Type 0} where
  -- what is stored after the first run is stored with it
  pub sets_sets : (w v b : List A) (at : ℕ) → sets (sets b at w) (at + length w) v ≡ sets b at (w ++ v)
  sets_sets [] v b at = rw add-zero
  sets_sets (x ∷ w) v b at = rw (add-suc, ← suc-add) (sets_sets w v (set b at x) (suc at))

  -- stores from the first element on change nothing past their number
  pub sets_front : (w b : List A) → length w ≤ length b → sets b 0 w ≡ w ++ drop (length w) b
  sets_front w b h = sets-eq w b 0 (rw zero-add h) ∙ rw zero-add
