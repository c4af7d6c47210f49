-- A table of positions, filled one by one.
use Prim.Native.Nat.{ℕ, ◌≤◌, ◌<◌}
use native.Mathlib.Omega.{arith}
use native.Mathlib.Decide.{dec_lt}
use mathlib.Core.Path.{◌≡◌, sym, ◌∙◌, ap}
use mathlib.Core.List.{List}
use lib.ListN.{length, get_or, set}
use lib.Seq.{get_or-set_same, get_or-set_other}

pub placed_more : (places : List ℕ) (at : ℕ) (here : ℕ → ℕ) (x : ℕ) → length places ≡ 17 → x < 17 → at ≡ here x → ((k : ℕ) → k < x → get_or places k 0 ≡ here k)
    → (k : ℕ) → k ≤ x → get_or (set places x at) k 0 ≡ here k
placed_more places at here x n h e f k g = go (dec_lt k x)
  where
    go : Dec (k < x) → get_or (set places x at) k 0 ≡ here k
    go (yes l) = get_or-set_other places x k at 0 (λ d. omega arith) ∙ f k l
    go (no m) =
        let d : k ≡ x = omega arith in
        ap (λ (j : ℕ). get_or (set places x at) j 0) d ∙ get_or-set_same places x at 0 (omega arith) ∙ e ∙ ap here (sym d)
