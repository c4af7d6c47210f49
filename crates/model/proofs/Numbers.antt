-- The model's numbers, read one by one into a row of zeros.
use Prim.Native.Nat.{ℕ, zero, suc, ◌+◌, ◌*◌, ◌-◌, ◌<◌}
use native.Mathlib.Numerals.{add-one}
use native.Mathlib.Omega.{arith}
use mathlib.Core.Path.{◌≡◌, ◌∙◌, ap}
use mathlib.Core.List.{List, ◌∷◌, ◌++◌}
use lib.ListN.{set}
use Rattle.calculus.specs.Limits.{column_limit}
use Rattle.calculus.specs.LinearForms.{zeros}
use Rattle.format.specs.Fields.{i32, i32s}

set_next : (b : List ℕ) (at j n : ℕ) → set (i32s b at j ++ zeros (suc n)) j (i32 b (at + 4 * j)) ≡ i32s b at (suc j) ++ zeros n
unfolding i32s
set_next b at zero n = ap (λ k. i32 b k ∷ zeros n) (let e : at + 4 * 0 ≡ at = omega arith in e)
set_next b at (suc j) n = ap (λ zs. i32 b at ∷ zs)
    (ap (λ k. set (i32s b (at + 4) j ++ zeros (suc n)) j (i32 b k)) (let e : at + 4 * suc j ≡ at + 4 + 4 * j = omega arith in e) ∙ set_next b (at + 4) j n)

pub number_more : (b : List ℕ) (at j : ℕ) → j < column_limit
    → set (i32s b at j ++ zeros (column_limit - j)) j (i32 b (at + 4 * j)) ≡ i32s b at (j + 1) ++ zeros (column_limit - (j + 1))
number_more b at j h =
    let e : column_limit - j ≡ suc (column_limit - (j + 1)) = omega arith in
    rw (e, add-one j) (set_next b at j (column_limit - suc j))
