-- Pairs read one by one: what is left after i of n.
use Prim.Native.Nat.{ℕ, suc, ◌+◌, ◌*◌, ◌-◌, ◌≤◌, ◌<◌}
use native.Mathlib.Omega.{arith}
use mathlib.Core.Path.{◌≡◌}
use mathlib.Core.List.{List, [], ◌∷◌}
use Rattle.format.specs.Fields.{u16, i32, pairs_at}

pub all_pairs : (b : List ℕ) (at n : ℕ) → pairs_at b (at + 6 * 0) (n - 0) ≡ pairs_at b at n
all_pairs b at n = let e : at + 6 * 0 ≡ at = omega arith in let f : n - 0 ≡ n = omega arith in rw (e, f)

pub next_pair : (b : List ℕ) (at n i : ℕ) → i < n
    → pairs_at b (at + 6 * i) (n - i) ≡ (u16 b (at + 6 * i), i32 b (at + 6 * i + 2)) ∷ pairs_at b (at + 6 * (i + 1)) (n - (i + 1))
unfolding pairs_at
next_pair b at n i h =
    let e : n - i ≡ suc (n - (i + 1)) = omega arith in
    let k : at + 6 * i + 6 ≡ at + 6 * (i + 1) = omega arith in
    rw (e, k)

pub no_pair : (b : List ℕ) (at n i : ℕ) → n ≤ i → pairs_at b (at + 6 * i) (n - i) ≡ []
unfolding pairs_at
no_pair b at n i h = let e : n - i ≡ 0 = omega arith in rw e
