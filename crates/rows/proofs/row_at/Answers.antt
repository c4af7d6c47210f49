use Prim.Native.Nat.{◌*◌, ◌+◌, ◌/◌, ◌<◌, ℕ, zero, suc}
use lib.IntN.{ℤ}
use lib.ListN.{length, take, drop, get_or}
use lib.Seq.{drop-drop}
use mathlib.Core.List.{List, []}
use mathlib.Core.Path.{◌≡◌, ◌∙◌, ap}
use native.Mathlib.Omega.{arith}
use Rattle.std.specs.Simd.{first_chunks}
use Rattle.rows.proofs.row_at.Goals as goal

chunk_at : (w : List ℤ) (n m k : ℕ) → k < m → get_or (first_chunks n m w) k [] ≡ take n (drop (n * k) w)
chunk_at w n zero k h = absurd (omega arith)
chunk_at w n (suc m) zero h = let e : n * 0 ≡ 0 = omega arith in rw e
chunk_at w n (suc m) (suc k) h =
    let e : n + n * k ≡ n * suc k = omega arith in
    chunk_at (drop n w) n m k (omega arith) ∙ rw (drop-drop, e)

pub returns : goal.returns
returns c =
    let m = length c.args.work.now / 50 in
    let h : c.args.k < m = omega arith in
    ap (λ (rows : List (List ℤ)). get_or rows c.args.k []) c.as_chunks.ensures.front
    ∙ chunk_at c.args.work.now 50 m c.args.k h
