use Prim.Native.Nat.{◌+◌, ◌-◌, ◌*◌}
use lib.IntN.{ℤ}
use lib.ListN.{take, drop, length-drop}
use lib.Seq.{drop_at, length-take-le}
use mathlib.Core.List.{List}
use mathlib.Core.Path.{◌∙◌, ◌≡◌, ap, sym}
use native.Mathlib.Omega.{arith}
use Rattle.std.proofs.lemmas.List.Edits.{take-paste}
use Rattle.lists.proofs.Filled.{drop_take}
use Rattle.rows.specs.Rows.{row_at}
use Rattle.rows.proofs.copy_row.Goals as goal

pub returns-clause-row : goal.returns-clause-row
returns-clause-row c =
    let a = c.args in
    let w = a.work.now in
    let from = 50 * a.k in
    let source = drop (50 * a.earlier) w in
    let n : 50 * a.earlier + 50 - 50 * a.earlier ≡ 50 = omega arith in
    ap (λ (l : List ℤ). row_at l a.k) c.copy_within.ensures.after
    ∙ sym (drop_take from 50 _)
    ∙ rw n (ap (λ (l : List ℤ). drop from l) (take-paste w from source 50 (omega arith) (simp length-drop (omega arith)))
    ∙ drop_at (take from w) (take 50 source) from (length-take-le from w (omega arith)))
