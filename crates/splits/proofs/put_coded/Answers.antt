use Prim.Native.Nat.{◌+◌, ◌<◌}
use lib.IntN.{negsuc, pos, ℤ}
use mathlib.Core.List.{[], ◌++◌, ◌∷◌}
use mathlib.Core.Path.{◌∙◌, ap}
use native.Mathlib.Omega.{arith}
use mir.Syntax.{w64}
use mir.ValLaws.{to_z_pos}
use Rattle.integers.proofs.Machine.{minus_fits, minus_is}
use Rattle.calculus.specs.Facts.{arithmetic, ge}
use Rattle.rows.specs.Rows.{branch_of}
use Rattle.rows.specs.Work.{single}
use Rattle.splits.proofs.Forms.{put_two, put_three}
use Rattle.splits.proofs.put_coded.Goals as goal

pub overflow_sub-low : goal.overflow_sub-low
overflow_sub-low c =
    let low = c.args.low in
    let h : low < 196608 = c.requires.low_lt_alphabet_limit.0 in minus_fits (pos low) _ (to_z_pos w64 low (omega arith)) (omega arith)

pub returns : goal.returns
returns c =
    let put-single = c.put_single in
    let a = c.args in
    let l : a.low < 196608 = c.requires.low_lt_alphabet_limit.0 in
    let g : a.high < 196608 = c.requires.low_lt_alphabet_limit.1 in
    put_three _ _ _ a.count _ _ _
    (put_two _ _ _ a.count _ _ put-single.ensures
    (c.put_single-2.ensures
    ∙ ap (λ (z : ℤ). branch_of put-single.new.work (a.count + 1) ++ (arithmetic ge (single z a.code (pos 1)) ∷ []))
    (minus_is (pos a.low) _ (to_z_pos w64 a.low (omega arith)) (omega arith))))
    (c.put_single-3.ensures
    ∙ ap
    (λ (z : ℤ). branch_of c.put_single-2.new.work (a.count + 2) ++ (arithmetic ge (single z a.code (negsuc 0)) ∷ []))
    (to_z_pos w64 a.high (omega arith)))
