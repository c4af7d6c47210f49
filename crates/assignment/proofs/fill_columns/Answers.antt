use Prim.Native.Nat.{◌<◌}
use lib.IntN.{pos, ℤ}
use lib.ListN.{length, length-set, take}
use lib.Seq.{take-suc, take-suc-set}
use mathlib.Core.List.{[], ◌++◌, ◌∷◌}
use mathlib.Core.Path.{◌∙◌, ap}
use mir.Facts.{to_z-of_z}
use mir.Syntax.{w64}
use native.Mathlib.Numerals.{add-one}
use native.Mathlib.Omega.{arith}
use Rattle.lists.proofs.Filled.{filled_all}
use Rattle.assignment.proofs.Columns.{length_columns}
use Rattle.assignment.specs.Form.{columns_at}
use Rattle.assignment.proofs.fill_columns.Goals as goal

pub loop-j-preserved : goal.loop-j-preserved
loop-j-preserved c =
    let l = c.loop-j in
    let s = c.args in
    let cs = columns_at s.v.now s.p s.q in
    let h : l.j < length l.values = omega arith in
    let g : l.j < length cs = omega (arith, length_columns s.v.now s.p s.q) in (
      simp length-set l.invariant.0,
      rw (add-one, take-suc-set l.values l.j _ h, l.invariant.1, take-suc cs l.j (pos 0) g)
          (ap (λ (z : ℤ). take l.j cs ++ (z ∷ [])) (to_z-of_z {w = w64} (record { sfits = c.column_value.type_inv }) ∙ c.column_value.ensures)),
    )

pub returns : goal.returns
returns c =
    let l = c.loop-j in
    filled_all _ _ l.j (omega (arith, c.requires.values_len, l.invariant.0)) (omega (arith, length_columns c.args.v.now c.args.p c.args.q)) l.invariant.1
