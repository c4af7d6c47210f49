use Prim.Native.Nat.{◌-◌}
use borrow.Author.Rules.{rules}
use lib.IntN.{nat_abs, pos, ℤ}
use lib.ListN.{drop, get_or, length, take}
use mathlib.Core.List.{List, ◌∷◌, map}
use mathlib.Core.Path.{◌∙◌, ap}
use mir.Facts.{to_z-of_z}
use mir.Syntax.{w64}
use mir.Val.{SFits, of_z, to_z}
use native.Mathlib.Omega.{arith}
use Rattle.calculus.specs.LinearForms.{floor_div_all}
use Rattle.lists.proofs.Filled.{changing_done, changing_more}
use Rattle.normal.proofs.Laws.{form_put_back}
use Rattle.rows.proofs.Chains.{part_from}
use Rattle.normal.proofs.divide_form.Goals as goal
use Rattle.normal.proofs.divide_form.Invariants.{by}

pub loop-x-preserved : goal.loop-x-preserved
loop-x-preserved c =
    let row = c.args.row.now in
    let l = c.loop-x in
    let d = to_z w64 (of_z w64 c.args.d) in
    let fx : SFits w64 (get_or l.x-items l.x-index (pos 0)) = record { sfits = search rules } in
    let fq : SFits w64 c.floor_div.result = record { sfits = c.floor_div.type_inv } in
    changing_more 0 (by d) (take (length row - 1) (drop 1 row)) l.x-items l.x-index l.invariant _ (pos 0) (omega arith)
    (to_z-of_z fq ∙ c.floor_div.ensures ∙ ap (by d) (to_z-of_z fx))

pub returns : goal.returns
returns c =
    let row = c.args.row.now in
    let l = c.loop-x in
    let f = by (to_z w64 (of_z w64 c.args.d)) in
    form_put_back row l.x-items c.requires.1
    ∙ ap (λ (m : List ℤ). get_or row 0 (pos 0) ∷ m)
    (changing_done 0 f (take (length row - 1) (drop 1 row)) l.x-items l.x-index l.invariant (omega arith)
    ∙ ap (map f) (part_from row 1 (length row - 1) (omega arith))
    ∙ ap (λ (d : ℤ). floor_div_all (drop 1 row) (nat_abs d)) (to_z-of_z c.ranges.d))
