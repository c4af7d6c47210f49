use Prim.Native.Nat.{◌+◌, ◌-◌, ◌≤◌}
use lib.IntN.{nat_abs, pos, ℤ}
use lib.ListN.{drop, get_or, length, take}
use lib.Seq.{get_or-drop}
use mathlib.Core.List.{List, ◌∷◌, map}
use mathlib.Core.Path.{◌∙◌, ◌≡◌, ap}
use native.Mathlib.Omega.{arith}
use Rattle.calculus.specs.Limits.{number_limit}
use Rattle.lists.proofs.Filled.{changing_done, changing_more, kept_at}
use Rattle.normal.proofs.Laws.{form_put_back}
use Rattle.rows.proofs.Chains.{part_from}
use Rattle.rows.proofs.Small.{behind_tag, neg_fits, neg_is}
use Rattle.normal.proofs.negate_form.Goals as goal
use Rattle.normal.proofs.negate_form.Goals.{In-loop-x}
use Rattle.normal.proofs.negate_form.Invariants.{minus}

-- the form as it was lent, and the number read
module _ (c : In-loop-x) where
  abbrev form : List ℤ
  form = take (length c.args.row.now - 1) (drop 1 c.args.row.now)

  abbrev z : ℤ
  z = get_or c.loop-x.x-items c.loop-x.x-index (pos 0)

  was : z ≡ get_or c.args.row.now (1 + c.loop-x.x-index) (pos 0)
  was =
      let i = c.loop-x.x-index in
      let row = c.args.row.now in
      kept_at c.loop-x.x-items form i (pos 0) c.loop-x.invariant.4
      ∙ ap (λ (l : List ℤ). get_or l i (pos 0)) (part_from row 1 (length row - 1) (omega arith))
      ∙ get_or-drop 1 row i (pos 0)

  small : nat_abs z ≤ number_limit
  small = rw was (behind_tag c.args.row.now (1 + c.loop-x.x-index) c.requires.1 (omega arith))

pub overflow_sub-x : goal.overflow_sub-x
overflow_sub-x c = let here = (goal.at.overflow_sub-x c).In-loop-x in neg_fits (z here) number_limit (small here) (omega arith)

pub loop-x-preserved : goal.loop-x-preserved
loop-x-preserved c =
    let here = (goal.at.loop-x-preserved c).In-loop-x in
    changing_more 0 minus (form here) c.loop-x.x-items c.loop-x.x-index c.loop-x.invariant _ (pos 0) (omega arith)
    (neg_is (z here) number_limit (small here) (omega arith))

pub returns : goal.returns
returns c =
    let row = c.args.row.now in
    let form = take (length row - 1) (drop 1 row) in
    form_put_back row c.loop-x.x-items c.requires.0
    ∙ ap (λ (l : List ℤ). get_or row 0 (pos 0) ∷ l)
    (changing_done 0 minus form c.loop-x.x-items c.loop-x.x-index c.loop-x.invariant (omega arith) ∙ ap (map minus) (part_from row 1 (length row - 1) (omega arith)))
