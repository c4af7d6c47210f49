use Rattle.std.proofs.Common.{rules}
use Prim.Native.Nat.{◌*◌, ◌+◌, ◌<◌, ◌≤◌, ℕ}
use lib.IntN.{+ℤ_assoc, +ℤ_idr, nat_abs, pos, ℤ}
use lib.ListN.{drop, get_or, length, length-drop}
use lib.Seq.{get_or-drop}
use mathlib.Core.Path.{◌∙◌, ◌≡◌, ap, sym}
use mir.Facts.{to_z-of_z}
use mir.Syntax.{w64}
use mir.Val.{SFits, to_z}
use native.Mathlib.Omega.{arith}
use Rattle.std.proofs.lemmas.List.{length_push}
use Rattle.std.proofs.lemmas.Slice.Zip.{zip_turn, zip_end}
use Rattle.rows.proofs.Chains.{part_from}
use Rattle.rows.proofs.Small.{behind_tag, small_fits}
use Rattle.rows.proofs.Values.{dot_done, dot_more, product_fits, step_fits, step_is, step_small, value_row}
use Rattle.rows.proofs.row_value.Goals as goal
use Rattle.rows.proofs.row_value.Goals.{In-Some}

-- at the step: the sum so far, the coefficient and the model's value
module _ (c : In-Some) where
  abbrev i : ℕ
  i = length c.loop-c.yielded

  abbrev s : ℤ
  s = to_z w64 c.loop-c.sum-bits

  first : c.into_iter-c-iterator.result.a.rest.now ≡ drop 2 c.args.row.now
  first = let e : c.into_iter-c-iterator.result.a.rest.now ≡ c.iter.result.rest.now = search rules in e ∙ c.iter.ensures.rest ∙ part_from c.args.row.now 2 48 (omega arith)

  second : c.into_iter-c-iterator.result.b.rest.now ≡ c.args.model.now
  second = search rules

  turn : (i < length (drop 2 c.args.row.now)) × (i < length c.args.model.now)
      × ((d : ℤ) → c.in-Some.c.now ≡ get_or (drop 2 c.args.row.now) i d) × ((d : ℤ) → c.in-Some.x.now ≡ get_or c.args.model.now i d)
  turn = zip_turn (drop 2 c.args.row.now) c.args.model.now c.loop-c.yielded c.into_iter-c-iterator.result c.loop-c.c-iterator c.next.new.self c.next.result first second
      c.loop-c.yielded_by (c.in-Some.c, c.in-Some.x) c.in-Some.is c.next.ensures.steps

pub loop-c-init : goal.loop-c-init
loop-c-init c =
    let row = c.args.row.now in
    let h = behind_tag row 1 c.requires.row_value (omega arith) in
    let e = to_z-of_z (small_fits (get_or row 1 (pos 0)) (omega arith)) in
    (rw e h, rw e)

-- the coefficient and the value, which are small
module _ (c : In-Some) where
  m-is : c.in-Some.c.now ≡ get_or c.args.row.now (i c + 2) (pos 0)
  m-is =
      let t = turn c in
      let k : 2 + i c ≡ i c + 2 = omega arith in
      t.2 (pos 0) ∙ get_or-drop 2 c.args.row.now (i c) (pos 0) ∙ ap (λ (j : ℕ). get_or c.args.row.now j (pos 0)) k

  x-is : c.in-Some.x.now ≡ get_or c.args.model.now (i c) (pos 0)
  x-is = let t = turn c in t.3 (pos 0)

  in-model : i c < 48
  in-model = let t = turn c in omega (arith, t.1, c.requires.model_len)

  room : 1000000000 + i c * 100000000000000000 + 1000000000 * 100000000 ≤ 8000000000000000000
  room = omega (arith, in-model)

  hm : nat_abs c.in-Some.c.now ≤ 1000000000
  hm = rw m-is (behind_tag c.args.row.now (i c + 2) c.requires.row_value (omega arith))

  hx : nat_abs c.in-Some.x.now ≤ 100000000
  hx = rw x-is (c.requires.within (i c))

  fm : SFits w64 c.in-Some.c.now
  fm = let h = hm in small_fits c.in-Some.c.now (omega arith)

  fx : SFits w64 c.in-Some.x.now
  fx = let h = hx in small_fits c.in-Some.x.now (omega arith)

pub overflow_mul-sum : goal.overflow_mul-sum
overflow_mul-sum c =
    let here = (goal.at.overflow_mul-sum c).In-Some in
    product_fits (s here) c.in-Some.c.now c.in-Some.x.now _ _ _ c.loop-c.invariant.0 (hm here) (hx here) (fm here) (fx here) (room here)

pub overflow_add-sum : goal.overflow_add-sum
overflow_add-sum c =
    let here = (goal.at.overflow_add-sum c).In-Some in
    step_fits (s here) c.in-Some.c.now c.in-Some.x.now _ _ _ c.loop-c.invariant.0 (hm here) (hx here) (fm here) (fx here) (room here)

pub loop-c-preserved : goal.loop-c-preserved
loop-c-preserved c =
    let here = (goal.at.loop-c-preserved c).In-Some in
    let e = step_is (s here) c.in-Some.c.now c.in-Some.x.now _ _ _ c.loop-c.invariant.0 (hm here) (hx here) (fm here) (fx here) (room here) in
    let small = step_small (s here) c.in-Some.c.now c.in-Some.x.now _ _ _ c.loop-c.invariant.0 (hm here) (hx here) (fm here) (fx here) (room here) in
    let n = length_push c.loop-c.yielded (c.in-Some.c, c.in-Some.x) in
    let row = c.args.row.now in
    let model = c.args.model.now in
    let h = in-model here in
    let k : i here + 1 + 2 ≡ i here + 2 + 1 = omega arith in (
      rw (e, n) (omega (arith, small)),
      rw (e, n, k, m-is here, x-is here, +ℤ_assoc, ← (dot_more row model (i here + 2) (i here) (omega arith) (omega arith))) c.loop-c.invariant.1,
    )

pub returns : goal.returns
returns c =
    let row = c.args.row.now in
    let model = c.args.model.now in
    let first : c.into_iter-c-iterator.result.a.rest.now ≡ c.iter.result.rest.now = search rules in
    let second : c.into_iter-c-iterator.result.b.rest.now ≡ model = search rules in
    let i = length c.loop-c.yielded in
    let e = zip_end (drop 2 row) model c.loop-c.yielded c.into_iter-c-iterator.result c.loop-c.c-iterator c.next.new.self c.next.result
    (first ∙ c.iter.ensures.rest ∙ part_from row 2 48 (omega arith)) second c.loop-c.yielded_by c.in-None.is c.next.ensures.steps in
    let n : 48 ≤ i = omega (arith, e, length-drop 2 row, c.requires.model_len) in
    (rw (dot_done row model (i + 2) i (omega arith), +ℤ_idr) at c.loop-c.invariant.1) ∙ sym (value_row model row (search rules))
