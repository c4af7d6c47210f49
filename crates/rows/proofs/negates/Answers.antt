use Prim.Native.Nat.{◌+◌, ◌<◌, ◌≤◌, ℕ}
use lib.IntN.{◌-ℤ◌, nat_abs, negsuc, pos, ℤ}
use lib.ListN.{drop, get_or, length, length-drop, take}
use lib.Seq.{get_or-drop}
use mathlib.Core.List.{List}
use mathlib.Core.Path.{◌∙◌, ◌≡◌, ap, sym}
use mir.Facts.{to_z-of_z}
use mir.Syntax.{w64}
use mir.Val.{SFits, of_z, to_z}
use native.Mathlib.Omega.{arith}
use Rattle.std.proofs.Common.{rules, tests}
use Rattle.std.proofs.lemmas.List.{length_push}
use Rattle.std.proofs.lemmas.Slice.Zip.{zip_turn, zip_end}
use Rattle.calculus.proofs.Entries.{entry_scale, length_scale}
use Rattle.calculus.specs.LinearForms.{eq_integers, scale}
use Rattle.rows.proofs.Chains.{part_from}
use Rattle.rows.proofs.Small.{behind_tag, neg_fits, neg_is}
use Rattle.rows.proofs.Tested.{eq_integers_done, eq_integers_fails, eq_integers_on, eqℤ_no, eqℤ_yes, same_bits, scale_behind}
use Rattle.rows.proofs.negates.Goals as goal
use Rattle.rows.proofs.negates.Goals.{After-into_iter-x-iterator, In-Some}

-- the parts of the rows that are read
module _ (c : After-into_iter-x-iterator) where
  first : c.into_iter-x-iterator.result.a.rest.now ≡ drop 1 c.args.row.now
  first = let e : c.into_iter-x-iterator.result.a.rest.now ≡ c.iter.result.rest.now = search rules in e ∙ c.iter.ensures.rest ∙ part_from c.args.row.now 1 49 (omega arith)

  second : c.into_iter-x-iterator.result.b.rest.now ≡ drop 1 c.args.other.now
  second =
      let other = c.args.other.now in
      let e : c.into_iter-x-iterator.result.b.rest.now ≡ take 49 (drop 1 other) = search rules in
      e ∙ part_from other 1 49 (omega arith)

-- at the test: the two numbers
module _ (c : In-Some) where
  abbrev j : ℕ
  j = length c.loop-x.yielded + 1

  abbrev x : ℤ
  x = get_or c.args.row.now j (pos 0)

  abbrev y : ℤ
  y = get_or c.args.other.now j (pos 0)

  turn : (length c.loop-x.yielded < 49) × (c.in-Some.x.now ≡ x) × (c.in-Some.y.now ≡ y)
  turn =
      let here = (goal.at.In-Some c).After-into_iter-x-iterator in
      let row = c.args.row.now in
      let other = c.args.other.now in
      let n = length c.loop-x.yielded in
      let t = zip_turn (drop 1 row) (drop 1 other) c.loop-x.yielded c.into_iter-x-iterator.result c.loop-x.x-iterator c.next.new.self c.next.result
      (first here) (second here) c.loop-x.yielded_by (c.in-Some.x, c.in-Some.y) c.in-Some.is c.next.ensures.steps in
      let e : 1 + n ≡ n + 1 = omega arith in (
        omega (arith, t.0, length-drop 1 row),
        t.2 (pos 0) ∙ get_or-drop 1 row n (pos 0) ∙ ap (λ (i : ℕ). get_or row i (pos 0)) e,
        t.3 (pos 0) ∙ get_or-drop 1 other n (pos 0) ∙ ap (λ (i : ℕ). get_or other i (pos 0)) e,
      )

  small : nat_abs x ≤ 1000000000
  small = behind_tag c.args.row.now j c.requires (omega arith)

  fx : SFits w64 (pos 0 -ℤ to_z w64 (of_z w64 x))
  fx = neg_fits x 1000000000 small (omega arith)

  -- the negative as the row of negatives has it
  is : pos 0 -ℤ to_z w64 (of_z w64 x) ≡ get_or (scale (negsuc 0) c.args.row.now) j (pos 0)
  is =
      sym (to_z-of_z fx)
      ∙ neg_is x 1000000000 small (omega arith)
      ∙ sym (entry_scale (negsuc 0) c.args.row.now j)

  long : length (scale (negsuc 0) c.args.row.now) ≡ 50
  long = length_scale (negsuc 0) c.args.row.now ∙ (search rules)

pub overflow_sub-x : goal.overflow_sub-x
overflow_sub-x c = let here = (goal.at.overflow_sub-x c).In-Some in rw (turn here).1 (fx here)

pub returns-then-x-y : goal.returns-then-x-y
returns-then-x-y c =
    let here = (goal.at.returns-then-x-y c).In-Some in
    let args = c.args in
    let n = long here in
    let t = turn here in
    let ne = rw (t.1, t.2) at c.if-x-y.true in
    let e = eqℤ_no _ (y here) (λ e. ne (ap (of_z w64) (is here ∙ e))) in
    sym (eq_integers_fails (scale (negsuc 0) args.row.now) args.other.now (j here) (omega (arith, t.0)) (omega (arith, t.0)) e)
    ∙ c.loop-x.invariant
    ∙ ap (λ (a : List ℤ). eq_integers a (drop 1 args.other.now)) (scale_behind (negsuc 0) args.row.now)

pub loop-x-preserved : goal.loop-x-preserved
loop-x-preserved c =
    let here = (goal.at.loop-x-preserved c).In-Some in
    let args = c.args in
    let n = long here in
    let t = turn here in
    let fy : SFits w64 (y here) = rw (← t.2) (search (rules, tests)) in
    let same = rw (t.1, t.2) at c.if-x-y.false in
    let e = eqℤ_yes _ (y here) (sym (is here) ∙ same_bits _ (y here) (fx here) fy same) in
    rw (length_push c.loop-x.yielded (c.in-Some.x, c.in-Some.y))
    (eq_integers_on (scale (negsuc 0) args.row.now) args.other.now (j here) (omega (arith, t.0)) (omega (arith, t.0)) e ∙ c.loop-x.invariant)

pub returns : goal.returns
returns c =
    let here = (goal.at.returns c).After-into_iter-x-iterator in
    let row = c.args.row.now in
    let other = c.args.other.now in
    let n = length c.loop-x.yielded in
    let e = zip_end (drop 1 row) (drop 1 other) c.loop-x.yielded c.into_iter-x-iterator.result c.loop-x.x-iterator c.next.new.self c.next.result
    (first here) (second here) c.loop-x.yielded_by c.in-None.is c.next.ensures.steps in
    let l = length_scale (negsuc 0) row in
    let a : 50 ≤ n + 1 = omega (arith, e, length-drop 1 row, length-drop 1 other) in
    sym (eq_integers_done (scale (negsuc 0) row) other (n + 1) (omega (arith, a)) (omega (arith, a)))
    ∙ c.loop-x.invariant
    ∙ ap (λ (a : List ℤ). eq_integers a (drop 1 other)) (scale_behind (negsuc 0) row)
