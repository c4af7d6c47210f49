use Prim.Native.Nat.{suc, ℕ}
use lib.ListN.{length-set}
use mathlib.Core.Path.{◌∙◌, ◌≡◌, ap, refl, sym}
use native.Mathlib.Numerals.{add-one}
use native.Mathlib.Omega.{arith}
use Rattle.records.proofs.Placing.{placed_more}
use Rattle.format.proofs.Places.{skip_room, skip_snoc}
use Rattle.format.specs.Places.{skip}
use Rattle.format.specs.Records.{next}
use Rattle.records.proofs.record_places.Goals as goal

pub loop-x-init : goal.loop-x-init
unfolding skip
loop-x-init c = (omega arith, refl, refl, λ k h. absurd (omega arith))

pub overflow_add-at : goal.overflow_add-at
overflow_add-at c =
    omega (
      arith,
      skip_room c.args.b.now c.loop-x.x c.args.count c.args.from
          (omega arith),
    )

pub u32_at-requires : goal.u32_at-requires
u32_at-requires c =
    omega (
      arith,
      skip_room c.args.b.now c.loop-x.x c.args.count c.args.from
          (omega arith),
    )

pub overflow_add-at-in-loop-x : goal.overflow_add-at-in-loop-x
overflow_add-at-in-loop-x c =
    omega (
      arith,
      skip_room c.args.b.now c.loop-x.x c.args.count
          c.args.from (omega arith),
    )

pub loop-x-preserved : goal.loop-x-preserved
loop-x-preserved c =
    let l = c.loop-x in
    let s = c.args in
    let here : next s.b.now l.at ≡ skip s.b.now (suc l.x) s.from =
    ap (next s.b.now) l.invariant.1 ∙ sym (skip_snoc s.b.now l.x s.from) in (
      omega arith,
      rw (c.u32_at.ensures.0, add-one l.x) (omega (arith, here)),
      simp length-set l.invariant.2,
      λ k h. placed_more l.places l.at (λ (j : ℕ). skip s.b.now j s.from) l.x l.invariant.2 (omega arith) l.invariant.1 l.invariant.3 k
          (omega arith),
    )

pub returns : goal.returns
returns c =
    let l = c.loop-x in
    let s = c.args in
    let e : l.x ≡ s.count = omega arith in
    λ k h. placed_more l.places l.at (λ (j : ℕ). skip s.b.now j s.from) s.count l.invariant.2 (omega arith) (l.invariant.1 ∙ ap (λ j. skip s.b.now j s.from) e)
    (λ j g. l.invariant.3 j (omega arith)) k (omega arith)
