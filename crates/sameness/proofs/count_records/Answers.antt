use Prim.Native.Nat.{◌+◌, ◌-◌}
use mathlib.Core.Bool.{cond, false, true}
use mathlib.Core.Logic.{inl, inr}
use mathlib.Core.List.{map}
use mathlib.Core.Path.{◌∙◌, ◌≡◌, ap}
use native.Mathlib.Omega.{arith}
use Rattle.calculus.specs.Extended.{extended}
use Rattle.calculus.specs.NormalForms.{occurrences}
use Rattle.format.specs.Places.{extendeds_at}
use Rattle.format.specs.Question.{extended_of}
use Rattle.question.specs.Posed.{extended_asked}
use Rattle.sameness.proofs.Facts.{one_more}
use Rattle.sameness.proofs.Records.{BodyAt, counting_done, counting_first, counting_more, first_body, posed_bodies}
use Rattle.sameness.proofs.count_records.Goals as goal
use Rattle.sameness.proofs.count_records.Goals.{In-loop, Joined-records_alike, else-records_alike, then-records_alike}

pub extended_from-at-requires : goal.extended_from-at-requires
extended_from-at-requires c = c.requires.2

pub loop-init : goal.loop-init
loop-init c =
    let e : c.args.t.extended - 0 ≡ c.args.t.extended = omega arith in
    rw e (counting_first c.args.b.now c.args.x c.args.c.now _ _
    (rw c.extended_from-at.ensures (posed_bodies c.args.c.now c.args.t c.requires.2)))

-- the record in turn
body : (c : In-loop) →
    let args = c.args in
    BodyAt args.c.now c.loop.at
body c = first_body _ _ _ (omega arith) c.loop.invariant.bodies

-- one more where it is alike
found-is : (c : Joined-records_alike) → c.if-records_alike.found ≡ c.loop.found + cond c.records_alike.result 1 0
found-is c =
    elim c.if-records_alike.branch [
      | then-records_alike w ↦ one_more (λ (t : c.records_alike.result ≡ true). t) (λ (e : c.records_alike.result ≡ false). e) (inl (w.if-records_alike.true, w.found-is))
      | else-records_alike w ↦ one_more (λ (t : c.records_alike.result ≡ true). t) (λ (e : c.records_alike.result ≡ false). e) (inr (w.if-records_alike.false, w.found-is))
    ]

pub overflow_add-y : goal.overflow_add-y
overflow_add-y c = omega (arith, (body c).there)

pub records_alike-requires : goal.records_alike-requires
records_alike-requires c = (c.requires.0, c.requires.1, (body c).there, (body c).function)

pub overflow_add-found : goal.overflow_add-found
overflow_add-found c = omega (arith, c.loop.invariant.few)

pub u32_at-requires : goal.u32_at-requires
u32_at-requires c = omega (arith, (body (goal.at.u32_at-requires c).In-loop).there)

pub overflow_add-at : goal.overflow_add-at
overflow_add-at c = omega (arith, (body (goal.at.overflow_add-at c).In-loop).whole, c.u32_at.ensures.0)

pub loop-preserved : goal.loop-preserved
loop-preserved c =
    let loop = c.loop in
    let e : c.args.t.extended - loop.counter - 1 ≡ c.args.t.extended - (loop.counter + 1) = omega arith in
    rw (c.u32_at.ensures.0, ← e) (counting_more c.args.b.now c.args.x c.args.c.now _ _
    (omega arith) loop.invariant c.records_alike.ensures (found-is (goal.at.loop-preserved c).Joined-records_alike))

pub returns : goal.returns
unfolding extended_asked
returns c =
    let b = c.args.b.now in
    let d = c.args.c.now in
    λ u v.
    counting_done b c.args.x d _ _ (omega arith) c.loop.invariant u v
    ∙ ap (λ i. occurrences u v (extended (extended_of b c.args.x)) (map extended (extendeds_at d c.args.t.extended i)))
    c.extended_from-at.ensures
