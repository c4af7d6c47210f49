use native.Mathlib.Omega.{arith}
use Prim.Native.Nat.{◌+◌, ◌-◌}
use mathlib.Core.Path.{◌≡◌}
use Rattle.sameness.proofs.Records.{BodyAt, agreeing_done, agreeing_first, agreeing_more, agreeing_not, first_body}
use Rattle.sameness.specs.Ready.{extended_in}
use Rattle.sameness.proofs.records_agree.Goals as goal
use Rattle.sameness.proofs.records_agree.Goals.{In-loop}

pub extended_from-at-requires : goal.extended_from-at-requires
extended_from-at-requires c = c.requires.0

pub loop-init : goal.loop-init
loop-init c =
    let e : c.args.s.extended - 0 ≡ c.args.s.extended = omega arith in
    rw (c.extended_from-at.ensures, e) (agreeing_first c.args.b.now c.args.s (extended_in c.args.c.now c.args.t) c.requires.0)

-- the record in turn
body : (c : In-loop) →
    let args = c.args in
    BodyAt args.b.now c.loop.at
body c = first_body _ _ _ (omega arith) c.loop.invariant.bodies

pub overflow_add-x : goal.overflow_add-x
overflow_add-x c = omega (arith, (body c).there)

pub count_records-requires : goal.count_records-requires
count_records-requires c =
    let pre = c.requires in
    ((body c).there, (body c).function, pre.0)

pub count_records-requires-in-loop : goal.count_records-requires-in-loop
count_records-requires-in-loop c =
    let pre = c.requires in
    ((body (goal.at.count_records-requires-in-loop c).In-loop).there, (body (goal.at.count_records-requires-in-loop c).In-loop).function, pre.1)

pub returns-then-not-agree : goal.returns-then-not-agree
returns-then-not-agree c =
    let loop = c.loop in
    let args = c.args in
    agreeing_not args.b.now args.s _ (omega arith) loop.invariant
    c.count_records.ensures c.count_records-in-loop.ensures c.agree.ensures
    (c.if-not-agree.true)

pub u32_at-requires : goal.u32_at-requires
u32_at-requires c = omega (arith, (body (goal.at.u32_at-requires c).In-loop).there)

pub overflow_add-at : goal.overflow_add-at
overflow_add-at c =
    omega (arith, (body (goal.at.overflow_add-at c).In-loop).whole, c.u32_at.ensures.0)

pub loop-preserved : goal.loop-preserved
loop-preserved c =
    let loop = c.loop in
    let args = c.args in
    let e : args.s.extended - loop.counter - 1 ≡ args.s.extended - (loop.counter + 1) = omega arith in
    rw (c.u32_at.ensures.0, ← e) (agreeing_more args.b.now args.s _ (omega arith) loop.invariant
    c.count_records.ensures c.count_records-in-loop.ensures c.agree.ensures
    (c.if-not-agree.false))

pub returns : goal.returns
returns c =
    let args = c.args in
    agreeing_done args.b.now args.s _ (omega arith) c.loop.invariant
