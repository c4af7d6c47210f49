use Prim.Native.Nat.{◌+◌, ◌<◌, ◌≤◌}
use native.Mathlib.Omega.{arith}
use borrow.Author.Tests.{le-leb, lt-leb}
use lib.ListN.{length}
use Rattle.format.specs.Fields.{u32}
use Rattle.records.specs.Found.{found_at}
use Rattle.records.proofs.record_at.Goals as goal
use Rattle.records.proofs.record_at.Goals.{then-b-lt-RECORD_HEAD-via-then-b-lt-RECORD_HEAD, then-b-lt-RECORD_HEAD-via-else-b-lt-RECORD_HEAD+then-b-at}

pub returns-then-b-lt-RECORD_HEAD : goal.returns-then-b-lt-RECORD_HEAD
unfolding found_at
returns-then-b-lt-RECORD_HEAD c =
    let short : length c.args.b.now < c.args.at + 6 =
    elim c.then-b-lt-RECORD_HEAD.branch
    [ then-b-lt-RECORD_HEAD-via-then-b-lt-RECORD_HEAD w ↦ omega arith | then-b-lt-RECORD_HEAD-via-else-b-lt-RECORD_HEAD+then-b-at w ↦ omega arith ] in
    simp (lt-leb _ _ short)

pub returns-then-b-at-2 : goal.returns-then-b-at-2
unfolding found_at
returns-then-b-at-2 c =
    let args = c.args in
    let b = args.b.now in
    let at = args.at in
    let h : at + 6 ≤ length b = omega arith in
    let g : length b < at + 6 + u32 b at = omega (arith, c.u32_at-size.ensures.0) in
    simp (le-leb _ _ h, lt-leb _ _ g, c.u16_at-kind.ensures.0)

pub returns-else-b-at-2 : goal.returns-else-b-at-2
unfolding found_at
returns-else-b-at-2 c =
    let args = c.args in
    let b = args.b.now in
    let at = args.at in
    let h : at + 6 ≤ length b = omega arith in
    let g : at + 6 + u32 b at ≤ length b = omega (arith, c.u32_at-size.ensures.0) in
    simp (le-leb _ _ h, le-leb _ _ g, c.u16_at-kind.ensures.0, c.u32_at-size.ensures.0)
