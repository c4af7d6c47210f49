use Prim.Native.Nat.{◌*◌, ◌+◌}
use mathlib.Core.Path.{◌∙◌, sym}
use native.Mathlib.Nat.{add-zero}
use native.Mathlib.Omega.{arith}
use Rattle.format.specs.Answer.{answer_form}
use Rattle.format.proofs.Answers.{record_there}
use Rattle.assignment.proofs.tail_formed.Goals as goal

pub returns-then-not-record_is : goal.returns-then-not-record_is
unfolding answer_form
returns-then-not-record_is c =
    let s = c.args in
    sym (rw (sym c.if-not-record_is.ensures))

pub overflow_add-end : goal.overflow_add-end
overflow_add-end c =
    let s = c.args in
    omega (arith, (record_there s.v.now s.at 10 (4 * s.q) (sym c.if-not-record_is.ensures)).0)

pub overflow_add-end-2 : goal.overflow_add-end-2
overflow_add-end-2 c =
    let s = c.args in
    let (e, m) = record_there s.v.now s.at 10 (4 * s.q) (sym c.if-not-record_is.ensures) in
    omega arith

pub overflow_add-result : goal.overflow_add-result
overflow_add-result c =
    let s = c.args in
    omega (arith, (record_there s.v.now (s.at + 6 + 4 * s.q) 8 0 (sym c.if-record_is.ensures)).0)

pub returns-then-record_is : goal.returns-then-record_is
unfolding answer_form
returns-then-record_is c =
    let s = c.args in
    let t = sym c.if-not-record_is.ensures in
    let m = (record_there s.v.now s.at 10 (4 * s.q) t).1 in
    let e = sym c.if-record_is.ensures in
    let z = (record_there s.v.now (s.at + 6 + 4 * s.q) 8 0 e).1 in
    sym (rw (t, m, e, z, add-zero (s.at + 6 + 4 * s.q + 6)))

pub returns-else-record_is : goal.returns-else-record_is
unfolding answer_form
returns-else-record_is c =
    let s = c.args in
    let t = sym c.if-not-record_is.ensures in
    let m = (record_there s.v.now s.at 10 (4 * s.q) t).1 in
    c.if-record_is.false ∙ sym (rw (t, m, sym c.if-record_is.ensures))
