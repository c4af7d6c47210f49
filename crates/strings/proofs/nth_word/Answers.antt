use lib.ListN.{length-set, replicate}
use mathlib.Core.Path.{refl}
use native.Mathlib.Nat.{div-le_self, mod-lt}
use native.Mathlib.Omega.{arith}
use Rattle.strings.proofs.Words.{digit, digits_done, digits_over, digits_start, no_digits, zeros, zeros_left}
use Rattle.strings.proofs.nth_word.Goals as goal

pub returns-then-m-eq0 : goal.returns-then-m-eq0
returns-then-m-eq0 c = no_digits c.args.n c.args.m c.args.k _ c.if-m-eq0.true

pub loop-i-init : goal.loop-i-init
loop-i-init c =
    let s = c.args in
    (omega arith, omega arith, omega arith, refl, zeros s.m 64 (omega arith), digits_start s.n s.m s.k (replicate 64 0) (omega arith))

pub returns-then-rest-eq0 : goal.returns-then-rest-eq0
returns-then-rest-eq0 c =
    let l = c.loop-i in
    let s = c.args in
    digits_over s.n s.m s.k l.i l.rest l.row c.if-rest-eq0.true (omega arith) l.invariant.4 l.invariant.5

pub overflow_cast-row : goal.overflow_cast-row
overflow_cast-row c =
    let s = c.args in
    omega (arith, mod-lt c.loop-i.rest {m = s.n} (omega arith))

pub loop-i-preserved : goal.loop-i-preserved
loop-i-preserved c =
    let l = c.loop-i in
    let s = c.args in (
      omega arith,
      omega arith,
      omega (arith, div-le_self l.rest s.n),
      simp length-set l.invariant.3,
      zeros_left l.row l.i _ l.invariant.4,
      digit s.n s.m s.k l.i l.rest l.row (omega arith) (omega arith) (omega arith) (omega arith) l.invariant.5,
    )

pub returns : goal.returns
returns c =
    let l = c.loop-i in
    let s = c.args in
    digits_done s.n s.m s.k l.i l.rest l.row (omega arith) (omega arith) (omega arith) (omega arith) l.invariant.5
