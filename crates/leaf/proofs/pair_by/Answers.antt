use lib.IntN.{negsuc}
use mathlib.Core.Bool.{not}
use mathlib.Core.Path.{◌∙◌, ap, sym}
use native.Mathlib.Omega.{arith}
use borrow.Author.Tests.{eq-eqb, ne_eqb}
use Rattle.leaf.proofs.Laws.{pair_other_class, pair_codes, pair_lengths, pair_no_code}
use Rattle.leaf.proofs.Signed.{bits_equal, equal_false, equal_true}
use Rattle.leaf.proofs.pair_by.Goals as goal

pub returns-then-z-w : goal.returns-then-z-w
returns-then-z-w c =
    let s = c.args in
    bits_equal s.c s.d c.ranges.c c.ranges.d
    ∙ sym (pair_codes s.z s.w s.c s.d s.same c.if-same.true (equal_true s.z s.w c.ranges.z c.ranges.w c.if-z-w.true))

pub returns-else-z-w : goal.returns-else-z-w
returns-else-z-w c =
    let s = c.args in
    ne_eqb _ _ c.if-z-w.false ∙ sym (pair_lengths s.z s.w s.c s.d s.same c.if-same.true (equal_false s.z s.w c.ranges.z c.ranges.w c.if-z-w.false))

pub returns-then-c-eqminus1 : goal.returns-then-c-eqminus1
returns-then-c-eqminus1 c =
    let s = c.args in
    eq-eqb _ _ c.if-c-eqminus1.true
    ∙ sym (pair_no_code s.z s.w s.c s.d s.same c.if-same.false
    (equal_true s.c (negsuc 0) c.ranges.c (record { sfits = omega arith }) c.if-c-eqminus1.true))

pub returns-else-c-eqminus1 : goal.returns-else-c-eqminus1
returns-else-c-eqminus1 c =
    let s = c.args in
    ap not (bits_equal s.c s.d c.ranges.c c.ranges.d)
    ∙ sym (pair_other_class s.z s.w s.c s.d s.same c.if-same.false
    (equal_false s.c (negsuc 0) c.ranges.c (record { sfits = omega arith }) c.if-c-eqminus1.false))
