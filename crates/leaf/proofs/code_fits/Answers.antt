use lib.Dec.{leb}
use lib.IntN.{nat_abs, negsuc, pos, ℤ}
use mathlib.Core.Bool.{not}
use mathlib.Core.Path.{◌∙◌, ap, sym}
use mir.Syntax.{w64}
use mir.Val.{of_z, to_z}
use Prim.Native.Nat.{◌-◌}
use native.Mathlib.Omega.{arith}
use Rattle.leaf.proofs.Laws.{code_character, code_longer, code_negative}
use Rattle.integers.proofs.Machine.{negative, not_negative}
use Rattle.leaf.proofs.Signed.{below_zero, bits_equal, equal_false, equal_true}
use Rattle.leaf.specs.Values.{code_fits}
use Rattle.leaf.proofs.code_fits.Goals as goal

pub returns-then-code-ge0 : goal.returns-then-code-ge0
returns-then-code-ge0 c =
    let single = equal_true c.args.len (pos 1) c.ranges.len (record { sfits = omega arith }) c.if-len-eq1.true in
    let w = not_negative c.args.code c.ranges.code (below_zero (to_z w64 (of_z w64 c.args.code)) ∙ ap not c.if-code-ge0.true) in
    ap (λ (z : ℤ). leb (nat_abs z) (c.args.n - 1)) w.2
    ∙ sym (ap (code_fits c.args.n c.args.len) w.3 ∙ code_character c.args.n c.args.len w.0 single)

pub returns-else-code-ge0 : goal.returns-else-code-ge0
returns-else-code-ge0 c =
    let single = equal_true c.args.len (pos 1) c.ranges.len (record { sfits = omega arith }) c.if-len-eq1.true in
    let w = negative c.args.code c.ranges.code (below_zero (to_z w64 (of_z w64 c.args.code)) ∙ ap not c.if-code-ge0.false) in
    c.if-code-ge0.false ∙ sym (ap (code_fits c.args.n c.args.len) w.3 ∙ code_negative c.args.n c.args.len w.0 single)

pub returns-else-len-eq1 : goal.returns-else-len-eq1
returns-else-len-eq1 c =
    bits_equal c.args.code (negsuc 0) c.ranges.code (record { sfits = omega arith })
    ∙ sym (code_longer c.args.n c.args.len c.args.code
    (equal_false c.args.len (pos 1) c.ranges.len (record { sfits = omega arith }) c.if-len-eq1.false))
