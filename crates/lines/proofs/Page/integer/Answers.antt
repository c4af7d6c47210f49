use lib.IntN.{nat_abs}
use mathlib.Core.Path.{subst}
use mir.Syntax.{w64}
use mir.Val.{of_z, to_z}
use native.Mathlib.Omega.{arith}
use Rattle.lines.specs.declared.Page.{Page}
use Rattle.lines.specs.Pages.{Puts}
use Rattle.lines.specs.Lines.{decimal}
use Rattle.lines.proofs.Lines.{integer_positive, integer_negative}
use Rattle.lines.proofs.Puts.{then, puts_same}
use Rattle.lines.proofs.Page.integer.Goals as goal
use Rattle.lines.proofs.Page.integer.Goals.{then-z-lt0, else-z-lt0}

pub returns : goal.returns
returns c =
    let after = subst (λ n. Puts c.if-z-lt0.self (decimal n) 20 c.decimal.new.self) c.unsigned_abs.ensures.value c.decimal.ensures in
    elim c.if-z-lt0.branch [
      | then-z-lt0 w ↦ puts_same (integer_negative c.args.z c.ranges.z w.if-z-lt0.true) (omega arith)
          (then w.byte.ensures (subst (λ (p : Page). Puts p (decimal (nat_abs (to_z w64 (of_z w64 c.args.z)))) 20 c.decimal.new.self) w.self-is after))
      | else-z-lt0 w ↦ puts_same (integer_positive c.args.z c.ranges.z w.if-z-lt0.false) (omega arith)
          (subst (λ (p : Page). Puts p (decimal (nat_abs (to_z w64 (of_z w64 c.args.z)))) 20 c.decimal.new.self) w.self-is after)
    ]
