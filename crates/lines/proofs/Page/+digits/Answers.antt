use Prim.Native.Nat.{ℕ, ◌+◌, ◌%◌}
use mathlib.Core.List.{[], ◌∷◌}
use mathlib.Core.Path.{◌≡◌, ◌∙◌, ap, sym, subst}
use native.Mathlib.Omega.{arith}
use Rattle.lines.proofs.Lines.{digits_more, digits_none, digits_one}
use Rattle.lines.proofs.Puts.{puts_none, puts_same, then}
use Rattle.lines.specs.declared.Page.{Page}
use Rattle.lines.specs.Pages.{Puts}
use Rattle.lines.proofs.Page.+digits.Goals as goal
use Rattle.lines.proofs.Page.+digits.Goals.{then-n-ge10, else-n-ge10}

pub returns-then-places-eq0 : goal.returns-then-places-eq0
returns-then-places-eq0 t c = puts_same (sym (digits_none _ _ c.if-places-eq0.true)) (omega arith) (puts_none _)

pub returns : goal.returns
returns t c =
    let s = c.args in
    let last = 48 + s.n % 10 in
    elim c.if-n-ge10.branch [
      | then-n-ge10 w ↦ puts_same (sym (digits_more _ _ (omega arith) w.if-n-ge10.true)) (omega arith)
          (then w.digits.ensures (subst (λ (p : Page). Puts p (last ∷ []) 1 c.byte.new.self) w.self-is c.byte.ensures))
      | else-n-ge10 w ↦
          let one : last ≡ 48 + s.n = omega arith in
          puts_same (ap (λ (d : ℕ). d ∷ []) one ∙ sym (digits_one _ _ (omega arith) w.if-n-ge10.false)) (omega arith)
          (subst (λ (p : Page). Puts p (last ∷ []) 1 c.byte.new.self) w.self-is c.byte.ensures)
    ]
