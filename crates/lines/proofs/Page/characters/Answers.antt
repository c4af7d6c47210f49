use Prim.Native.Nat.{ℕ}
use mathlib.Core.List.{◌∷◌, ◌++◌}
use mathlib.Core.Path.{◌≡◌, ◌∙◌, ap}
use native.Mathlib.Omega.{arith}
use Rattle.format.specs.Fields.{u32s}
use Rattle.lines.proofs.Lines.{spaced_next}
use Rattle.lines.proofs.Puts.{then, puts_same, puts_none}
use Rattle.lines.specs.Lines.{decimal, spaced}
use Rattle.lines.proofs.Page.characters.Goals as goal

pub loop-i-init : goal.loop-i-init
unfolding spaced u32s
loop-i-init c = puts_none _

pub loop-i-preserved : goal.loop-i-preserved
loop-i-preserved c =
    let s = c.args in
    let i = c.loop-i.i in
    let next =
    ap (λ (n : ℕ). spaced (u32s s.answer.now s.from i) ++ (32 ∷ decimal n)) c.u32_at.ensures.0
    ∙ spaced_next s.answer.now s.from i in
    puts_same next (omega arith) (then c.loop-i.invariant c.spaced.ensures)

pub returns : goal.returns
returns c =
    let s = c.args in
    let e : c.loop-i.i ≡ s.count = omega arith in
    puts_same (ap (λ (k : ℕ). spaced (u32s s.answer.now s.from k)) e) (omega arith) c.loop-i.invariant
