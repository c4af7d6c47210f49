use Prim.Native.Nat.{◌+◌, ◌/◌, ℕ}
use mathlib.Core.Path.{◌∙◌, ap₂}
use Rattle.calculus.specs.Strings.{eq_string}
use Rattle.format.specs.Fields.{u32s}
use Rattle.judging.proofs.same_strings.Goals as goal

pub returns : goal.returns
returns c =
    let s = c.args in
    c.same_text.ensures
    ∙ ap₂ (λ (m k : ℕ). eq_string (u32s s.v.now (s.x + 6) (m / 4)) (u32s s.v.now (s.y + 6) (k / 4))) c.u32_at-m.ensures.0
    c.u32_at-k.ensures.0
