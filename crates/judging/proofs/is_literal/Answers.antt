use Prim.Native.Nat.{◌+◌, ◌/◌, ℕ}
use mathlib.Core.List.{List}
use mathlib.Core.Path.{◌∙◌, ap₂}
use Rattle.calculus.specs.Strings.{eq_string}
use Rattle.format.specs.Fields.{u32s}
use Rattle.judging.proofs.is_literal.Goals as goal

pub returns : goal.returns
returns c =
    let s = c.args in
    λ k h. c.same_text.ensures
    ∙ ap₂ (λ (m : ℕ) (t : List ℕ). eq_string (u32s s.v.now (s.x + 6) (m / 4)) t) c.u32_at-m.ensures.0
    (c.literal_text-text.ensures.1 k h)
