use Prim.Native.Nat.{◌+◌, ◌/◌, ℕ}
use mathlib.Core.Path.{◌∙◌, ap}
use Rattle.format.specs.Fields.{u32, u32s, fields}
use Rattle.extended.proofs.characters.Goals as goal

pub returns : goal.returns
unfolding u32s
returns c =
    let s = c.args in
    c.fields_at.ensures ∙ ap (λ (m : ℕ). fields 4 (u32 s.v.now) (s.at + 6) (m / 4)) c.u32_at.ensures.0
