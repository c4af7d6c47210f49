use Prim.Native.Nat.{◌≤◌}
use lib.ListN.{length}
use lib.Seq.{take_all}
use mathlib.Core.Path.{◌∙◌, refl}
use native.Mathlib.Omega.{arith}
use mathlib.Core.List.{flat_map}
use Rattle.answer.proofs.Written.{characters_more}
use Rattle.format.specs.Answer.{character_bytes}
use Rattle.answer.proofs.put_characters.Goals as goal

pub loop-i-init : goal.loop-i-init
unfolding character_bytes flat_map
loop-i-init c = (refl, refl)

pub loop-i-preserved : goal.loop-i-preserved
loop-i-preserved c =
    let l = c.loop-i in
    let s = c.args in (
      c.put_u32.auto.buffer ∙ l.invariant.0,
      c.put_u32.ensures ∙ rw l.invariant.1 (characters_more s.buffer.now s.characters.now s.at l.i (omega arith)),
    )

pub returns : goal.returns
returns c =
    let s = c.args in
    let done : length s.characters.now ≤ c.loop-i.i = omega arith in
    c.loop-i.invariant.1 ∙ rw (take_all c.loop-i.i s.characters.now done)
