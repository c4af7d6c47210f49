use Prim.Native.Nat.{◌*◌, ◌+◌, ◌-◌}
use lib.ListN.{length}
use lib.Seq.{sets}
use mathlib.Core.Path.{◌∙◌, ◌≡◌, ap}
use native.Mathlib.Omega.{arith}
use Rattle.strings.proofs.Table.{part_stored}
use Rattle.strings.proofs.store.Goals as goal

pub returns : goal.returns
returns c =
    let s = c.args in
    let at = 64 * s.x in
    let e : length c.copy_from_slice.new.self ≡ at + length s.w.now - at = omega (arith, ap length c.copy_from_slice.ensures.after) in
    part_stored s.characters.now c.copy_from_slice.new.self at (at + length s.w.now - at) e (omega arith)
    ∙ ap (sets s.characters.now at) c.copy_from_slice.ensures.after
