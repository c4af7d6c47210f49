use Prim.Native.Nat.{◌+◌, ◌-◌}
use native.Mathlib.Omega.{arith}
use lib.ListN.{length}
use mathlib.Core.Path.{◌≡◌}
use Rattle.lines.proofs.Puts.{puts_copied}
use Rattle.lines.proofs.Page.text.Goals as goal

pub returns : goal.returns
returns c =
    let s = c.args in
    let n : s.self.now.at + length s.text.now - s.self.now.at ≡ length s.text.now = omega arith in
    puts_copied s.self.now s.text.now _ _ c.requires n c.copy_from_slice.ensures.after
