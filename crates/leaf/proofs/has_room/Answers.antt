use lib.Dec.{leb}
use mathlib.Core.Path.{◌∙◌, ap, sym}
use borrow.Author.Tests.{le-ltb}
use Prim.Native.Nat.{ℕ}
use Rattle.leaf.proofs.Laws.{room_by, room_unary}
use Rattle.leaf.proofs.has_room.Goals as goal

pub returns-then-n-gt1 : goal.returns-then-n-gt1
returns-then-n-gt1 c =
    let s = c.args in
    ap (λ (l : ℕ). leb l s.size) c.least_power.ensures.value ∙ sym (room_by s.n s.k s.size c.if-n-gt1.true)

pub returns-else-n-gt1 : goal.returns-else-n-gt1
returns-else-n-gt1 c = le-ltb _ _ c.if-n-gt1.false ∙ sym (room_unary c.args.n c.args.k c.args.size c.if-n-gt1.false)
