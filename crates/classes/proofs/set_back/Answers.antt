use borrow.Author.Tests.{le-leb, lt-leb}
use mathlib.Core.Bool.{cond}
use mathlib.Core.Path.{sym, ap}
use Rattle.classes.proofs.set_back.Goals as goal

pub returns-then-known-mark : goal.returns-then-known-mark
returns-then-known-mark c =
    let a = c.args in
    ap (λ t. cond t a.known a.first) (sym (le-leb a.known.upto a.mark c.if-known-mark.true))

pub returns-else-known-mark : goal.returns-else-known-mark
returns-else-known-mark c =
    let a = c.args in
    ap (λ t. cond t a.known a.first) (sym (lt-leb a.known.upto a.mark c.if-known-mark.false))
