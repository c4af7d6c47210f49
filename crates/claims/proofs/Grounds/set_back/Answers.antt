use borrow.Author.Tests.{le-leb, lt-leb}
use mathlib.Core.Bool.{cond}
use mathlib.Core.Path.{sym, ap}
use Rattle.claims.proofs.Grounds.set_back.Goals as goal

pub returns-then-upto-mark : goal.returns-then-upto-mark
returns-then-upto-mark c =
    let a = c.args in
    let g = a.self in
    ap (λ t. cond t g (record { unions = g.roots; roots = g.roots; core = g.core })) (sym (le-leb a.upto a.mark c.if-upto-mark.true))

pub returns-else-upto-mark : goal.returns-else-upto-mark
returns-else-upto-mark c =
    let a = c.args in
    let g = a.self in
    ap (λ t. cond t g (record { unions = g.roots; roots = g.roots; core = g.core })) (sym (lt-leb a.upto a.mark c.if-upto-mark.false))
