use lib.IntN.{ℤ}
use lib.ListN.{take}
use lib.Seq.{take_all}
use mathlib.Core.List.{List, [], ◌++◌, ◌∷◌}
use mathlib.Core.Path.{◌∙◌, ap, sym}
use native.Mathlib.Omega.{arith}
use Rattle.calculus.specs.Cores.{set_at}
use Rattle.cores.proofs.Growing.{stands_more}
use Rattle.cores.specs.Words.{unions_of}
use Rattle.rows.specs.Rows.{fact_of}
use Rattle.cores.proofs.bring_up.Goals as goal

pub loop-k-init : goal.loop-k-init
loop-k-init c = λ r h e. e

pub loop-k-preserved : goal.loop-k-preserved
loop-k-preserved c =
    let l = c.loop-k in
    λ r h e.
    c.with_fact-out.ensures (take l.k r) (set_at r l.k) (l.invariant r h e) (h.carried.words l.k (omega arith))
    ∙ ap (λ (f : List ℤ). unions_of (take l.k r ++ ((fact_of f, set_at r l.k) ∷ []))) c.row_at.ensures
    ∙ ap unions_of (sym (stands_more l.k h (omega arith)))

pub returns : goal.returns
returns c =
    let l = c.loop-k in
    λ r h e. l.invariant r h e ∙ ap unions_of (take_all l.k r (omega (arith, h.carried.all)))
