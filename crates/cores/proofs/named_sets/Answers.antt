use Prim.Native.Nat.{ℕ}
use mathlib.Core.Path.{◌∙◌, ap}
use Rattle.calculus.specs.Cores.{named_sets, set_at}
use Rattle.format.specs.Fields.{pairs_at}
use Rattle.cores.proofs.Resting.{gathers_all, gathers_done, gathers_more}
use Rattle.cores.specs.Words.{words_of}
use Rattle.cores.proofs.named_sets.Goals as goal

pub loop-fact-init : goal.loop-fact-init
unfolding pairs_at
loop-fact-init c =
    let e = c.into_iter-fact-iterator.ensures.into_iter_gives ∙ c.fields_at-fact-items.ensures in
    λ r h. gathers_all _ _ _ c.no_constraint-set.ensures (ap (named_sets r) e)

pub loop-fact-preserved : goal.loop-fact-preserved
unfolding named_sets
loop-fact-preserved c =
    let l = c.loop-fact in
    let e = c.in-Some.ensures.steps in
    λ r h.
    gathers_more l.set c.fact_set.result c.bitor_assign.new.self _ _ _ _ (ap (named_sets r) e)
    (c.fact_set.ensures r h ∙ ap (λ (k : ℕ). words_of (set_at r k)) c.from.ensures)
    c.bitor_assign.ensures.after (l.invariant r h)

pub returns : goal.returns
unfolding named_sets
returns c = λ r h.
    let l = c.loop-fact in
    gathers_done _ _ _ (ap (named_sets r) c.in-None.ensures.steps.0) (l.invariant r h)
