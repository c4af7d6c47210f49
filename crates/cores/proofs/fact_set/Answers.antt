use mathlib.Core.Path.{◌∙◌, ap, sym}
use Rattle.cores.proofs.Resting.{set_beyond}
use Rattle.cores.specs.Words.{words_of}
use Rattle.cores.proofs.fact_set.Goals as goal

pub returns-else-k-count : goal.returns-else-k-count
returns-else-k-count c = λ r h.
    c.no_constraint.ensures ∙ ap words_of (sym (set_beyond c.args.sets.now c.args.count c.args.k r h c.if-k-count.false))

pub returns-then-k-count : goal.returns-then-k-count
returns-then-k-count c = λ r h. h.words c.args.k c.if-k-count.true
