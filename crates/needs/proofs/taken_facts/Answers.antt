use mathlib.Core.Path.{sym, ◌∙◌}
use Rattle.steps.specs.Rules.{shape_of}
use Rattle.needs.proofs.Stacks.{taken_none, taken_some, child_numbered}
use Rattle.needs.proofs.taken_facts.Goals as goal

pub returns-then-child_count-eq0 : goal.returns-then-child_count-eq0
returns-then-child_count-eq0 c =
    let a = c.args in
    λ b body h. sym (taken_none (shape_of a.rule a.n b body a.size) a.k (sym (c.child_count.ensures b body) ∙ c.if-child_count-eq0.true))

pub returns-else-child_count-eq0 : goal.returns-else-child_count-eq0
returns-else-child_count-eq0 c =
    let a = c.args in
    λ b body h.
    let cs = shape_of a.rule a.n b body a.size in
    let (low, high) = child_numbered cs a.k h (λ z. c.if-child_count-eq0.false (c.child_count.ensures b body ∙ z)) in
    c.child_facts.ensures b a.n body a.size low high ∙ taken_some cs a.k low high
