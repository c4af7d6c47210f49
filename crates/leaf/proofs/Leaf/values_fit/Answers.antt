use mathlib.Core.Bool.{Bool, ◌&&◌}
use mathlib.Core.Path.{◌∙◌, ap, sym}
use Rattle.lists.specs.Lists.{all_below}
use Rattle.leaf.proofs.Laws.{pairs_any}
use Rattle.question.specs.Posed.{asked}
use Rattle.leaf.specs.Values.{pair_fits}
use Rattle.leaf.proofs.Leaf.values_fit.Goals as goal

pub returns-else-var_fits : goal.returns-else-var_fits
unfolding asked
returns-else-var_fits c =
    let s = c.args in
    let u = asked s.self.now.ticket.now s.self.now.s in
    c.if-var_fits.false ∙ sym (ap (λ (t : Bool). t && all_below s.x (pair_fits u s.self.now.labels.now s.self.now.model.now s.x))
    (sym c.var_fits.ensures ∙ c.if-var_fits.false))

pub returns-then-var_fits : goal.returns-then-var_fits
unfolding asked
returns-then-var_fits c =
    let s = c.args in
    let u = asked s.self.now.ticket.now s.self.now.s in
    c.pairs_fit.ensures
    ∙ pairs_any s.self.now.ticket.now s.self.now.s s.self.now.labels.now s.self.now.model.now s.x
    ∙ sym (ap (λ (t : Bool). t && all_below s.x (pair_fits u s.self.now.labels.now s.self.now.model.now s.x))
    (sym c.var_fits.ensures ∙ c.if-var_fits.true))
