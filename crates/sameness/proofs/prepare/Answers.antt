use borrow.Author.Rules.{rules}
use mathlib.Core.List.{map}
use mathlib.Core.Path.{◌∙◌, ap}
use Rattle.calculus.specs.NormalForms.{normal}
use Rattle.sameness.proofs.prepare.Goals as goal

pub returns : goal.returns
returns c =
    let pre = c.requires in
    record { posed = pre.0; room = search rules; rows = c.normalise.ensures ∙ ap (map normal) c.load.ensures.loaded }
