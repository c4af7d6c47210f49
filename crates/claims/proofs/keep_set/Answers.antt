use mathlib.Core.Path.{sym, ◌∙◌}
use Rattle.claims.proofs.Gathering.{unkept}
use Rattle.claims.proofs.keep_set.Goals as goal

pub fill_sets-requires : goal.fill_sets-requires
fill_sets-requires c =
    let pre = c.requires in
    let added = pre.0 c.in-NoSolution.is in
    (added.0, added.1, pre.1, pre.2)

pub returns-in-NoSolution : goal.returns-in-NoSolution
returns-in-NoSolution c = λ e. c.fill_sets.ensures

pub returns-in-Strings : goal.returns-in-Strings
returns-in-Strings c = λ e. unkept (sym c.in-Strings.is ∙ e)
