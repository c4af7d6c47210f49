use mathlib.Core.Path.{◌∙◌, ap₂}
use Rattle.calculus.specs.Classes.{same_class}
use Rattle.classes.proofs.class_holds.Goals as goal

pub returns : goal.returns
returns c =
    c.same_class.ensures
    ∙ ap₂ (same_class c.args.labels.now) c.variable_node.ensures c.literal_node.ensures
