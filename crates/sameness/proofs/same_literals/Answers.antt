use mathlib.Core.Path.{◌∙◌, ap₂}
use Rattle.calculus.specs.Strings.{eq_string}
use Rattle.sameness.proofs.same_literals.Goals as goal

pub returns : goal.returns
returns c = λ m n h g. c.same_text.ensures ∙ ap₂ eq_string (c.literal_text-text.ensures.1 m h) (c.literal_text-other.ensures.1 n g)
