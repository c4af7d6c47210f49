use Rattle.calculus.specs.Extended.{lower, lower_character}
use Rattle.extended.proofs.is_lower.Goals as goal

pub returns : goal.returns
unfolding lower
returns c = c.cased.ensures lower_character (λ b d h. h)
