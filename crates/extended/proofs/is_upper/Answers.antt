use Rattle.calculus.specs.Extended.{upper, upper_character}
use Rattle.extended.proofs.is_upper.Goals as goal

pub returns : goal.returns
unfolding upper
returns c = c.cased.ensures upper_character (λ b d h. h)
