use Rattle.std.proofs.Common.{rules}
use Rattle.format.specs.Question.{string_range}
use Rattle.question.proofs.string_fault.Goals as goal

pub returns : goal.returns
returns c = c.three_fault.ensures (string_range c.args.p c.args.k) (λ f x y r h. search rules)
