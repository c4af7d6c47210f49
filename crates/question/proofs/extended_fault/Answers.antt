use Rattle.std.proofs.Common.{rules}
use Rattle.format.specs.Question.{extended_range}
use Rattle.question.proofs.extended_fault.Goals as goal

pub returns : goal.returns
returns c = c.three_fault.ensures (extended_range c.args.p c.args.q) (λ f x y r h. search rules)
