use mathlib.Core.Path.{◌∙◌, ap}
use Rattle.nuldwich.specs.Replies.{same_reply}
use Rattle.nuldwich.proofs.nuldwich_same.Goals as goal

pub returns : goal.returns
returns c = c.from.ensures ∙ ap same_reply c.same_questions.ensures
