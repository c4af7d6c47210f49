use mathlib.Core.Path.{◌∙◌, ap}
use Rattle.nuldwich.specs.Replies.{need_reply}
use Rattle.nuldwich.proofs.nuldwich_need.Goals as goal

pub returns : goal.returns
returns c = c.from.ensures ∙ ap need_reply c.need_ticket.ensures
