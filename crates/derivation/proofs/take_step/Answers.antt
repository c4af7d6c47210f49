use mathlib.Core.Path.{sym, ◌∙◌}
use Rattle.derivation.proofs.Taking.{ready_by}
use Rattle.derivation.proofs.take_step.Goals as goal

pub take_closing-requires : goal.take_closing-requires
take_closing-requires c =
    record {
      ready_under = c.requires.0;
      rule_value = (sym c.conclusions_of.ensures ∙ c.in-Nothing.is, c.requires.1);
    }

pub take_conclusion-requires : goal.take_conclusion-requires
take_conclusion-requires c =
    let one = sym c.conclusions_of.ensures ∙ c.in-One.is in
    record {
      ready_by = (ready_by c.requires.0 one, c.requires.0.sized);
      labelled = c.requires.1;
    }

pub take_split-requires : goal.take_split-requires
take_split-requires c =
    (c.requires.0, sym c.conclusions_of.ensures ∙ c.in-Several.is)

pub returns-in-Nothing : goal.returns-in-Nothing
returns-in-Nothing c =
    let a = c.args in
    record {
      number = c.take_closing.ensures.number a.pending;
      acts = c.take_closing.ensures.acts a.pending;
    }

pub returns-in-One : goal.returns-in-One
returns-in-One c =
    let done = c.take_conclusion.ensures c.args.claim c.args.pending c.requires.0.field in
    record { number = done.0; acts = done.1 }
