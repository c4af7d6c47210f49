use mathlib.Core.Path.{◌∙◌, ap}
use Rattle.format.specs.Places.{skip}
use Rattle.question.proofs.Posed.{literals_whole}
use Rattle.sameness.proofs.Records.{constraints_whole}
use Rattle.sameness.proofs.extended_from.Goals as goal

pub behind_literals-requires : goal.behind_literals-requires
behind_literals-requires c = literals_whole c.requires

pub behind_records-requires : goal.behind_records-requires
behind_records-requires c =
    rw c.behind_literals.ensures (constraints_whole c.args.b.now c.args.s c.requires)

pub returns : goal.returns
returns c =
    let args = c.args in
    c.behind_records.ensures ∙ ap (skip args.b.now args.s.constraints) c.behind_literals.ensures
