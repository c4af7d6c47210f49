use Rattle.std.proofs.Common.{rules}
use Rattle.format.specs.Fields.{u32}
use Rattle.records.proofs.U32Field.read.Goals as goal

pub returns : goal.returns
unfolding u32
returns c = search rules
