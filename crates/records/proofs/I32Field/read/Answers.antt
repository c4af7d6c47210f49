use Rattle.std.proofs.Common.{◌∙◌, ap, w32}
use Rattle.std.proofs.lemmas.Int.{to_z-of_z}
use Rattle.format.specs.Fields.{signed}
use Rattle.records.proofs.Signed.{signed_by_bits}
use Rattle.records.proofs.I32Field.read.Goals as goal

pub returns : goal.returns
returns c =
    to_z-of_z w32 _ (record { sfits = c.cast_signed.type_inv }) ∙ c.cast_signed.ensures ∙ signed_by_bits _ c.read.type_inv ∙ ap signed c.read.ensures
