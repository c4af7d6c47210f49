use lib.ListN.{take}
use mathlib.Core.Path.{◌∙◌, ap, sym}
use Rattle.format.specs.Fields.{bytes_of}
use Rattle.format.proofs.Encoded.{length_bytes}
use Rattle.writing.proofs.Stores.{copied, lowest}
use Rattle.writing.proofs.put_lowest.Goals as goal

pub returns : goal.returns
returns g c =
    let s = c.args in
    copied s.buffer.now s.at g.row.N (bytes_of g.row.N s.v) _ (c.copy_from_slice.ensures.after ∙ ap (take g.row.N) c.to_le_bytes.ensures ∙ lowest g.row.N s.v c.requires.0)
    (sym (length_bytes g.row.N s.v)) c.requires.1
