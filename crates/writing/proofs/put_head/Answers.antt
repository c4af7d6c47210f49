use Rattle.format.specs.Fields.{bytes_of}
use Rattle.lists.proofs.Stores.{sets_sets}
use Rattle.writing.proofs.put_head.Goals as goal

pub returns : goal.returns
unfolding bytes_of
returns c =
    let s = c.args in
    cc (sets_sets (bytes_of 4 s.size) (bytes_of 2 s.kind) s.buffer.now s.at)
