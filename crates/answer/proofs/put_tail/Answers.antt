use lib.ListN.{take}
use lib.Seq.{length-take-le}
use Rattle.answer.proofs.Written.{tail_put}
use Rattle.answer.proofs.put_tail.Goals as goal

pub returns : goal.returns
returns c =
    let zs = take c.args.q c.args.model.now in
    cc (tail_put c.args.buffer.now c.args.at c.args.q zs (length-take-le c.args.q c.args.model.now c.requires.0.there))
