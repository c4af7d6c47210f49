use Rattle.splits.proofs.Forms.{put_two}
use Rattle.splits.proofs.put_codeless.Goals as goal

pub returns : goal.returns
returns c =
    let args = c.args in
    put_two _ _ _ args.count _ _ c.put_single.ensures c.put_single-2.ensures
