use Rattle.classes.proofs.Laws.{knows_nothing}
use Rattle.classes.proofs.labels.Goals as goal

pub bring_up-requires : goal.bring_up-requires
bring_up-requires c =
    let f = c.nothing_known in
    record {
      knows = knows_nothing c.args.work.now c.args.count f.result f.ensures.0 f.ensures.1;
      count_le_fact_limit = c.requires;
    }
