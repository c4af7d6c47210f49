use mathlib.Core.Path.{ap}
use Rattle.cores.specs.declared.Words.{Words}
use Rattle.claims.specs.declared.Grounds.{Grounds}
use Rattle.claims.proofs.Grounds.with_closing.Goals as goal

pub returns : goal.returns
returns c = ap (with-core c.args.self) c.bitor.ensures
  where
    with-core : Grounds → Words → Grounds
    with-core g x = record { unions = g.unions; roots = g.roots; core = x }
