use Rattle.std.proofs.lemmas.Result.{err_from_is_err_and}
use Rattle.derivation.proofs.Taking.{one_number, one_acts}
use Rattle.derivation.proofs.take_conclusion.Goals as goal

pub conclude-requires : goal.conclude-requires
conclude-requires c = record {
  ready_by = c.requires.ready_by.0;
  labelled = c.requires.labelled;
}

pub returns-in_err-conclude : goal.returns-in_err-conclude
returns-in_err-conclude c =
    let a = c.args in
    let b = a.ticket.now in
    let w = a.work.now in
    let p = err_from_is_err_and c.from_residual.result c.from_residual.ensures.1 in
    rw (p.1, p.2) (λ claim pending fits. (
      one_number b a.s a.«record» a.size c.requires.ready_by.1 w a.count a.rule c.requires.ready_by.0 _ c.in_err-conclude.ensures.fault claim pending fits,
      tt,
    ))

pub returns : goal.returns
returns c =
    let a = c.args in
    let b = a.ticket.now in
    let w = a.work.now in
    let tried = c.in_ok-conclude.ensures.fault in
    λ claim pending fits. (
      one_number b a.s a.«record» a.size c.requires.ready_by.1 w a.count a.rule c.requires.ready_by.0 0 tried claim pending fits,
      one_acts b a.s a.«record» a.size c.requires.ready_by.1 w a.count a.rule c.requires.ready_by.0 c.conclude.new.work _ tried
          c.in_ok-conclude.ensures.added c.in_ok-conclude.ensures.fine claim pending fits,
    )
