use Rattle.judging.proofs.Parts.{part_length}
use Rattle.judging.proofs.Theory.{shows}
use Rattle.judging.specs.Judgements.{shown_of}
use Rattle.nuldwich.proofs.Numbered.{judge_reply_law}
use Rattle.nuldwich.proofs.nuldwich_judge.Goals as goal

pub returns : goal.returns
returns c =
    let s = c.args in
    let finding = c.judge_answer-finding in
    let within = (shows s.question s.answer finding.result finding.ensures).lies_within in
    judge_reply_law finding.ensures c.from-numbers.ensures c.number_side.ensures
    (part_length s.question s.answer (shown_of finding.result.shown) _ within c.show-part.ensures)
