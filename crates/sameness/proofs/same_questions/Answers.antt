use mathlib.Core.Path.{subst}
use Rattle.std.proofs.Common.{rules, Ok}
use Rattle.std.proofs.lemmas.Result.{MatchResult-weaker, err_from_is_err_and}
use Rattle.sameness.specs.Asked.{AskedAs}
use Rattle.sameness.proofs.Outcomes.{both_read, refused_first, refused_second, was_read}
use Rattle.sameness.proofs.same_questions.Goals as goal
use Rattle.sameness.proofs.same_questions.Goals.{In_ok-s, In_ok-t}

-- the first question was read
first_read : (c : In_ok-s) → AskedAs c.args.first.now (Ok c.in_ok-s.s)
first_read c =
    subst (AskedAs c.args.first.now) (was_read c.read_asked.result c.in_ok-s.s
    (MatchResult-weaker c.read_asked.result c.in_ok-s.ensures.cases (λ x e. search rules) (λ d q. q))) c.read_asked.ensures

-- and the second
second_read : (c : In_ok-t) → AskedAs c.args.second.now (Ok c.in_ok-t.t)
second_read c =
    subst (AskedAs c.args.second.now) (was_read c.read_asked-2.result c.in_ok-t.t
    (MatchResult-weaker c.read_asked-2.result c.in_ok-t.ensures.cases (λ x e. search rules) (λ d q. q))) c.read_asked-2.ensures

pub returns-in_err-s : goal.returns-in_err-s
returns-in_err-s c =
    let p = err_from_is_err_and c.from_residual.result c.from_residual.ensures.1 in
    rw (p.1, p.2) (refused_first c.args.first.now c.args.second.now c.read_asked.result _ c.read_asked.ensures
    (MatchResult-weaker c.read_asked.result c.in_err-s.ensures.cases (λ x e. search rules) (λ d q. search rules)))

pub returns-in_err-t : goal.returns-in_err-t
returns-in_err-t c =
    let p = err_from_is_err_and c.from_residual-in_err-t.result c.from_residual-in_err-t.ensures.1 in
    rw (p.1, p.2) (refused_second c.args.first.now c.args.second.now (first_read (goal.at.returns-in_err-t c).In_ok-s) c.read_asked-2.result _ c.read_asked-2.ensures
    (MatchResult-weaker c.read_asked-2.result c.in_err-t.ensures.cases (λ x e. search rules) (λ d q. search rules)))

pub same_asked-requires : goal.same_asked-requires
same_asked-requires c = ((first_read (goal.at.same_asked-requires c).In_ok-s).0, (second_read c).0)

pub returns : goal.returns
returns c =
    both_read c.args.first.now c.args.second.now (first_read (goal.at.returns c).In_ok-s) (second_read (goal.at.returns c).In_ok-t) c.same_asked.ensures
