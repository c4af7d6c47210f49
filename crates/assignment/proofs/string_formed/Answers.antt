use Rattle.std.proofs.Common.{sym, ◌∙◌, arith}
use Rattle.std.proofs.lemmas.Bool.Decides.{nat_tests}
use Rattle.assignment.proofs.Read.{none_there, whole_there}
use Rattle.assignment.proofs.string_formed.Goals as goal

pub returns-then-size-eq0 : goal.returns-then-size-eq0
returns-then-size-eq0 c =
    let s = c.args in
    let (w, k, m) = whole_there s.v.now s.at (sym c.in-Whole.ensures) in
    grind (arith, nat_tests)

pub returns-else-size-eq0 : goal.returns-else-size-eq0
returns-else-size-eq0 c =
    let s = c.args in
    let (w, k, m) = whole_there s.v.now s.at (sym c.in-Whole.ensures) in
    grind (arith, nat_tests)

pub returns-in_default : goal.returns-in_default
returns-in_default c =
    let s = c.args in
    rw (none_there s.v.now s.at (λ k m e. c.in_default.not-Whole k m (c.read_at.ensures ∙ e)))
