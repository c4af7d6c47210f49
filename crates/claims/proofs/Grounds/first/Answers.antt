use mathlib.Core.Path.{sym, subst}
use Rattle.delimiters.specs.declared.Claim.{Claim}
use Rattle.claims.specs.Steps.{FirstGrounds}
use Rattle.claims.proofs.Keeping.{first_grounds}
use Rattle.claims.proofs.Grounds.first.Goals as goal

pub returns-in-NoSolution : goal.returns-in-NoSolution
returns-in-NoSolution c =
    let a = c.args in
    let v = c.root_sets.new.sets in
    let x = c.bring_up-roots.result in
    subst
    (λ (y : Claim). FirstGrounds y a.work.now v a.constraints (record { unions = x; roots = x; core = c.no_constraint-core.result }))
    (sym c.in-NoSolution.is)
    (first_grounds a.work.now v a.constraints c.no_unions.result x c.no_constraint-core.result c.root_sets.ensures
    c.no_unions.ensures c.bring_up-roots.ensures c.no_constraint-core.ensures)

pub returns-in-Strings : goal.returns-in-Strings
unfolding FirstGrounds
returns-in-Strings c =
    let a = c.args in
    let x = c.no_unions-roots.result in
    subst
    (λ (y : Claim). FirstGrounds y a.work.now a.sets.now a.constraints (record { unions = x; roots = x; core = c.no_constraint-core.result }))
    (sym c.in-Strings.is) tt
