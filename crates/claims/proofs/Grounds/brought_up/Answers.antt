use mathlib.Core.Path.{refl, sym, subst}
use Rattle.delimiters.specs.declared.Claim.{Claim}
use Rattle.claims.specs.Steps.{BroughtUp}
use Rattle.claims.proofs.Grounds.brought_up.Goals as goal

pub returns-in-NoSolution : goal.returns-in-NoSolution
unfolding BroughtUp
returns-in-NoSolution c =
    let a = c.args in
    subst
    (λ (x : Claim). BroughtUp x a.work.now a.sets.now a.upto a.count a.self
    (record { unions = c.bring_up.result; roots = a.self.roots; core = a.self.core }))
    (sym c.in-NoSolution.is) (c.bring_up.ensures, refl, refl)

pub returns-in-Strings : goal.returns-in-Strings
unfolding BroughtUp
returns-in-Strings c =
    let a = c.args in
    subst (λ (x : Claim). BroughtUp x a.work.now a.sets.now a.upto a.count a.self a.self) (sym c.in-Strings.is) tt
