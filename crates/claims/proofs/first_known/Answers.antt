use Prim.Native.Nat.{ℕ}
use mathlib.Core.Path.{sym, ◌∙◌, ap}
use native.Mathlib.Omega.{arith}
use Rattle.calculus.specs.Classes.{labels}
use Rattle.rows.specs.Rows.{branch_of}
use Rattle.classes.proofs.Laws.{knows_nothing}
use Rattle.delimiters.specs.declared.Claim.{Claim}
use Rattle.claims.specs.Outcomes.{first_upto}
use Rattle.claims.proofs.first_known.Goals as goal

pub bring_up-requires : goal.bring_up-requires
bring_up-requires c =
    let none = c.nothing_known in record {
      knows = knows_nothing c.args.work.now c.args.constraints none.result none.ensures.0 none.ensures.1;
      count_le_fact_limit = (c.requires.few, omega (arith, c.requires.few, c.requires.room));
    }

pub returns-in-NoSolution : goal.returns-in-NoSolution
returns-in-NoSolution c =
    let a = c.args in
    let claimed = ap (λ (x : Claim). first_upto x a.constraints) (sym c.in-NoSolution.is) in
    record {
      upto_value = c.bring_up.ensures.upto ∙ claimed;
      labels_value = c.bring_up.ensures.labels ∙ ap (λ (n : ℕ). labels (branch_of a.work.now n)) claimed;
    }

pub returns-in-Strings : goal.returns-in-Strings
unfolding branch_of
returns-in-Strings c =
    let a = c.args in
    let claimed = ap (λ (x : Claim). first_upto x a.constraints) (sym c.in-Strings.is) in
    record {
      upto_value = c.nothing_known-in-Strings.ensures.0 ∙ claimed;
      labels_value = c.nothing_known-in-Strings.ensures.1 ∙ ap (λ (n : ℕ). labels (branch_of a.work.now n)) claimed;
    }
