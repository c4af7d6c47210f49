use Prim.Native.Nat.{◌≤◌}
use mathlib.Core.Path.{◌≡◌}
use Rattle.calculus.specs.Extended.{basic}
use Rattle.calculus.specs.NormalForms.{occurrences}
use Rattle.question.specs.Posed.{asked}
use Rattle.question.specs.declared.Progress.{Progress}
use Rattle.rows.specs.Rows.{fact_of}
use Rattle.sameness.specs.Ready.{facts_in, literal_named}
use Rattle.sameness.proofs.count_rows.Given as goal

abbrev pub invariant-loop-k : goal.invariant-loop-k
invariant-loop-k l = (l.found ≤ l.k) × ((s : Progress) → literal_named (fact_of l.row) ≤ s.literals
    → l.found ≡ occurrences (asked l.b s) (asked l.c l.fn.t) (basic (fact_of l.row)) (facts_in l.work l.k))
