use Prim.Native.Nat.{◌+◌, ◌*◌, ◌-◌}
use mathlib.Core.Bool.{true}
use mathlib.Core.Path.{◌≡◌}
use Rattle.calculus.specs.Rules.{distinct, neighbours}
use Rattle.format.specs.Fields.{u16, u16s}
use Rattle.format.specs.StepForms.{are_variables}
use Rattle.question.specs.Posed.{numbered}
use Rattle.rows.specs.Rows.{branch_of}
use Rattle.splits.proofs.lengths_agree.Given as goal

abbrev pub invariant-loop-k : goal.invariant-loop-k
invariant-loop-k l =
    (distinct (u16s l.b (l.at + 2 * l.k) (l.others - l.k + 1)) ≡ true)
    × (are_variables l.s.p (u16s l.b (l.at + 2 * l.k) (l.others - l.k + 1)) ≡ true)
    × (neighbours (numbered l.s) (branch_of l.work l.count) (u16 l.b (l.at + 2 * l.k)) (u16s l.b (l.at + 2 * l.k + 2) (l.others - l.k))
    ≡ neighbours (numbered l.s) (branch_of l.work l.count) (u16 l.b l.at) (u16s l.b (l.at + 2) l.others))
