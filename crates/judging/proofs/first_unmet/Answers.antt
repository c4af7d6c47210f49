use Prim.Native.Nat.{◌≤◌, suc, ℕ}
use lib.ListN.{length}
use mathlib.Core.List.{List}
use mathlib.Core.Path.{◌∙◌, ◌≡◌, ap, subst, sym}
use native.Mathlib.Numerals.{add-one}
use native.Mathlib.Omega.{arith}
use Rattle.format.proofs.Places.{skip_snoc}
use Rattle.format.proofs.Standing.{constraint_whole, judged_at}
use Rattle.format.specs.Standing.{ConstraintAt}
use Rattle.format.specs.Places.{constraints_from, skip}
use Rattle.format.specs.Records.{next}
use Rattle.question.proofs.Posed.{literals_whole}
use Rattle.question.specs.Posed.{Posed}
use Rattle.question.specs.Progress.{numbers_of}
use Rattle.question.specs.declared.Progress.{Progress}
use Rattle.judging.proofs.Unmet.{finds_all_met, finds_unmet, met_more, met_none}
use Rattle.judging.specs.Ready.{values_of}
use Rattle.judging.proofs.first_unmet.Goals as goal
use Rattle.judging.proofs.first_unmet.Goals.{In-loop-k}

pub overflow_add-count : goal.overflow_add-count
overflow_add-count c =
    let pre = c.requires in
    omega (arith, pre.texts.posed.few_constraints)

pub behind_literals-at-requires : goal.behind_literals-at-requires
behind_literals-at-requires c = literals_whole c.requires.texts.posed

pub loop-k-init : goal.loop-k-init
unfolding skip
loop-k-init c =
    let s = c.args in
    (c.behind_literals-at.ensures, met_none s.b.now s.v.now s.s (values_of s.b.now s.v.now s.s))

-- the constraint in turn
module _ (c : In-loop-k) where
  abbrev posed : Posed c.args.b.now c.args.s
  posed = c.requires.texts.posed

  abbrev b : List ℕ
  b = c.args.b.now

  abbrev s : Progress
  s = c.args.s

  -- it is one of the two sorts
  constraint_here : ConstraintAt b s.p s.q s.literals c.loop-k.at
  constraint_here =
      subst (ConstraintAt b s.p s.q s.literals) (sym c.loop-k.invariant.0)
      (judged_at b (numbers_of s) posed.to posed.stands c.loop-k.k (omega arith))

  -- and all there
  record_there : next b c.loop-k.at ≤ length b
  record_there =
      subst (λ i. next b i ≤ length b) (sym c.loop-k.invariant.0)
      (constraint_whole b (numbers_of s) posed.to posed.stands posed.head c.loop-k.k (omega arith))

pub constraint_met-requires : goal.constraint_met-requires
constraint_met-requires c = (c.requires, constraint_here c)

pub record_end-requires : goal.record_end-requires
record_end-requires c = record_there (goal.at.record_end-requires c).In-loop-k

pub returns-then-not-constraint_met : goal.returns-then-not-constraint_met
returns-then-not-constraint_met c =
    let l = c.loop-k in
    let s = c.args in
    rw c.found.ensures (finds_unmet s.b.now s.v.now s.s (values_of s.b.now s.v.now s.s) (posed (goal.at.returns-then-not-constraint_met c).In-loop-k) l.k l.at l.invariant.1
    l.invariant.0 (omega arith) (sym c.if-not-constraint_met.ensures)
    c.record_end.ensures)

pub record_end-at-requires : goal.record_end-at-requires
record_end-at-requires c = record_there (goal.at.record_end-at-requires c).In-loop-k

pub loop-k-preserved : goal.loop-k-preserved
loop-k-preserved c =
    let l = c.loop-k in
    let s = c.args in
    let b = s.b.now in
    let here : next b l.at ≡ skip b (suc l.k) (constraints_from b s.s.literals) =
    ap (next b) l.invariant.0 ∙ sym (skip_snoc b l.k (constraints_from b s.s.literals)) in (
      c.record_end-at.ensures ∙ rw (add-one l.k) here,
      met_more b s.v.now s.s (values_of b s.v.now s.s) l.k l.at l.invariant.1 l.invariant.0
          (sym c.if-not-constraint_met.ensures),
    )

pub returns : goal.returns
returns c =
    let l = c.loop-k in
    let s = c.args in
    rw c.found-2.ensures (finds_all_met s.b.now s.v.now s.s (values_of s.b.now s.v.now s.s) c.requires.texts.posed l.k l.invariant.1
    (omega arith))
