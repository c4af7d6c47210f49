use Prim.Native.Nat.{◌+◌}
use lib.ListN.{length}
use mathlib.Core.Path.{◌≡◌, sym, ◌∙◌, ap, subst}
use native.Mathlib.Omega.{arith}
use Rattle.std.proofs.lemmas.Result.{err_from_is_err_and}
use Rattle.calculus.specs.Steps.{shape}
use Rattle.format.specs.StepForms.{step_at}
use Rattle.question.specs.Posed.{asked}
use Rattle.steps.specs.declared.Conclusions.TheVariants.{Several}
use Rattle.steps.specs.Offered.{with_child, child_fault}
use Rattle.steps.specs.Ready.{ReadyBy}
use Rattle.steps.proofs.Bodies.{four_bytes, form_fits, shape_by}
use Rattle.derivation.specs.Actions.{Acts}
use Rattle.derivation.proofs.Taking.{ready_by, by_size, begun_fits, begun_acts}
use Rattle.derivation.proofs.take_split.Goals as goal
use Rattle.derivation.proofs.take_split.Goals.{After-child_count-last, Start}

-- the step by its rule
by_rule : (s : Start)
    → ReadyBy s.args.rule Several s.args.ticket.now s.args.s (s.args.«record» + 6) s.args.size s.args.work.now s.args.count
by_rule s = ready_by s.requires.0 s.requires.1

-- how many children the step's form shows
counted : (c : After-child_count-last) → let a = c.args in
    c.child_count-last.result ≡ length (shape a.s.n (step_at a.ticket.now (a.«record» + 6) a.size))
counted c =
    c.child_count-last.ensures c.args.ticket.now (c.args.«record» + 6) ∙ ap length (shape_by (by_rule (goal.at.After-child_count-last c).Start) c.args.s.n)

pub split_fault-requires : goal.split_fault-requires
split_fault-requires c = record {
  ready_by = by_rule (goal.at.split_fault-requires c).Start;
  size_value = c.requires.0.field;
}

pub returns-in_err-split_fault : goal.returns-in_err-split_fault
returns-in_err-split_fault c =
    let a = c.args in
    let p = err_from_is_err_and c.from_residual.result c.from_residual.ensures.1 in
    rw (p.1, p.2) (record {
      number = by_size a.ticket.now a.s a.«record» a.size c.requires.0.sized a.work.now a.count a.claim a.pending _ c.in_err-split_fault.ensures;
      acts = tt;
    })

pub child_count-last-requires : goal.child_count-last-requires
child_count-last-requires c = form_fits (by_rule (goal.at.child_count-last-requires c).Start)

pub begun_child-child-requires : goal.begun_child-child-requires
begun_child-child-requires c =
    omega (arith, four_bytes c.requires.0.ready)

pub put_child-begun-requires : goal.put_child-begun-requires
put_child-begun-requires c =
    let a = c.args in
    let b = a.ticket.now in
    let w = a.work.now in record {
      ready_by = by_rule (goal.at.put_child-begun-requires c).Start;
      k_value = ap (λ k. child_fault b a.s (a.«record» + 6) a.size w a.count k) c.begun_child-child.ensures
          ∙ begun_fits b a.s a.«record» a.size c.requires.0.sized w a.count a.rule (by_rule (goal.at.put_child-begun-requires c).Start) a.pending a.claim
          (sym c.in_ok-split_fault.ensures);
    }

pub returns : goal.returns
returns c =
    let a = c.args in
    let b = a.ticket.now in
    let w = a.work.now in
    let last = c.child_count-last.result in
    let zero = c.in_ok-split_fault.ensures in
    let rows =
    c.put_child-begun.ensures.added
    ∙ ap (λ k. with_child b a.s (a.«record» + 6) a.size w a.count k) c.begun_child-child.ensures in
    let acts =
    begun_acts b a.s a.«record» a.size c.requires.0.sized w a.count a.rule (by_rule (goal.at.returns c).Start) a.pending a.claim last c.put_child-begun.result
    c.put_child-begun.new.work (counted (goal.at.returns c).After-child_count-last) (sym zero) rows c.put_child-begun.ensures.fine in record {
      number = by_size b a.s a.«record» a.size c.requires.0.sized w a.count a.claim a.pending 0 zero;
      acts = subst (Acts a.claim b (asked b a.s) a.«record» a.pending w a.count c.put_child-begun.new.work) (sym c.begun_as.ensures) acts;
    }
