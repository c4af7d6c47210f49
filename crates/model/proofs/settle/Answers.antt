use Prim.Native.Nat.{◌+◌, ◌*◌}
use mathlib.Core.Bool.{true}
use mathlib.Core.Path.{◌≡◌, refl}
use native.Mathlib.Omega.{arith}
use Rattle.std.proofs.lemmas.Result.{err_from_is_err_and}
use Rattle.calculus.specs.Limits.{value_limit}
use Rattle.format.specs.Fields.{i32s, all_within}
use Rattle.format.specs.Reading.{model_fault}
use Rattle.question.specs.Posed.{asked}
use Rattle.question.proofs.Refusals.{numbered}
use Rattle.rows.specs.Rows.{branch_of}
use Rattle.delimiters.proofs.Models.{form_stands, model_sized, model_within}
use Rattle.model.proofs.Settling.{held_filled, settled_answers, settled_fault}
use Rattle.model.proofs.settle.Goals as goal
use Rattle.model.proofs.settle.Goals.{In_ok-model_fault}

pub model_fault-requires : goal.model_fault-requires
model_fault-requires c =
    let pre = c.requires in
    (pre.1, pre.0.stands.few_strings, pre.0.stands.few_integers)

pub returns-in_err-model_fault : goal.returns-in_err-model_fault
returns-in_err-model_fault c =
    let a = c.args in
    let b = a.ticket.now in
    let p = err_from_is_err_and c.from_residual.result c.from_residual.ensures.1 in
    rw (p.1, p.2) (record {
      fault = form_stands b (asked b a.s) a.at a.size _ _ c.in_err-model_fault.ensures (numbered _);
      settled = tt;
    })

-- 5 and 6 do not apply
passed : (c : In_ok-model_fault) →
    let a = c.args in
    0 ≡ model_fault a.ticket.now (asked a.ticket.now a.s) 0 a.at a.size
passed c = c.in_ok-model_fault.ensures

-- the body has a number for each column
fits : (c : In_ok-model_fault) →
    let a = c.args in
    a.size ≡ 4 * (a.s.q + (a.s.p + a.s.p))
unfolding asked
fits c =
    let a = c.args in
    model_sized a.ticket.now (asked a.ticket.now a.s) a.at a.size (passed c)

-- they are small
small : (c : In_ok-model_fault) →
    let a = c.args in
    all_within value_limit (i32s a.ticket.now a.at (a.s.q + (a.s.p + a.s.p))) ≡ true
unfolding asked
small c =
    let a = c.args in
    model_within a.ticket.now (asked a.ticket.now a.s) a.at a.size (passed c)

pub read_model-requires : goal.read_model-requires
read_model-requires c =
    let pre = c.requires in
    (pre.4, omega (arith, pre.0.stands.few_strings, pre.0.stands.few_integers), omega (arith, pre.1, fits (goal.at.read_model-requires c).In_ok-model_fault))

pub leaf_fault-requires : goal.leaf_fault-requires
leaf_fault-requires c =
    let ls = c.labels-labels in record {
      posed = (
        c.requires.0,
        held_filled c.args.ticket.now c.args.places.now c.args.s c.requires.0 c.requires.3 c.args.at ls.result _ (small (goal.at.leaf_fault-requires c).In_ok-model_fault)
            c.read_model.ensures,
        c.requires.3,
      );
      fine = (c.requires.2, ls.ensures);
    }

pub returns-in_err-leaf_fault : goal.returns-in_err-leaf_fault
returns-in_err-leaf_fault c =
    let here = (goal.at.returns-in_err-leaf_fault c).In_ok-model_fault in
    let labels = c.labels-labels in
    let p = err_from_is_err_and c.from_residual-in_err-leaf_fault.result c.from_residual-in_err-leaf_fault.ensures.1 in
    rw (p.1, p.2) (record {
      fault = settled_fault c.args.ticket.now c.args.places.now c.args.s c.requires.0 c.requires.3 c.args.at labels.result _ (small here) c.read_model.ensures
          (branch_of c.args.work.now c.args.count) c.args.size _ (fits here) labels.ensures c.in_err-leaf_fault.ensures;
      settled = tt;
    })

pub returns : goal.returns
returns c =
    let here = (goal.at.returns c).In_ok-model_fault in
    let read-model = c.read_model in
    let labels = c.labels-labels in
    let b = c.args.ticket.now in
    let places = c.args.places.now in
    let br = branch_of c.args.work.now c.args.count in
    let n : c.args.size ≡ 4 * (c.args.s.q + (c.args.s.p + c.args.s.p)) = fits here in record {
      fault = settled_fault b places c.args.s c.requires.0 c.requires.3 c.args.at labels.result _ (small here) read-model.ensures br c.args.size 0 n labels.ensures
          c.in_ok-leaf_fault.ensures;
      settled = settled_answers b places c.args.s c.requires.0 c.requires.3 c.args.at labels.result _ (small here) read-model.ensures br c.args.size 0 n labels.ensures
          c.in_ok-leaf_fault.ensures refl;
    }
