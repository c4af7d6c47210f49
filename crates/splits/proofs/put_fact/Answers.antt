use Prim.Native.Nat.{◌+◌, ◌<◌, ℕ}
use lib.ListN.{drop}
use mathlib.Core.Bool.{true}
use mathlib.Core.List.{List, [], ◌++◌, ◌∷◌}
use mathlib.Core.Option.{Option}
use mathlib.Core.Path.{◌∙◌, ◌≡◌, ap, ap₂, sym}
use native.Mathlib.Omega.{arith}
use Rattle.question.specs.Posed.{numbered}
use Rattle.calculus.specs.Facts.{Fact}
use Rattle.calculus.specs.Children.{child_at, apart_children, l_valid_children, c_inj_children}
use Rattle.format.specs.Fields.{u16}
use Rattle.format.specs.Checking.{fits, or_none, child_in}
use Rattle.format.proofs.Faults.{not_both}
use Rattle.rows.specs.Rows.{fact_of, row_at, branch_of}
use Rattle.rows.specs.Work.{tag_of}
use Rattle.rows.proofs.Small.{fine_at}
use Rattle.question.proofs.Posed.{some_character}
use Rattle.steps.specs.declared.Rule.{Rule}
use Rattle.steps.specs.Rules.{rule_named, one_each}
use Rattle.steps.proofs.Bodies.{given, four_bytes, l_valid_variable, is_rule}
use Rattle.steps.proofs.Offered.{step_fits, number_of}
use Rattle.steps.proofs.Rules.{not_several}
use Rattle.steps.proofs.Variables.{card_operands}
use Rattle.splits.proofs.Operands.{branch_operands, apart_operands, c_inj_operands, branch_child}
use Rattle.splits.proofs.Operands.{apart_fact, apart_child, l_valid_child, c_inj_differ, c_inj_child, card_child}
use Rattle.splits.proofs.put_fact.Goals as goal
use Rattle.splits.proofs.put_fact.Goals.{Start}

-- there is child k, so the step fits
there : (s : Start) → fits (child_in (given s.requires.ready_by.ready) s.args.k) ≡ true
there s = s.requires.k_value

fit : (s : Start) → fits (given s.requires.ready_by.ready) ≡ true
fit s = step_fits (given s.requires.ready_by.ready) s.args.k (there s)

pub overflow_add-at : goal.overflow_add-at
overflow_add-at c = omega (arith, four_bytes c.requires.ready_by.ready)

pub overflow_sub-step : goal.overflow_sub-step
overflow_sub-step c = (branch_operands c.requires.ready_by.ready (is_rule c.requires.ready_by _ c.in-Branch.is)).0

pub put_branch-requires : goal.put_branch-requires
put_branch-requires c =
    let h = c.requires.ready_by.ready in
    let e = is_rule c.requires.ready_by _ c.in-Branch.is in
    let o = branch_operands h e in
    let n = number_of (given h) c.args.k (there (goal.at.put_branch-requires c).Start) _ (branch_child h e) in
    record {
      count_lt_fact_limit = (c.requires.rule_value.1, h.fine.room, o.1, n.0, n.1);
      pairs_value = o.2;
    }

pub u16_at-requires : goal.u16_at-requires
u16_at-requires c = apart_operands c.requires.ready_by.ready (is_rule c.requires.ready_by _ c.in-Apart.is)

pub put_apart-requires : goal.put_apart-requires
put_apart-requires c =
    let here = (goal.at.put_apart-requires c).Start in
    let b = c.args.ticket.now in
    let h = c.requires.ready_by.ready in
    let e = is_rule c.requires.ready_by _ c.in-Apart.is in
    let x : c.u16_at.result ≡ u16 b (c.args.step.body + 4) = c.u16_at.ensures.0 in
    let a = apart_fact h (fit here) e in
    let l : u16 b (c.args.step.body + 4) < c.args.count = a.0 in
    let few = h.fine.few in
    let n = number_of (given h) c.args.k (there here) _ (apart_child h (fit here) e) in record {
      fact_lt_count = (omega arith, c.requires.rule_value.1, h.fine.room, n.0, n.1);
      fact_value = (
        ap (λ (n : ℕ). tag_of (fact_of (row_at c.args.work.now n))) x ∙ a.1,
        fine_at c.args.work.now c.args.count c.u16_at.result h.fine (omega arith),
      );
    }

pub u16_at-requires-in-LValid : goal.u16_at-requires-in-LValid
u16_at-requires-in-LValid c =
    (l_valid_variable c.requires.ready_by.ready (is_rule c.requires.ready_by _ c.in-LValid.is)).0

pub put_l_valid-requires : goal.put_l_valid-requires
put_l_valid-requires c =
    let b = c.args.ticket.now in
    let h = c.requires.ready_by.ready in
    let e = is_rule c.requires.ready_by _ c.in-LValid.is in
    let x : c.u16_at-in-LValid.result ≡ u16 b (c.args.step.body + 4) = c.u16_at-in-LValid.ensures.0 in
    let l : u16 b (c.args.step.body + 4) < c.args.s.p = (l_valid_variable h e).1 in
    let few = h.posed.stands.few_strings in
    let n = number_of (given h) c.args.k (there (goal.at.put_l_valid-requires c).Start) _ (l_valid_child h e) in
    record {
      count_lt_fact_limit = (c.requires.rule_value.1, h.fine.room);
      x_lt_variable_limit = (omega arith, few, h.posed.stands.few_integers, n.0, n.1);
    }

pub u16_at-requires-in-CInj : goal.u16_at-requires-in-CInj
u16_at-requires-in-CInj c =
    let o = c_inj_operands c.requires.ready_by.ready (is_rule c.requires.ready_by _ c.in-CInj.is) in omega (arith, o.0)

pub u16_at-requires-in-CInj-2 : goal.u16_at-requires-in-CInj-2
u16_at-requires-in-CInj-2 c =
    (c_inj_operands c.requires.ready_by.ready (is_rule c.requires.ready_by _ c.in-CInj.is)).0

pub put_c_inj-requires : goal.put_c_inj-requires
put_c_inj-requires c =
    let here = (goal.at.put_c_inj-requires c).Start in
    let b = c.args.ticket.now in
    let h = c.requires.ready_by.ready in
    let e = is_rule c.requires.ready_by _ c.in-CInj.is in
    let o = c_inj_operands h e in
    let x : c.u16_at-in-CInj.result ≡ u16 b (c.args.step.body + 4) = c.u16_at-in-CInj.ensures.0 in
    let y : c.u16_at-in-CInj-2.result ≡ u16 b (c.args.step.body + 6) = c.u16_at-in-CInj-2.ensures.0 in
    let l : u16 b (c.args.step.body + 4) < c.args.s.p = o.1 in
    let g : u16 b (c.args.step.body + 6) < c.args.s.p = o.2 in
    let few = h.posed.stands.few_strings in
    let n = number_of (given h) c.args.k (there here) _ (c_inj_child h (fit here) e) in record {
      count_lt_fact_limit = (c.requires.rule_value.1, h.fine.room);
      x_lt_variable_limit = (omega arith, omega arith, λ q. c_inj_differ h (fit here) e (sym x ∙ q ∙ y), few, h.posed.stands.few_integers, n.0, n.1);
    }

pub overflow_sub-step-in-Card : goal.overflow_sub-step-in-Card
overflow_sub-step-in-Card c = (card_operands c.requires.ready_by.ready (is_rule c.requires.ready_by _ c.in-Card.is)).4

pub put_card-requires : goal.put_card-requires
put_card-requires c =
    let h = c.requires.ready_by.ready in
    let stands = h.posed.stands in
    let e = is_rule c.requires.ready_by _ c.in-Card.is in
    let o = card_operands h e in
    let n = number_of (given h) c.args.k (there (goal.at.put_card-requires c).Start) _ (card_child h (fit (goal.at.put_card-requires c).Start) e) in record {
      count_lt_fact_limit = (c.requires.rule_value.1, h.fine.room);
      le_m = (o.0, o.1, o.2, o.3);
      p_le_variable_limit = (stands.few_strings, stands.few_integers, some_character h.posed, stands.few_characters);
      le_k = (n.0, n.1);
    }

pub returns-in-Branch : goal.returns-in-Branch
returns-in-Branch c =
    let br = branch_of c.args.work.now c.args.count in
    let e = is_rule c.requires.ready_by _ c.in-Branch.is in
    c.put_branch.ensures ∙ ap (λ (o : Option (List (List Fact))). br ++ or_none (child_in o c.args.k)) (sym (branch_child c.requires.ready_by.ready e))

pub returns-in-Apart : goal.returns-in-Apart
returns-in-Apart c =
    let br = branch_of c.args.work.now c.args.count in
    let e = is_rule c.requires.ready_by _ c.in-Apart.is in
    c.put_apart.ensures
    ∙ ap (λ (n : ℕ). br ++ or_none (child_at (apart_children (drop 1 (row_at c.args.work.now n))) c.args.k)) c.u16_at.ensures.0
    ∙ ap (λ (o : Option (List (List Fact))). br ++ or_none (child_in o c.args.k))
    (sym (apart_child c.requires.ready_by.ready (fit (goal.at.returns-in-Apart c).Start) e))

pub returns-in-LValid : goal.returns-in-LValid
returns-in-LValid c =
    let br = branch_of c.args.work.now c.args.count in
    let e = is_rule c.requires.ready_by _ c.in-LValid.is in
    c.put_l_valid.ensures
    ∙ ap (λ (n : ℕ). br ++ or_none (child_at (l_valid_children (numbered c.args.s) n) c.args.k)) c.u16_at-in-LValid.ensures.0
    ∙ ap (λ (o : Option (List (List Fact))). br ++ or_none (child_in o c.args.k)) (sym (l_valid_child c.requires.ready_by.ready e))

pub returns-in-CInj : goal.returns-in-CInj
returns-in-CInj c =
    let br = branch_of c.args.work.now c.args.count in
    let e = is_rule c.requires.ready_by _ c.in-CInj.is in
    c.put_c_inj.ensures
    ∙ ap₂ (λ (m n : ℕ). br ++ or_none (child_at (c_inj_children (numbered c.args.s) m n) c.args.k)) c.u16_at-in-CInj.ensures.0
    c.u16_at-in-CInj-2.ensures.0
    ∙ ap (λ (o : Option (List (List Fact))). br ++ or_none (child_in o c.args.k))
    (sym (c_inj_child c.requires.ready_by.ready (fit (goal.at.returns-in-CInj c).Start) e))

pub returns-in-Card : goal.returns-in-Card
returns-in-Card c =
    let br = branch_of c.args.work.now c.args.count in
    let e = is_rule c.requires.ready_by _ c.in-Card.is in
    c.put_card.ensures
    ∙ ap (λ (o : Option (List (List Fact))). br ++ or_none (child_in o c.args.k))
    (sym (card_child c.requires.ready_by.ready (fit (goal.at.returns-in-Card c).Start) e))

pub returns-in-CValid : goal.returns-in-CValid
returns-in-CValid c =
    absurd (not_both (one_each (rule_named c.args.step.rule)) c.requires.rule_value.0 (ap (λ (r : Rule). one_each (rule_named r)) c.in-CValid.is))

pub returns-in-Sum : goal.returns-in-Sum
returns-in-Sum c = absurd (not_several (0 ∷ 5 ∷ 6 ∷ 8 ∷ 12 ∷ []) c.args.step.rule tt c.in-Sum.in-Sum-own.keys7 c.requires.ready_by.concludes)

pub returns-in-AConf : goal.returns-in-AConf
returns-in-AConf c = absurd (not_several (3 ∷ 4 ∷ 13 ∷ []) c.args.step.rule tt c.in-AConf.in-AConf-own.keys8 c.requires.ready_by.concludes)
