use Prim.Native.Nat.{◌+◌, ◌<◌, ◌≤◌, ℕ}
use borrow.Author.Rules.{rules}
use lib.IntN.{ℤ}
use lib.ListN.{length}
use mathlib.Core.Bool.{true}
use mathlib.Core.List.{List, [], ◌++◌, ◌∷◌}
use mathlib.Core.Option.{Option}
use mathlib.Core.Path.{◌∙◌, ◌≡◌, ap, sym}
use native.Mathlib.Omega.{arith}
use Rattle.question.specs.Posed.{numbered}
use Rattle.calculus.specs.Limits.{fact_limit}
use Rattle.calculus.specs.Facts.{Fact}
use Rattle.calculus.specs.Children.{child_at, c_valid_children}
use Rattle.format.specs.Fields.{u16}
use Rattle.format.specs.Checking.{fits, or_none, child_in}
use Rattle.question.proofs.Posed.{some_character}
use Rattle.rows.specs.Rows.{branch_of}
use Rattle.rows.specs.Work.{Fine}
use Rattle.rows.proofs.Branches.{length_branch}
use Rattle.rows.proofs.Small.{fine_added}
use Rattle.steps.specs.declared.Rule.{Rule}
use Rattle.steps.specs.Rules.{rule_named, one_each}
use Rattle.steps.proofs.Bodies.{before, given, c_valid_variable, is_rule, shape_by}
use Rattle.steps.proofs.Children.{adds_one}
use Rattle.steps.proofs.Offered.{step_fits, number_of, in_shape, child_size, its_shape, taken_fits, taken_within, taken_room}
use Rattle.steps.proofs.Rules.{passes, not_several}
use Rattle.splits.proofs.Forms.{c_valid_count, c_valid_size}
use Rattle.splits.proofs.Operands.{c_valid_child}
use Rattle.splits.proofs.put_child.Goals as goal
use Rattle.splits.proofs.put_child.Goals.{Start}

-- child k, which is there
abbrev taken : (s : Start) → Option (List Fact)
taken s = child_in (given s.requires.ready_by.ready) s.args.k

there : (s : Start) → fits (taken s) ≡ true
there s = taken_fits (before s.requires.ready_by.ready) (taken s) s.requires.k_value

-- it finds room
roomy : (s : Start) → s.args.count + length (or_none (taken s)) ≤ fact_limit
roomy s = omega (arith, length_branch s.args.work.now s.args.count, taken_room (before s.requires.ready_by.ready) (taken s) s.requires.k_value)

-- after its facts the rows are fine
fine : (s : Start) (v : List ℤ) (r : ℕ) → length v ≡ length s.args.work.now → branch_of v r ≡ before s.requires.ready_by.ready ++ or_none (taken s) → Fine v r
fine s v r l e =
    let h = s.requires.ready_by.ready in
    fine_added s.args.work.now v s.args.count r (or_none (taken s)) h.fine l e (taken_room (before h) (taken s) s.requires.k_value)
    (taken_within (before h) (taken s) s.requires.k_value)

pub u16_at-requires : goal.u16_at-requires
u16_at-requires c =
    (c_valid_variable c.requires.ready_by.ready (is_rule c.requires.ready_by _ c.in-CValid.is)).0

pub put_c_valid-requires : goal.put_c_valid-requires
put_c_valid-requires c =
    let b = c.args.ticket.now in
    let h = c.requires.ready_by.ready in
    let e = is_rule c.requires.ready_by _ c.in-CValid.is in
    let x : c.u16_at.result ≡ u16 b (c.args.step.body + 4) = c.u16_at.ensures.0 in
    let l : u16 b (c.args.step.body + 4) < c.args.s.p = (c_valid_variable h e).1 in
    let stands = h.posed.stands in
    let few = stands.few_strings in
    let o = c_valid_child h e in
    let n = number_of (given h) c.args.k (there (goal.at.put_c_valid-requires c).Start) _ o in
    let two : c.args.k ≤ 2 = omega (arith, n.1, c_valid_count c.args.s (u16 b (c.args.step.body + 4))) in
    let size =
    ap (λ (p : Option (List (List Fact))). length (or_none (child_in p c.args.k))) o
    ∙ c_valid_size c.args.s (u16 b (c.args.step.body + 4)) c.args.k n.0 two in
    record {
      k_bound = (omega (arith, size, roomy (goal.at.put_c_valid-requires c).Start), h.fine.room, n.0, two, omega arith);
      p_le_variable_limit = (few, stands.few_integers, some_character h.posed, stands.few_characters);
    }

pub put_fact-requires : goal.put_fact-requires
put_fact-requires c =
    let here = (goal.at.put_fact-requires c).Start in
    let a = c.args in
    let h = c.requires.ready_by.ready in
    let fit = step_fits (given h) a.k (there here) in
    let shaped = its_shape h fit ∙ sym (shape_by c.requires.ready_by a.s.n) in
    let (l, g) = in_shape (given h) a.k (there here) _ shaped in
    let each = passes (λ (r : Rule). one_each (rule_named r)) (1 ∷ 2 ∷ 7 ∷ 10 ∷ 11 ∷ []) a.step.rule tt c.in-Branch.in-Branch-own.keys2 in
    let one =
    adds_one a.ticket.now a.s.n a.step.body a.step.size (rule_named a.step.rule) a.k each l g
    ∙ child_size (given h) a.k (there here) _ shaped in
    record {
      ready_by = c.requires.ready_by;
      rule_value = (each, omega (arith, one, roomy here));
      k_value = there here;
    }

pub returns-in-CValid : goal.returns-in-CValid
returns-in-CValid c =
    let br = before c.requires.ready_by.ready in
    let e = is_rule c.requires.ready_by _ c.in-CValid.is in
    let added =
    c.put_c_valid.ensures
    ∙ ap (λ (n : ℕ). br ++ or_none (child_at (c_valid_children (numbered c.args.s) n) c.args.k)) c.u16_at.ensures.0
    ∙ ap (λ (o : Option (List (List Fact))). br ++ or_none (child_in o c.args.k)) (sym (c_valid_child c.requires.ready_by.ready e)) in
    record {
      added = added;
      fine = fine (goal.at.returns-in-CValid c).Start _ _ (search rules) added;
    }

pub returns-in-Branch : goal.returns-in-Branch
returns-in-Branch c = record {
  added = c.put_fact.ensures;
  fine = fine (goal.at.returns-in-Branch c).Start _ _ (search rules) c.put_fact.ensures;
}

pub returns-in-Sum : goal.returns-in-Sum
returns-in-Sum c = absurd (not_several (0 ∷ 5 ∷ 6 ∷ 8 ∷ 12 ∷ []) c.args.step.rule tt c.in-Sum.in-Sum-own.keys3 c.requires.ready_by.concludes)

pub returns-in-AConf : goal.returns-in-AConf
returns-in-AConf c = absurd (not_several (3 ∷ 4 ∷ 13 ∷ []) c.args.step.rule tt c.in-AConf.in-AConf-own.keys4 c.requires.ready_by.concludes)
