use Prim.Native.Nat.{◌+◌, ◌≤◌, ℕ}
use borrow.Author.Rules.{rules}
use mathlib.Core.List.{List, [], ◌∷◌}
use mathlib.Core.Path.{◌∙◌, ◌≡◌, ap, ap₂, refl, sym}
use native.Mathlib.Omega.{arith}
use Rattle.calculus.specs.Cores.{equates, rests_on, separates, set_at, sets_of}
use Rattle.conclusions.proofs.Labels.{asks}
use Rattle.conclusions.specs.Labels.{asks_classes}
use Rattle.cores.proofs.Laws.{words_union}
use Rattle.cores.proofs.Resting.{card_differ, card_rests, rests_by, sum_operands}
use Rattle.cores.specs.Words.{union_of, words_of}
use Rattle.cores.specs.declared.Unions.{Unions}
use Rattle.format.specs.Fields.{u16, u16s}
use Rattle.format.specs.StepForms.{are_variables, form_for, join, rule, s_conf, step_of, sum}
use Rattle.question.specs.Posed.{asked}
use Rattle.steps.proofs.Bodies.{long, not_unknown}
use Rattle.steps.proofs.Rules.{in_arm, passes}
use Rattle.steps.proofs.Variables.{recount, card_operands}
use Rattle.steps.specs.Rules.{rule_named}
use Rattle.steps.specs.declared.Rule.{Rule}
use Rattle.cores.proofs.step_set.Goals as goal
use Rattle.cores.proofs.step_set.Goals.{Start}

is_rule : (s : Start) (q : Rule) → s.args.step.rule ≡ q → rule_named q ≡ rule s.args.ticket.now s.args.step.body
is_rule s q e = sym (ap rule_named e) ∙ s.requires.1

pub enum_told-1 : goal.enum_told-1
enum_told-1 c = search rules

pub overflow_sub-size : goal.overflow_sub-size
overflow_sub-size c =
    (sum_operands c.requires.0 (is_rule (goal.at.overflow_sub-size c).Start _ c.in-Sum.is)).0

pub named_sets-requires : goal.named_sets-requires
named_sets-requires c =
    ((sum_operands c.requires.0 (is_rule (goal.at.named_sets-requires c).Start _ c.in-Sum.is)).1, c.requires.0.fine.few, c.requires.2)

pub u16_at-requires : goal.u16_at-requires
u16_at-requires c =
    let h = c.requires.0 in
    let six = in_arm (λ (q : Rule). (form_for (rule_named q)).least ≡ 6) (2 ∷ 3 ∷ []) c.args.step.rule (refl, (refl, tt)) c.in-Apart.in-Apart-own.keys2 in
    omega (arith, six, long h (rule_named c.args.step.rule) c.requires.1, h.formed.within)

pub overflow_sub-size-in-Card : goal.overflow_sub-size-in-Card
overflow_sub-size-in-Card c =
    (card_operands c.requires.0 (is_rule (goal.at.overflow_sub-size-in-Card c).Start _ c.in-Card.is)).4

pub overflow_sub-size-in-Card-2 : goal.overflow_sub-size-in-Card-2
overflow_sub-size-in-Card-2 c =
    let two = (card_operands c.requires.0 (is_rule (goal.at.overflow_sub-size-in-Card-2 c).Start _ c.in-Card.is)).0 in omega arith

pub neighbour_sets-requires : goal.neighbour_sets-requires
neighbour_sets-requires c =
    let h = c.requires.0 in
    let (two, _, whole, variables, _) = card_operands h (is_rule (goal.at.neighbour_sets-requires c).Start _ c.in-Card.is) in
    let few = h.posed.stands in
    let all = ap (λ (n : ℕ). are_variables c.args.s.p (u16s c.args.ticket.now (c.args.step.body + 4) n)) (recount _ (omega arith)) ∙ variables in
    record {
      others_in_bounds = (omega arith, few.few_strings, few.few_integers);
      others_value = all;
      count_le_fact_limit = (h.fine.few, h.fine.room, c.requires.2);
    }

pub u16_at-requires-in-Join : goal.u16_at-requires-in-Join
u16_at-requires-in-Join c =
    let long : 8 ≤ c.args.step.size = long c.requires.0 join (is_rule (goal.at.u16_at-requires-in-Join c).Start _ c.in-Join.is) in
    omega (arith, c.requires.0.formed.within)

pub u16_at-requires-in-Join-2 : goal.u16_at-requires-in-Join-2
u16_at-requires-in-Join-2 c =
    let long : 8 ≤ c.args.step.size = long c.requires.0 join (is_rule (goal.at.u16_at-requires-in-Join-2 c).Start _ c.in-Join.is) in
    omega (arith, c.requires.0.formed.within)

pub returns-in-Sum : goal.returns-in-Sum
unfolding rests_on step_of
returns-in-Sum c = λ r h n f.
    let a = c.args in
    let b = a.ticket.now in
    c.named_sets.ensures r h.carried
    ∙ ap words_of (rests_by b (asked b a.s) r a.step.body a.step.size sum (is_rule (goal.at.returns-in-Sum c).Start _ c.in-Sum.is))

pub returns-in-Apart : goal.returns-in-Apart
unfolding rests_on step_of
returns-in-Apart c = λ r h n f.
    let a = c.args in
    let b = a.ticket.now in
    let u = asked b a.s in
    c.fact_set.ensures r h.carried
    ∙ ap (λ (k : ℕ). words_of (set_at r k)) c.u16_at.ensures.0
    ∙ ap words_of
    (in_arm (λ (q : Rule). set_at r (u16 b (a.step.body + 4)) ≡ rests_on u r (step_of b (rule_named q) a.step.body a.step.size)) (2 ∷ 3 ∷ []) a.step.rule (refl, (refl, tt))
    c.in-Apart.in-Apart-own.keys2
    ∙ rests_by b u r a.step.body a.step.size (rule_named a.step.rule) c.requires.1)

pub returns-in-SConf : goal.returns-in-SConf
unfolding rests_on step_of
returns-in-SConf c = λ r h n f.
    let a = c.args in
    let b = a.ticket.now in
    let told = c.in-SConf.is in
    c.bitor.ensures
    ∙ ap (λ (x : Unions). union_of x.equates x.separates) (n (asks _ _ told refl))
    ∙ sym (words_union (sets_of equates r) (sets_of separates r))
    ∙ ap words_of (rests_by b (asked b a.s) r a.step.body a.step.size s_conf (is_rule (goal.at.returns-in-SConf c).Start _ told))

pub returns-in-SProp : goal.returns-in-SProp
unfolding rests_on step_of
returns-in-SProp c = λ r h n f.
    let a = c.args in
    let b = a.ticket.now in
    let u = asked b a.s in
    let keys = c.in-SProp.in-SProp-own.keys4 in
    let arm : List ℕ = 5 ∷ 6 ∷ 8 ∷ [] in
    ap (λ (x : Unions). x.equates) (n (passes (λ (q : Rule). asks_classes (rule_named q)) arm a.step.rule tt keys))
    ∙ ap words_of
    (in_arm (λ (q : Rule). sets_of equates r ≡ rests_on u r (step_of b (rule_named q) a.step.body a.step.size)) arm a.step.rule (refl, (refl, (refl, tt))) keys
    ∙ rests_by b u r a.step.body a.step.size (rule_named a.step.rule) c.requires.1)

pub returns-in-Card : goal.returns-in-Card
returns-in-Card c = λ r h n f.
    let e = is_rule (goal.at.returns-in-Card c).Start _ c.in-Card.is in
    card_rests c.requires.0 e r _ (c.neighbour_sets.ensures r h (card_differ c.requires.0 e f))

pub returns-in-Join : goal.returns-in-Join
unfolding rests_on step_of
returns-in-Join c = λ r h n f.
    let a = c.args in
    let b = a.ticket.now in
    let e : a.step.body + 4 + 2 ≡ a.step.body + 6 = omega arith in
    c.bitor-in-Join.ensures
    ∙ ap₂ union_of (c.fact_set-first.ensures r h.carried) (c.fact_set-second.ensures r h.carried)
    ∙ ap₂ (λ (j k : ℕ). union_of (words_of (set_at r j)) (words_of (set_at r k))) c.u16_at-in-Join.ensures.0
    (c.u16_at-in-Join-2.ensures.0 ∙ ap (u16 b) e)
    ∙ sym (words_union (set_at r (u16 b (a.step.body + 4))) (set_at r (u16 b (a.step.body + 6))))
    ∙ ap words_of (rests_by b (asked b a.s) r a.step.body a.step.size join (is_rule (goal.at.returns-in-Join c).Start _ c.in-Join.is))

pub returns-in-Branch : goal.returns-in-Branch
unfolding rests_on step_of
returns-in-Branch c = λ r h n f.
    let a = c.args in
    let b = a.ticket.now in
    let u = asked b a.s in
    c.no_constraint.ensures
    ∙ ap words_of
    (in_arm (λ (q : Rule). rule_named q ≡ rule b a.step.body → [] ≡ rests_on u r (step_of b (rule_named q) a.step.body a.step.size)) (1 ∷ 7 ∷ 9 ∷ 10 ∷ 13 ∷ []) a.step.rule
    (λ e. refl, (λ e. refl, (λ e. refl, (λ e. refl, (λ e. absurd (not_unknown c.requires.0 e), tt))))) c.in-Branch.in-Branch-own.keys7 c.requires.1
    ∙ rests_by b u r a.step.body a.step.size (rule_named a.step.rule) c.requires.1)
