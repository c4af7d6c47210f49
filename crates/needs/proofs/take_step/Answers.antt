use Prim.Native.Nat.{◌+◌, ◌≤◌}
use native.Mathlib.Omega.{arith}
use mathlib.Core.Path.{◌≡◌, sym, ◌∙◌, ap, subst}
use mathlib.Core.Bool.{true}
use mathlib.Core.Option.{get_or}
use Rattle.calculus.specs.Children.{child_at}
use Rattle.format.specs.StepForms.{rule_of, form_for, rule, is_child}
use Rattle.format.proofs.Decoded.{at_least}
use Rattle.steps.specs.Rules.{rule_named, shape_of}
use Rattle.steps.proofs.Table.{least_four, fits_by}
use Rattle.needs.proofs.Taking.{enters_tree, its_child, child_small, enters_path}
use Rattle.needs.proofs.take_step.Goals as goal
use Rattle.needs.proofs.take_step.Goals.{After-rule_of-rule, After-taken_facts, Start}

-- its rule and its child field are there
long : (s : Start) → s.args.at + 6 + 4 ≤ s.args.at + 6 + s.args.size
long s =
    let r = rule s.args.ticket.now (s.args.at + 6) in
    omega (arith, at_least (form_for r) s.args.size s.requires.0.formed.fits, least_four r)

pub u16_at-requires : goal.u16_at-requires
u16_at-requires c = omega (arith, long (goal.at.u16_at-requires c).Start)

its-rule : (c : After-rule_of-rule) →
    let a = c.args in
    rule_named c.rule_of-rule.result ≡ rule a.ticket.now (a.at + 6)
its-rule c = c.rule_of-rule.ensures ∙ ap rule_of c.u16_at.ensures.0

pub enter-requires : goal.enter-requires
enter-requires c = (
  fits_by c.args.ticket.now (c.args.at + 6) c.args.size _ (its-rule (goal.at.enter-requires c).After-rule_of-rule) c.requires.0.formed.fits,
  c.requires.1,
  c.requires.2,
)

pub u16_at-k-requires : goal.u16_at-k-requires
u16_at-k-requires c = omega (arith, long (goal.at.u16_at-k-requires c).Start)

pub taken_facts-requires : goal.taken_facts-requires
taken_facts-requires c =
    fits_by c.args.ticket.now (c.args.at + 6) c.args.size _ (its-rule (goal.at.taken_facts-requires c).After-rule_of-rule) c.requires.0.formed.fits

-- as many facts as its shape says
adds : (c : After-taken_facts) →
    let a = c.args in
    let b = a.ticket.now in
    c.taken_facts.result ≡ get_or (child_at (shape_of c.rule_of-rule.result a.s.n b (a.at + 6) a.size) c.u16_at-k.result) 0
adds c =
    let a = c.args in
    let b = a.ticket.now in
    let r = c.rule_of-rule.result in
    c.taken_facts.ensures b (a.at + 6)
    (subst (λ k. is_child (shape_of r a.s.n b (a.at + 6) a.size) k ≡ true) (sym c.u16_at-k.ensures.0)
    (its_child a.claim b a.s a.at a.size r c.requires.0 (its-rule (goal.at.After-taken_facts c).After-rule_of-rule) c.in-Strings.is))

pub overflow_add-result : goal.overflow_add-result
overflow_add-result c =
    let a = c.args in
    let b = a.ticket.now in
    omega (arith, c.requires.1, adds c, child_small a.claim b a.s a.at a.size c.rule_of-rule.result c.requires.0 (its-rule (goal.at.overflow_add-result c).After-rule_of-rule) c.u16_at-k.result)

pub returns-in-NoSolution : goal.returns-in-NoSolution
returns-in-NoSolution c =
    let a = c.args in
    let b = a.ticket.now in
    enters_tree a.claim b a.s a.at a.size c.rule_of-rule.result c.requires.0 (its-rule (goal.at.returns-in-NoSolution c).After-rule_of-rule) a.facts
    a.pending.now _ _ c.in-NoSolution.is (c.enter.ensures b (a.at + 6))

pub returns-in-Strings : goal.returns-in-Strings
returns-in-Strings c =
    let a = c.args in
    enters_path a.claim a.ticket.now a.s a.at a.size c.rule_of-rule.result c.requires.0 (its-rule (goal.at.returns-in-Strings c).After-rule_of-rule) a.facts c.u16_at-k.result _
    a.pending.now c.in-Strings.is c.u16_at-k.ensures.0 (adds c)
