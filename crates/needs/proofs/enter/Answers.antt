use Prim.Native.Nat.{ℕ, ◌+◌, ◌-◌, ◌≤◌}
use native.Mathlib.Omega.{arith}
use mathlib.Core.Path.{◌≡◌, sym, ◌∙◌, ap, ap₂}
use mathlib.Core.List.{List, [], ◌∷◌}
use lib.ListN.{length, get_or}
use Rattle.lists.proofs.Lists.{all_get_d}
use Rattle.calculus.specs.Walk.{working}
use Rattle.calculus.proofs.Shapes.{shape_small, shape_alike}
use Rattle.format.specs.StepForms.{step_of}
use Rattle.steps.specs.declared.Rule.{Rule}
use Rattle.steps.specs.Rules.{rule_named, shape_of}
use Rattle.steps.proofs.Children.{few_by}
use Rattle.needs.specs.Pending.{waiting}
use Rattle.needs.proofs.Stacks.{enter_none, enter_one, enter_more}
use Rattle.needs.proofs.enter.Goals as goal
use Rattle.needs.proofs.enter.Goals.{After-child_facts, After-child_facts-2}

pub returns-then-children-eq0 : goal.returns-then-children-eq0
returns-then-children-eq0 c =
    let cut = c.take_next in
    let a = c.args in
    let ss = a.pending.now in
    λ b body. cut.ensures ∙ enter_none a.facts ss (shape_of a.rule a.n b body a.size) (sym (c.child_count-children.ensures b body) ∙ c.if-children-eq0.true)

-- no child adds more than three facts
small_by : (r : Rule) (n m k : ℕ) → get_or (shape_of r n [] 0 m) k 0 ≤ 3
small_by r n m k = all_get_d (λ j. j ≤ 3) (shape_of r n [] 0 m) k 0 (omega arith) (shape_small n (step_of [] (rule_named r) 0 m))

-- the first child adds as many as the shape says, whatever the bytes
first-for : (c : After-child_facts) (b : List ℕ) (body : ℕ) →
    let a = c.args in
    c.child_facts.result ≡ get_or (shape_of a.rule a.n b body a.size) 0 0
first-for c b body =
    let a = c.args in
    c.child_facts.ensures b a.n body a.size (omega arith) (omega (arith, c.child_count-children.ensures b body, c.if-children-eq0.false))

first_is : (c : After-child_facts) →
    let a = c.args in
    c.child_facts.result ≡ get_or (shape_of a.rule a.n [] 0 a.size) 0 0
first_is c = first-for c [] 0

pub overflow_add-first : goal.overflow_add-first
overflow_add-first c =
    omega (arith, c.requires.1, small_by c.args.rule c.args.n c.args.size 0, first_is c)

pub returns-then-children-eq1 : goal.returns-then-children-eq1
returns-then-children-eq1 c =
    let a = c.args in
    let ss = a.pending.now in
    λ b body.
    let cs = shape_of a.rule a.n b body a.size in
    ap (λ k. working (a.facts + k) ss) (first-for (goal.at.returns-then-children-eq1 c).After-child_facts b body)
    ∙ enter_one a.facts ss cs (sym (c.child_count-children.ensures b body) ∙ c.if-children-eq1.true)

-- there are two children at least, and the second adds as many
several : (c : After-child_facts-2) (b : List ℕ) (body : ℕ) →
    let a = c.args in
    2 ≤ length (shape_of a.rule a.n b body a.size)
several c b body = omega (arith, c.child_count-children.ensures b body, c.if-children-eq0.false, c.if-children-eq1.false)

second-for : (c : After-child_facts-2) (b : List ℕ) (body : ℕ) →
    let a = c.args in
    c.child_facts-2.result ≡ get_or (shape_of a.rule a.n b body a.size) 1 0
second-for c b body =
    let a = c.args in
    c.child_facts-2.ensures b a.n body a.size (omega arith) (omega (arith, several c b body))

pub overflow_cast-child_facts : goal.overflow_cast-child_facts
overflow_cast-child_facts c =
    let a = c.args in
    omega (arith, small_by a.rule a.n a.size 1, second-for (goal.at.overflow_cast-child_facts c).After-child_facts-2 [] 0)

pub overflow_cast-children : goal.overflow_cast-children
overflow_cast-children c =
    let a = c.args in
    omega (arith, few_by [] a.n 0 a.size (rule_named a.rule) c.requires.0, c.child_count-children.ensures [] 0)

pub returns : goal.returns
returns c =
    let a = c.args in
    let ss = a.pending.now in
    λ b body.
    let cs = shape_of a.rule a.n b body a.size in
    ap (working (a.facts + c.child_facts.result)) c.push.ensures
    ∙ ap₂ (λ k w. working (a.facts + k) (w ∷ ss)) (first-for (goal.at.returns c).After-child_facts b body)
    (ap₂ (λ f m. waiting (record { mark = a.facts; facts = f; more = m })) (second-for (goal.at.returns c).After-child_facts-2 b body) (ap (λ k. k - 2) (c.child_count-children.ensures b body)))
    ∙ enter_more a.facts ss cs (shape_alike a.n (step_of b (rule_named a.rule) body a.size)) (several (goal.at.returns c).After-child_facts-2 b body)
