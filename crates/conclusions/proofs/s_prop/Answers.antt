use Prim.Native.Nat.{ℕ}
use borrow.Author.Rules.{rules}
use borrow.Author.Tests.{not-false, not-true}
use lib.IntN.{ℤ}
use mathlib.Core.Bool.{Bool}
use mathlib.Core.List.{List}
use mathlib.Core.Option.{some}
use mathlib.Core.Path.{◌∙◌, ◌≡◌, ap, ap₂, sym}
use native.Mathlib.Omega.{arith}
use Rattle.calculus.specs.Chains.{var_node}
use Rattle.calculus.specs.Children.{one}
use Rattle.calculus.specs.Classes.{labels, same_class}
use Rattle.calculus.specs.Facts.{Question, arithmetic, eq}
use Rattle.calculus.specs.Rules.{children}
use Rattle.calculus.specs.Steps.{SProp}
use Rattle.conclusions.proofs.Laws.{s_prop_adds, s_prop_other_class, s_prop_same}
use Rattle.conclusions.proofs.Tried.{concluded, eight, ten}
use Rattle.question.specs.Columns.{column_at}
use Rattle.format.specs.StepForms.{function_of}
use Rattle.rows.proofs.Small.{within_difference}
use Rattle.rows.specs.Rows.{branch_of}
use Rattle.rows.specs.Work.{difference}
use Rattle.conclusions.proofs.s_prop.Goals as goal
use Rattle.conclusions.proofs.s_prop.Goals.{After-column_of-other, After-one_class, then-x-y-via-then-x-y, then-x-y-via-else-x-y+then-not-one_class}

-- the test of the classes
tested : {ls : List ℕ} {t : Bool} (w : List ℤ) (count x y : ℕ)
    → ls ≡ labels (branch_of w count)
    → t ≡ same_class ls (var_node x) (var_node y)
    → t ≡ same_class (labels (branch_of w count)) (var_node x) (var_node y)
tested w count x y l e = e ∙ ap (λ (ls : List ℕ). same_class ls (var_node x) (var_node y)) l

one-class-is : (c : After-one_class) →
    let a = c.args in
    c.one_class.result ≡ same_class (labels (branch_of a.work.now a.count)) (var_node a.x) (var_node a.y)
one-class-is c = tested c.args.work.now c.args.count c.args.x c.args.y c.requires.labels_value c.one_class.ensures

-- the fact by its columns, where the step fits
adds : (c : After-column_of-other) →
    let a = c.args in
    (u : Question)
    → u.p ≡ a.p
    → u.q ≡ a.q
    → children u (branch_of a.work.now a.count) (SProp (function_of a.function) a.x a.y)
    ≡ some (one (arithmetic eq (difference c.column_of-column.result c.column_of-other.result)))
adds c u same-p same-q =
    let column = c.column_of-column in
    let other = c.column_of-other in
    let if1 = c.if-x-y in
    let a = c.args in
    s_prop_adds u (branch_of a.work.now a.count) a.function a.x a.y column.result other.result if1.false
    (sym (one-class-is (goal.at.After-column_of-other c).After-one_class) ∙ not-false _ c.if-not-one_class.false-raw)
    (column.ensures.0 ∙ ap₂ (λ (p q : ℕ). column_at p q a.function a.x) (sym same-p) (sym same-q))
    (other.ensures.0 ∙ ap₂ (λ (p q : ℕ). column_at p q a.function a.y) (sym same-p) (sym same-q))
    column.ensures.1 other.ensures.1

pub returns-then-x-y : goal.returns-then-x-y
returns-then-x-y c =
    let a = c.args in
    let w = a.work.now in
    λ (u : Question) (same-p : u.p ≡ a.p) (same-q : u.q ≡ a.q). eight w _ a.count _
    (elim c.then-x-y.branch [
      | then-x-y-via-then-x-y t ↦ s_prop_same u (branch_of w a.count) (function_of a.function) a.x a.y t.if-x-y.true
      | then-x-y-via-else-x-y+then-not-one_class t ↦
          s_prop_other_class u (branch_of w a.count) (function_of a.function) a.x a.y t.if-x-y.false
          (sym (tested w a.count a.x a.y c.requires.labels_value t.one_class.ensures) ∙ not-true _ t.if-not-one_class.true-raw)
    ])

pub returns-then-count-ge-FACT_LIMIT : goal.returns-then-count-ge-FACT_LIMIT
returns-then-count-ge-FACT_LIMIT c =
    let a = c.args in
    λ (u : Question) (same-p : u.p ≡ a.p) (same-q : u.q ≡ a.q). ten a.work.now _ a.count _ _ (adds (goal.at.returns-then-count-ge-FACT_LIMIT c).After-column_of-other u same-p same-q)
    (within_difference _ _) c.if-count-ge-FACT_LIMIT.true

pub returns : goal.returns
returns c =
    let a = c.args in
    λ (u : Question) (same-p : u.p ≡ a.p) (same-q : u.q ≡ a.q). concluded a.work.now _ a.count _ _ (adds (goal.at.returns c).After-column_of-other u same-p same-q)
    (within_difference _ _) c.requires.fine.0 (omega (arith, c.if-count-ge-FACT_LIMIT.false)) (search rules) c.put_difference.ensures
