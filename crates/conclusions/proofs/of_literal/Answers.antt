use Prim.Native.Nat.{ℕ, ◌+◌, ◌≤◌}
use borrow.Author.Rules.{rules}
use Rattle.std.proofs.Common.{Some, None}
use Rattle.std.proofs.lemmas.Result.{err_from_is_err_and}
use Rattle.faults.specs.declared.Fault.TheVariants.{DoesNotFit}
use lib.IntN.{neg_ℤ, pos, ℤ}
use mathlib.Core.Bool.{true}
use mathlib.Core.List.{List, [], ◌∷◌, ◌++◌}
use mathlib.Core.Option.{some}
use mathlib.Core.Path.{◌∙◌, ◌≡◌, ap, sym}
use mir.Facts.{to_z-of_z}
use mir.Syntax.{w64}
use native.Mathlib.Omega.{arith}
use Rattle.calculus.specs.Children.{one}
use Rattle.calculus.specs.Classes.{lowest_literal}
use Rattle.calculus.specs.Facts.{arithmetic, eq, literal, value_of}
use Rattle.classes.proofs.Laws.{literal_below}
use Rattle.classes.specs.Classes.{literal_of}
use Rattle.conclusions.proofs.Laws.{literal_adds, literal_none}
use Rattle.conclusions.proofs.Limits.{literal_within}
use Rattle.conclusions.proofs.Tried.{concluded, eight, ten}
use Rattle.conclusions.specs.Made.{of_literal}
use Rattle.format.specs.Checking.{fact_within}
use Rattle.format.specs.StepForms.{function_of}
use Rattle.question.proofs.Posed.{literals_to}
use Rattle.question.specs.Posed.{asked}
use Rattle.rows.specs.Rows.{branch_of}
use Rattle.rows.specs.Work.{single}
use Rattle.conclusions.proofs.of_literal.Goals as goal
use Rattle.conclusions.proofs.of_literal.Goals.{After-column_of-column, After-negative_of_text-constant, In_ok-l, Start}

-- the labels, which are lent on
abbrev labelsOf : Start → List ℕ
labelsOf s = s.args.labels

-- the literal that was found
found-is : (c : In_ok-l) →
    let a = c.args in
    lowest_literal (labelsOf (goal.at.In_ok-l c).Start) a.x 0 (a.s.literals + 1) ≡ some c.in_ok-l.l
unfolding literal_of
found-is c =
    let e : c.class_literal.result ≡ Some c.in_ok-l.l = grind arith in
    sym c.class_literal.ensures ∙ ap literal_of e

few : (c : In_ok-l) →
    let a = c.args in
    c.in_ok-l.l ≤ a.s.literals
few c =
    let a = c.args in
    omega (arith, literal_below (labelsOf (goal.at.In_ok-l c).Start) a.x (a.s.literals + 1) c.in_ok-l.l (found-is c))

-- the constant
constant_is : (c : After-negative_of_text-constant) →
    let a = c.args in
    c.negative_of_text-constant.result
    ≡ neg_ℤ (value_of (function_of a.function) (literal (asked a.ticket.now a.s) c.in_ok-l.l))
unfolding asked
constant_is c =
    let a = c.args in
    c.negative_of_text-constant.ensures
    ∙ ap (λ (t : List ℕ). neg_ℤ (value_of (function_of a.function) t))
    (c.literal_text-text.ensures.1 a.s.literals (few (goal.at.After-negative_of_text-constant c).In_ok-l))

-- the fact by its column and its constant
adds : (c : After-column_of-column) →
    let a = c.args in
    of_literal a.ticket.now a.s a.work.now a.count a.function a.x
    ≡ some (one (arithmetic eq (single c.negative_of_text-constant.result c.column_of-column.result (pos 1))))
adds c =
    let a = c.args in
    literal_adds a.ticket.now a.s (branch_of a.work.now a.count) (labelsOf (goal.at.After-column_of-column c).Start) a.x c.requires.labels_value a.function
    c.in_ok-l.l
    c.column_of-column.result c.negative_of_text-constant.result (found-is (goal.at.After-column_of-column c).In_ok-l) c.column_of-column.ensures.0
    c.column_of-column.ensures.1
    (constant_is (goal.at.After-column_of-column c).After-negative_of_text-constant)

small : (c : After-column_of-column)
    → fact_within (arithmetic eq (single c.negative_of_text-constant.result c.column_of-column.result (pos 1))) ≡ true
small c =
    literal_within c.requires.posed.0 (function_of c.args.function) c.in_ok-l.l c.column_of-column.result
    c.negative_of_text-constant.result (few (goal.at.After-column_of-column c).In_ok-l)
    (constant_is (goal.at.After-column_of-column c).After-negative_of_text-constant)

pub literal_text-text-requires : goal.literal_text-text-requires
literal_text-text-requires c =
    literals_to c.requires.posed.0 c.in_ok-l.l (few c)

pub returns-then-count-ge-FACT_LIMIT : goal.returns-then-count-ge-FACT_LIMIT
returns-then-count-ge-FACT_LIMIT c =
    let a = c.args in
    ten a.work.now _ a.count _ _ (adds (goal.at.returns-then-count-ge-FACT_LIMIT c).After-column_of-column)
    (small (goal.at.returns-then-count-ge-FACT_LIMIT c).After-column_of-column) c.if-count-ge-FACT_LIMIT.true

pub returns-in_err-l : goal.returns-in_err-l
unfolding literal_of
returns-in_err-l c =
    let a = c.args in
    let none : c.class_literal.result ≡ None = grind arith in
    let fault : c.in_err-l.field-0.0 ≡ DoesNotFit = grind arith in
    let p = err_from_is_err_and c.from_residual.result c.from_residual.ensures.1 in
    rw (p.1, p.2, fault) (eight a.work.now _ a.count _
    (literal_none a.ticket.now a.s (branch_of a.work.now a.count) (labelsOf (goal.at.returns-in_err-l c).Start) a.x c.requires.labels_value
    (function_of a.function)
    (sym c.class_literal.ensures ∙ ap literal_of none)))

pub returns : goal.returns
returns c =
    let constant = c.negative_of_text-constant in
    let a = c.args in
    concluded a.work.now _ a.count _ _ (adds (goal.at.returns c).After-column_of-column)
    (small (goal.at.returns c).After-column_of-column) c.requires.posed.1 (omega (arith, c.if-count-ge-FACT_LIMIT.false))
    (search rules)
    (c.put_single.ensures
    ∙ ap (λ (z : ℤ). branch_of a.work.now a.count ++ (arithmetic eq (single z c.column_of-column.result (pos 1)) ∷ []))
    (to_z-of_z {w = w64} (record { sfits = constant.type_inv })))
