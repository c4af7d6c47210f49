use Prim.Native.Nat.{◌+◌, ℕ}
use borrow.Author.Rules.{rules}
use borrow.Author.Tests.{not-false, not-true}
use lib.IntN.{ℤ}
use mathlib.Core.List.{List}
use mathlib.Core.Path.{◌∙◌, ◌≡◌, ap, sym}
use native.Mathlib.Omega.{arith}
use Rattle.calculus.specs.Facts.{Question}
use Rattle.conclusions.proofs.Forms.{SumBody, sum_body}
use Rattle.conclusions.proofs.Laws.{sum_adds, sum_none, sum_tag}
use Rattle.conclusions.proofs.Tried.{concluded, eight, nine, ten}
use Rattle.format.specs.Fields.{u32}
use Rattle.format.specs.StepForms.{sum_pairs}
use Rattle.rows.specs.Rows.{branch_of}
use Rattle.sums.specs.Sums.{fact_in, sum_fact}
use Rattle.conclusions.proofs.sum.Goals as goal
use Rattle.conclusions.proofs.sum.Goals.{After-shared_slice_known-1, After-sum_row}

-- the body by its fields
body : (c : After-shared_slice_known-1) → SumBody c.args.ticket.now c.args.body c.args.size
body c = sum_body c.args.ticket.now c.args.body c.args.size 0 0 c.requires.formed_sum.1 c.requires.formed_sum.2

-- the row that was filled, and its fact
abbrev row : (c : After-sum_row) → List ℤ
row c = c.sum_row.new.row

summed : (c : After-sum_row) →
    let a = c.args in
    fact_in c.sum_row.result (row c)
    ≡ sum_fact (branch_of a.work.now a.count) (u32 a.ticket.now (a.body + 4)) (sum_pairs a.ticket.now a.body a.size)
summed c =
    let a = c.args in
    c.sum_row.ensures
    ∙ ap (λ (d : ℕ). sum_fact (branch_of a.work.now a.count) d (sum_pairs a.ticket.now a.body a.size))
    c.u32_at-divisor.ensures.0

pub u32_at-divisor-requires : goal.u32_at-divisor-requires
u32_at-divisor-requires c = omega (arith, c.requires.formed_sum.0, (body c).some_pair)

pub overflow_sub-pairs : goal.overflow_sub-pairs
overflow_sub-pairs c = omega (arith, (body (goal.at.overflow_sub-pairs c).After-shared_slice_known-1).some_pair)

pub sum_row-requires : goal.sum_row-requires
sum_row-requires c =
    let u32-at = c.u32_at-divisor in
    let h = body (goal.at.sum_row-requires c).After-shared_slice_known-1 in
    let some_pair = h.some_pair in
    let few_pairs = h.few_pairs in record {
      row_value = search rules;
      le_pairs = (omega arith, omega arith, omega (arith, c.requires.formed_sum.0));
      le_divisor = (omega (arith, h.some_divisor, u32-at.ensures.0), omega (arith, h.small_divisor, u32-at.ensures.0));
      pairs_value = h.multipliers;
      fine = c.requires.fine;
    }

pub returns-then-not-sum_row : goal.returns-then-not-sum_row
returns-then-not-sum_row c =
    let a = c.args in
    λ (u : Question). eight a.work.now _ a.count _
    (sum_none u _ _ _ c.sum_row.result (row (goal.at.returns-then-not-sum_row c).After-sum_row) (summed (goal.at.returns-then-not-sum_row c).After-sum_row) (not-true _ c.if-not-sum_row.true-raw))

pub returns-then-fact_within : goal.returns-then-fact_within
returns-then-fact_within c =
    let a = c.args in
    λ (u : Question). ten a.work.now _ a.count _ _
    (sum_adds u _ _ _ c.sum_row.result (row (goal.at.returns-then-fact_within c).After-sum_row) (summed (goal.at.returns-then-fact_within c).After-sum_row) (not-false _ c.if-not-sum_row.false-raw))
    (sym c.fact_within.ensures ∙ c.if-fact_within.true) c.if-count-ge-FACT_LIMIT.true

pub returns-else-fact_within : goal.returns-else-fact_within
returns-else-fact_within c =
    let a = c.args in
    λ (u : Question). nine a.work.now _ a.count _ _
    (sum_adds u _ _ _ c.sum_row.result (row (goal.at.returns-else-fact_within c).After-sum_row) (summed (goal.at.returns-else-fact_within c).After-sum_row) (not-false _ c.if-not-sum_row.false-raw))
    (sym c.fact_within.ensures ∙ c.if-fact_within.false)

pub put_within-requires : goal.put_within-requires
put_within-requires c = (
  omega (arith, c.if-count-ge-FACT_LIMIT.false),
  c.requires.fine.room,
  sum_tag _ _ _ c.sum_row.result (row (goal.at.put_within-requires c).After-sum_row) (summed (goal.at.put_within-requires c).After-sum_row) (not-false _ c.if-not-sum_row.false-raw),
)

pub returns-then-put_within : goal.returns-then-put_within
returns-then-put_within c =
    let if2 = c.if-count-ge-FACT_LIMIT in
    let a = c.args in
    λ (u : Question). concluded a.work.now _ a.count _ _
    (sum_adds u _ _ _ c.sum_row.result (row (goal.at.returns-then-put_within c).After-sum_row) (summed (goal.at.returns-then-put_within c).After-sum_row) (not-false _ c.if-not-sum_row.false-raw))
    (sym c.put_within.ensures.value ∙ c.if-put_within.true) c.requires.fine (omega (arith, if2.false)) (search rules) (c.put_within.ensures.behind c.if-put_within.true)

pub returns-else-put_within : goal.returns-else-put_within
returns-else-put_within c =
    let a = c.args in
    λ (u : Question). nine a.work.now _ a.count _ _
    (sum_adds u _ _ _ c.sum_row.result (row (goal.at.returns-else-put_within c).After-sum_row) (summed (goal.at.returns-else-put_within c).After-sum_row) (not-false _ c.if-not-sum_row.false-raw))
    (sym c.put_within.ensures.value ∙ c.if-put_within.false)
