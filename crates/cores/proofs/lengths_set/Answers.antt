use Prim.Native.Nat.{ℕ}
use mathlib.Core.Path.{◌∙◌, ◌≡◌, ap, ap₂, sym}
use native.Mathlib.Omega.{arith}
use Rattle.std.specs.Prelude.{Option}
use Rattle.calculus.specs.Cores.{Rested, facts, found_set, lengths_set}
use Rattle.calculus.specs.Facts.{Branch}
use Rattle.calculus.specs.Rules.{lowest_difference}
use Rattle.cores.specs.Sets.{Stands}
use Rattle.cores.specs.Words.{words_of}
use Rattle.question.specs.Columns.{column_at}
use Rattle.question.specs.Posed.{numbered}
use Rattle.rows.specs.Searches.{number_in}
use Rattle.cores.proofs.lengths_set.Goals as goal
use Rattle.cores.proofs.lengths_set.Goals.{After-lowest_difference}

pub returns-then-x-y : goal.returns-then-x-y
returns-then-x-y c = λ r h n. absurd (n c.if-x-y.true)

pub lowest_difference-requires : goal.lowest_difference-requires
unfolding column_at
lowest_difference-requires c =
    let i = c.column_of-i in
    let j = c.column_of-j in
    let ei = i.ensures.0 in
    let ej = j.ensures.0 in record {
      count_le_fact_limit = (c.requires.count_le_fact_limit.0, c.requires.count_le_fact_limit.1);
      i_lt_column_limit = (i.ensures.1, j.ensures.1, λ q. c.if-x-y.false (omega arith));
    }

-- what the search gave, by the variables
found : (c : After-lowest_difference) (r : Rested) → Stands c.args.work.now c.args.sets.now c.args.count r
    → found_set r (number_in c.lowest_difference.result) ≡ lengths_set (numbered c.args.s) r c.args.x c.args.y
unfolding column_at
found c r h =
    ap (found_set r)
    (c.lowest_difference.ensures
    ∙ ap (λ (b : Branch). lowest_difference b c.column_of-i.result c.column_of-j.result) (sym h.rows)
    ∙ ap₂ (λ (i j : ℕ). lowest_difference (facts r) i j) c.column_of-i.ensures.0 c.column_of-j.ensures.0)

pub returns-in-Some : goal.returns-in-Some
returns-in-Some c = λ r h n.
    c.fact_set.ensures r h.carried
    ∙ ap (λ (e : Option ℕ). words_of (found_set r (number_in e))) (sym c.in-Some.is)
    ∙ ap words_of (found (goal.at.returns-in-Some c).After-lowest_difference r h)

pub returns-in-None : goal.returns-in-None
returns-in-None c = λ r h n.
    c.no_constraint-in-None.ensures
    ∙ ap (λ (e : Option ℕ). words_of (found_set r (number_in e))) (sym c.in-None.is)
    ∙ ap words_of (found (goal.at.returns-in-None c).After-lowest_difference r h)
