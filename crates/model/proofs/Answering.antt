-- The table that the strings are given in is the answer of the leaf.
use Prim.Native.Nat.{ℕ, ◌≤◌}
use native.Mathlib.Omega.{arith}
use mathlib.Core.Path.{◌≡◌, ◌∙◌, ap}
use mathlib.Core.List.{List}
use lib.ListN.{length, take, length-take}
use lib.Seq.{length-take-le}
use lib.IntN.{ℤ}
use Rattle.calculus.specs.Facts.{Branch, column_count}
use Rattle.calculus.specs.Strings.{strings}
use Rattle.format.specs.Checking.{answer_of}
use Rattle.answer.specs.Table.{table_strings, table_answer, Integers}
use Rattle.question.specs.declared.Progress.{Progress}
use Rattle.question.specs.Posed.{asked, numbered}
use Rattle.model.specs.Settled.{values, Writable, Answers}

module _ (b places : List ℕ) (s : Progress) (held : List ℤ) (w : Writable b places s held) where
  -- the model has a number for each column
  columns_there : column_count (numbered s) ≤ length held
  columns_there = omega (arith, length-take (column_count (numbered s)) held, w.ready.columns)

  pub columns_long : length (values s held) ≡ column_count (numbered s)
  columns_long = length-take-le (column_count (numbered s)) held columns_there

  pub integers_there : Integers (values s held) s.q
  integers_there = record {
    few = w.ready.posed.stands.few_integers;
    there = omega (arith, columns_long);
    small = λ i h. omega (arith, w.small i);
  }

pub answer_is : (b places : List ℕ) (s : Progress) (br : Branch) (m : List ℤ) (ls : List ℕ) (held : List ℤ)
    → Answers b places s br m ls held
    → (characters sizes : List ℕ)
    → table_strings characters sizes s.p ≡ strings (asked b s) br (values s held)
    → table_answer characters sizes s.p (values s held) s.q ≡ answer_of (asked b s) br m
unfolding asked
answer_is b places s br m ls held a characters sizes e =
    ap (λ (ss : List (List ℕ)). record { strs = ss; ints = take s.q (values s held) }) e ∙ ap (answer_of (asked b s) br) a.model
