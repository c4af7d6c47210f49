-- The model that the code holds is that of the record.
use Prim.Native.Nat.{ℕ, ◌*◌, ◌-◌, ◌≤◌}
use native.Mathlib.Omega.{arith}
use mathlib.Core.Path.{◌≡◌, sym, ◌∙◌, ap, subst}
use mathlib.Core.Bool.{true}
use mathlib.Core.List.{List, ◌++◌, append-nil}
use lib.ListN.{length, length-append, length-replicate}
use lib.Seq.{length-take-le, take_at}
use lib.IntN.{ℤ}
use borrow.Author.Tests.{eq-eqb}
use Rattle.calculus.specs.Limits.{column_limit, value_limit}
use Rattle.calculus.specs.LinearForms.{zeros}
use Rattle.calculus.specs.Facts.{Branch, column_count}
use Rattle.calculus.specs.Classes.{labels}
use Rattle.format.specs.Fields.{i32s, all_within}
use Rattle.format.specs.Reading.{model_at, model_fault}
use Rattle.format.specs.Checking.{leaf_fault}
use Rattle.format.proofs.Fields.{length_i32s}
use Rattle.rows.specs.Work.{Within}
use Rattle.rows.proofs.Values.{within_filled}
use Rattle.question.specs.declared.Progress.{Progress}
use Rattle.question.specs.Posed.{asked, numbered, Posed}
use Rattle.leaf.specs.Leaf.{LiteralsAt, LeafReady}
use Rattle.leaf.proofs.Settling.{settled_short}
use Rattle.model.specs.Settled.{values, Filled, Answers}
use Rattle.delimiters.proofs.Models.{model_tests}
use Rattle.model.proofs.Tested.{leaf_passes}

-- ---- the model m, as 48 numbers

module _ (s : Progress) (m held : List ℤ) (few : column_count (numbered s) ≤ column_limit) (n : length m ≡ column_count (numbered s))
    (e : held ≡ m ++ zeros (column_limit - column_count (numbered s))) where
  pub columns_are : values s held ≡ m
  columns_are = ap (values s) e ∙ take_at m (zeros (column_limit - column_count (numbered s))) (column_count (numbered s)) n

  module _ (small : all_within value_limit m ≡ true) where
    pub model_filled : Filled held s
    model_filled = record {
      all = ap length e ∙ length-append m (zeros (column_limit - column_count (numbered s))) ∙ rw length-replicate (omega arith);
      rest = e ∙ ap (λ (zs : List ℤ). zs ++ zeros (column_limit - column_count (numbered s))) (sym columns_are);
      small = subst (Within value_limit) (sym e) (within_filled m (column_limit - column_count (numbered s)) small);
    }

    pub columns_small : Within value_limit (values s held)
    columns_small = subst (Within value_limit) (append-nil m ∙ sym columns_are) (within_filled m 0 small)

-- ---- a question that stands

pub few_columns : (b : List ℕ) (s : Progress) → Posed b s → column_count (numbered s) ≤ column_limit
few_columns b s h = omega (arith, h.stands.few_strings, h.stands.few_integers)

module _ (b places : List ℕ) (s : Progress) (h : Posed b s) (p : LiteralsAt b places s) where
  -- the numbers of the columns are there
  pub columns_ready : (held : List ℤ) → length held ≡ column_limit → LeafReady b places (values s held) s
  columns_ready held all =
      record {
        posed = h;
        literals = p;
        columns = omega (arith, few_columns b s h, length-take-le (column_count (numbered s)) held (omega (arith, few_columns b s h, all)));
      }

  -- ---- the model's record, with its body at a position

  module _ (at : ℕ) (ls : List ℕ) (held : List ℤ) (small : all_within value_limit (i32s b at (column_count (numbered s))) ≡ true)
      (e : held ≡ i32s b at (column_count (numbered s)) ++ zeros (column_limit - column_count (numbered s))) where
    abbrev m : List ℤ
    m = i32s b at (column_count (numbered s))

    long : length m ≡ column_count (numbered s)
    long = length_i32s b at (column_count (numbered s))

    held_are : values s held ≡ m
    held_are = columns_are s m held (few_columns b s h) long e

    pub held_filled : Filled held s
    held_filled = model_filled s m held (few_columns b s h) long e small

    module _ (br : Branch) (size r : ℕ) (n : size ≡ 4 * column_count (numbered s)) (c : ls ≡ labels br)
        (tested : r ≡ leaf_fault (asked b s) br (values s held)) where
      pub settled_fault : r ≡ model_fault b (asked b s) (leaf_fault (asked b s) br (model_at b (asked b s) at)) at size
      unfolding asked
      settled_fault =
          tested ∙ ap (leaf_fault (asked b s) br) held_are
          ∙ model_tests b (asked b s) at size (leaf_fault (asked b s) br m) true true (eq-eqb size (4 * column_count (numbered s)) n) small

      pub settled_answers : r ≡ 0 → Answers b places s br (model_at b (asked b s) at) ls held
      unfolding asked
      settled_answers z = record {
        classes = c;
        model = held_are;
        writable = record {
          ready = columns_ready held held_filled.all;
          small = columns_small s m held (few_columns b s h) long e small;
          short_sizes = let (is-settled, short) = leaf_passes (asked b s) br (values s held) (sym tested ∙ z) in settled_short (asked b s) br (values s held) is-settled short;
        };
      }
