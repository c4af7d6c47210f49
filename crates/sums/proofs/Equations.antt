-- The fact that a Sum adds: whether every fact named is an equation, what is left of that after i of n pairs, and the tag of the fact's row.
use Prim.Native.Nat.{ℕ, ◌+◌, ◌*◌, ◌-◌, ◌≤◌, ◌<◌}
use mathlib.Core.Path.{◌≡◌, refl, sym, ◌∙◌, ap, ap₂}
use mathlib.Core.Bool.{Bool, true, false, cond, ◌&&◌}
use mathlib.Core.Option.{none, some}
use mathlib.Core.List.{List}
use borrow.Author.Tests.{eq-eqb, ne_eqb}
use lib.ListN.{length, drop, set, get_elem?}
use lib.Dec.{eqb}
use lib.IntN.{ℤ, pos}
use Rattle.calculus.specs.Facts.{Fact, Branch, same, not_same, is_literal, arithmetic, ge, eq, ne}
use Rattle.calculus.specs.Rules.{sum_of, divided, is_equation, all_equations, divides_exactly, sum_relation}
use Rattle.format.specs.Fields.{u16, pairs_at}
use Rattle.format.proofs.Pairs.{next_pair, no_pair, all_pairs}
use Rattle.rows.specs.Rows.{fact_of, row_at, branch_of}
use Rattle.rows.specs.Work.{tag_of}
use Rattle.rows.proofs.Branches.{branch_at, branch_beyond}
use Rattle.rows.proofs.Tags.{tag_set}
use Rattle.sums.specs.Sums.{sum_tag, sum_fact}

-- an equation by its tag
equation_test : (f : Fact) → is_equation (some f) ≡ eqb (tag_of f) 1
unfolding tag_of
equation_test (same x y) = refl
equation_test (not_same x y) = refl
equation_test (is_literal x l) = refl
equation_test (arithmetic ge e) = refl
equation_test (arithmetic eq e) = refl
equation_test (arithmetic ne e) = refl

module _ (w : List ℤ) (count : ℕ) (b : List ℕ) (at n : ℕ) where
  -- the pairs from number i on
  abbrev pub equations_from : ℕ → Bool
  equations_from i = all_equations (branch_of w count) (pairs_at b (at + 6 * i) (n - i))

  pub equations_all : equations_from 0 ≡ all_equations (branch_of w count) (pairs_at b at n)
  equations_all = ap (all_equations (branch_of w count)) (all_pairs b at n)

  pub equations_done : (i : ℕ) → n ≤ i → equations_from i ≡ true
  unfolding all_equations
  equations_done i h = ap (all_equations (branch_of w count)) (no_pair b at n i h)

  module _ (i : ℕ) (h : i < n) where
    next : equations_from i ≡ (is_equation (get_elem? (branch_of w count) (u16 b (at + 6 * i))) && equations_from (i + 1))
    unfolding all_equations
    next = ap (all_equations (branch_of w count)) (next_pair b at n i h)

    pub equations_absent : count ≤ u16 b (at + 6 * i) → equations_from i ≡ false
    equations_absent g = next ∙ rw (branch_beyond w count (u16 b (at + 6 * i)) g)

    module _ (g : u16 b (at + 6 * i) < count) where
      by_tag : (t : Bool) → eqb (tag_of (fact_of (row_at w (u16 b (at + 6 * i))))) 1 ≡ t → equations_from i ≡ (t && equations_from (i + 1))
      by_tag t e =
          next ∙ ap (λ s. s && equations_from (i + 1)) (ap is_equation (branch_at w count (u16 b (at + 6 * i)) g) ∙ equation_test (fact_of (row_at w (u16 b (at + 6 * i)))) ∙ e)

      pub equations_no : (tag_of (fact_of (row_at w (u16 b (at + 6 * i)))) ≡ 1 → ⊥) → equations_from i ≡ false
      equations_no e = by_tag false (ne_eqb _ 1 e)

      pub equations_yes : tag_of (fact_of (row_at w (u16 b (at + 6 * i)))) ≡ 1 → equations_from i ≡ equations_from (i + 1)
      equations_yes e = by_tag true (eq-eqb _ 1 e)

-- ---- the tag, and the row

module _ (b : Branch) (d : ℕ) (ts : List (ℕ × ℤ)) where
  -- by the two tests
  pub tag_by : (r : List ℤ) (t s : Bool) → all_equations b ts ≡ t → divides_exactly d r ≡ s → sum_tag b d ts r ≡ pos (tag_of (arithmetic (cond (t && s) eq ge) r))
  unfolding sum_tag
  tag_by r t s e f = ap₂ (λ x y. pos (tag_of (arithmetic (cond (x && y) eq ge) r))) e f

  pub none_summed : sum_of b ts ≡ none → sum_fact b d ts ≡ none
  unfolding sum_fact
  none_summed h = rw h

  pub none_divided : (r : List ℤ) → sum_of b ts ≡ some r → divided d r ≡ none → sum_fact b d ts ≡ none
  unfolding sum_fact
  none_divided r h g = rw (h, g)

  -- the sum divided, in a row that is given its tag
  pub fact_tagged : (row r : List ℤ)
      → length row ≡ 50
      → sum_of b ts ≡ some r
      → divided d r ≡ some (drop 1 row)
      → some (fact_of (set row 0 (sum_tag b d ts r))) ≡ sum_fact b d ts
  unfolding sum_fact sum_tag
  fact_tagged row r l h g =
      ap some (tag_set (sum_relation b d ts r) r row l) ∙ sym (rw (h, g))
