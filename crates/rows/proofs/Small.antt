-- Numbers within the limit: what the tests say of them, and what the machine asks.
use Prim.Native.Nat.{ℕ, zero, suc, ◌+◌, ◌*◌, ◌≤◌, ◌<◌}
use native.Mathlib.Omega.{arith}
use mathlib.Core.Path.{◌≡◌, refl, sym, ◌∙◌, ap, ap₂, subst}
use mathlib.Core.Bool.{true, ◌&&◌, and-true}
use mathlib.Core.List.{List, [], ◌∷◌, ◌++◌}
use lib.ListN.{length, get_or, take, set, drop, length-append}
use lib.IntN.{ℤ, pos, negsuc, neg_ℤ, nat_abs, ◌+ℤ◌, ◌-ℤ◌, ◌*ℤ◌, +ℤ_comm}
use borrow.Author.Tests.{le-leb}
use mir.Syntax.{w64}
use mir.Val.{SFits, to_z, of_z}
use mir.Facts.{to_z-of_z}
use Rattle.integers.proofs.Laws.{minus_one_*ℤ, abs_+_le, sfits_abs}
use Rattle.integers.proofs.Machine.{minus_fits, minus_is, flip_fits}
use Rattle.lists.specs.Lists.{All}
use Rattle.lists.proofs.Every.{every_append, every_take, every_at}
use Rattle.lists.proofs.Lists.{all_get_d}
use Rattle.lists.proofs.Tests.{and_both}
use Rattle.calculus.specs.Limits.{number_limit, fact_limit, work_numbers, Small}
use Rattle.calculus.specs.LinearForms.{number}
use Rattle.calculus.specs.Facts.{Fact, Branch}
use Rattle.format.specs.Fields.{within, all_within}
use Rattle.format.specs.Checking.{fact_within, facts_within}
use Rattle.format.proofs.Limits.{within→}
use Rattle.rows.specs.Rows.{row_length, fact_of, row_at, branch_of}
use Rattle.rows.specs.Work.{Within, Fine, single, difference}
use Rattle.rows.proofs.Branches.{row_number, length_branch, branch_at, branch_take}

-- small numbers, place by place
pub all_small : (n : ℕ) (zs : List ℤ) → All (Small n) zs → Within n zs
all_small n zs h j = all_get_d (Small n) zs j (pos 0) (omega arith) h

pub within_small : (n : ℕ) (zs : List ℤ) → all_within n zs ≡ true → Within n zs
within_small n zs e = all_small n zs (within→ n zs e)

-- ---- numbers that are put within the limit

pub within_set : (e : List ℤ) (j : ℕ) (z : ℤ) → all_within number_limit e ≡ true → nat_abs z ≤ number_limit → all_within number_limit (set e j z) ≡ true
unfolding all_within
within_set [] j z e h = e
within_set (x ∷ l) zero z e h = ap₂ ◌&&◌ (le-leb (nat_abs z) number_limit h) (and_both (within number_limit x) (all_within number_limit l) e).1
within_set (x ∷ l) (suc j) z e h =
    let (first, rest) = and_both (within number_limit x) (all_within number_limit l) e in
    ap₂ ◌&&◌ first (within_set l j z rest h)

pub within_number : (z : ℤ) → nat_abs z ≤ number_limit → all_within number_limit (number z) ≡ true
unfolding all_within
within_number z h = ap₂ ◌&&◌ (le-leb (nat_abs z) number_limit h) refl

pub within_single : (c : ℤ) (j : ℕ) (k : ℤ) → nat_abs c ≤ number_limit → nat_abs k ≤ number_limit → all_within number_limit (single c j k) ≡ true
unfolding single
within_single c j k h g = within_set (number c) (suc j) k (within_number c h) g

pub within_difference : (i j : ℕ) → all_within number_limit (difference i j) ≡ true
unfolding difference
within_difference i j =
    within_set (set (number (pos 0)) (suc i) (pos 1)) (suc j) (negsuc 0)
    (within_set (number (pos 0)) (suc i) (pos 1) (within_number (pos 0) (omega arith)) (omega arith)) (omega arith)

-- ---- facts within the limit

pub within_append : (br c : Branch) → facts_within br ≡ true → facts_within c ≡ true → facts_within (br ++ c) ≡ true
unfolding facts_within
within_append br c e f = every_append fact_within br c ∙ ap₂ ◌&&◌ e f

pub within_take : (br : Branch) (n : ℕ) → facts_within br ≡ true → facts_within (take n br) ≡ true
unfolding facts_within
within_take br n e = every_take fact_within br n e

-- ---- the invariant of the work area

-- a fact of a branch within the limit
pub fine_at : (w : List ℤ) (count k : ℕ) → Fine w count → k < count → fact_within (fact_of (row_at w k)) ≡ true
unfolding facts_within
fine_at w count k fine h = every_at fact_within (branch_of w count) k (fact_of (row_at w k)) fine.small (branch_at w count k h)

pub fine_start : (w : List ℤ) → work_numbers ≤ length w → Fine w 0
unfolding branch_of facts_within
fine_start w h = record { few = omega arith; room = h; small = refl }

-- facts within the limit are put after k others
pub fine_added : (w v : List ℤ) (k m : ℕ) (c : List Fact)
    → Fine w k
    → length v ≡ length w
    → branch_of v m ≡ branch_of w k ++ c
    → length (branch_of w k) + length c ≤ fact_limit
    → facts_within c ≡ true
    → Fine v m
fine_added w v k m c fine l e h t =
    let n : m ≡ length (branch_of w k) + length c = sym (length_branch v m) ∙ ap length e ∙ length-append (branch_of w k) c in
    let room = fine.room in
    record {
      few = omega arith;
      room = omega arith;
      small = ap facts_within e ∙ within_append (branch_of w k) c fine.small t;
    }

-- one fact
pub fine_put : (w v : List ℤ) (k : ℕ) (f : Fact)
    → Fine w k
    → k < fact_limit
    → length v ≡ length w
    → branch_of v (k + 1) ≡ branch_of w k ++ (f ∷ [])
    → fact_within f ≡ true
    → Fine v (k + 1)
unfolding facts_within
fine_put w v k f fine h l e t = fine_added w v k (k + 1) (f ∷ []) fine l e (omega (arith, length_branch w k)) (and-true (fact_within f) ∙ t)

-- ---- sizes

-- what is far from the machine's limit fits
pub small_fits : (z : ℤ) → nat_abs z ≤ 8000000000000000000 → SFits w64 z
small_fits z h = sfits_abs z (omega arith)

-- −1 − z of what fits
pub rest_fits : (z : ℤ) → SFits w64 z → SFits w64 (negsuc 0 -ℤ to_z w64 (of_z w64 z))
rest_fits z f = rw (to_z-of_z f) (flip_fits z f)

-- ---- one number less, and the negative

module _ (z : ℤ) (n : ℕ) (h : nat_abs z ≤ n) (room : n ≤ 4000000000000000000) where
  fits : SFits w64 z
  fits = small_fits z (omega arith)

  abs_above : nat_abs (z -ℤ pos 1) ≤ n + 1
  abs_above = abs_+_le z (negsuc 0) {m = n} {n = 1} h (omega arith)

  pub above_fits : SFits w64 (to_z w64 (of_z w64 z) -ℤ pos 1)
  above_fits = rw (to_z-of_z fits) (small_fits (z -ℤ pos 1) (omega (arith, abs_above)))

  pub above_is : to_z w64 (of_z w64 (to_z w64 (of_z w64 z) -ℤ pos 1)) ≡ z +ℤ negsuc 0
  above_is = to_z-of_z above_fits ∙ ap (λ x. x -ℤ pos 1) (to_z-of_z fits)

  pub neg_fits : SFits w64 (pos 0 -ℤ to_z w64 (of_z w64 z))
  neg_fits = minus_fits z _ (to_z-of_z fits) (omega arith)

  pub neg_is : to_z w64 (of_z w64 (pos 0 -ℤ to_z w64 (of_z w64 z))) ≡ negsuc 0 *ℤ z
  neg_is = minus_is z _ (to_z-of_z fits) (omega arith) ∙ sym (minus_one_*ℤ z)

  -- −1 − z
  pub under_fits : SFits w64 (negsuc 0 -ℤ to_z w64 (of_z w64 z))
  under_fits = rest_fits z fits

  pub under_is : to_z w64 (of_z w64 (negsuc 0 -ℤ to_z w64 (of_z w64 z))) ≡ (negsuc 0 *ℤ z) +ℤ negsuc 0
  under_is = to_z-of_z under_fits ∙ ap (λ x. negsuc 0 -ℤ x) (to_z-of_z fits) ∙ +ℤ_comm (negsuc 0) (neg_ℤ z) ∙ ap (λ x. x +ℤ negsuc 0) (sym (minus_one_*ℤ z))

-- number j of a row after its tag
pub behind_tag : (row : List ℤ) (j : ℕ) → all_within number_limit (drop 1 row) ≡ true → 1 ≤ j → nat_abs (get_or row j (pos 0)) ≤ number_limit
behind_tag [] j e h = omega arith
behind_tag (x ∷ row) zero e h = absurd (omega arith)
behind_tag (x ∷ row) (suc j) e h = within_small number_limit row e j

-- the same, where it stands in the work area
pub row_small : (w : List ℤ) (k j : ℕ) → all_within number_limit (drop 1 (row_at w k)) ≡ true → 1 ≤ j → j < row_length
    → nat_abs (get_or w (row_length * k + j) (pos 0)) ≤ number_limit
row_small w k j e h l = subst (λ z. nat_abs z ≤ number_limit) (row_number w k j l) (behind_tag (row_at w k) j e h)

-- the first n of fine rows are fine
pub fine_first : {w : List ℤ} {count : ℕ} (n : ℕ) → n ≤ count → Fine w count → Fine w n
fine_first {w} {count} n l f = record {
  few = omega (arith, f.few);
  room = f.room;
  small = rw (branch_take w count n l) at (within_take (branch_of w count) n f.small);
}
