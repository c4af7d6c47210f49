-- The loop of rule 1: what holds of the sum after i of n pairs, and what one pair more does to it.
use Prim.Native.Nat.{ℕ, zero, suc, ◌+◌, ◌*◌, ◌-◌, ◌≤◌, ◌<◌}
use native.Mathlib.Omega.{arith}
use mathlib.Core.Path.{◌≡◌, refl, sym, ◌∙◌, ap, subst}
use mathlib.Core.Bool.{true, false}
use mathlib.Core.Option.{none, some}
use mathlib.Core.List.{List, ◌∷◌}
use borrow.Author.Tests.{leb-true}
use lib.ListN.{length, get_or, drop}
use lib.IntN.{ℤ, pos, nat_abs}
use Rattle.lists.proofs.Tests.{and_both}
use Rattle.calculus.specs.Limits.{number_limit}
use Rattle.calculus.specs.LinearForms.{zeros}
use Rattle.calculus.specs.Rules.{summand, sum_of}
use Rattle.format.specs.Fields.{u16, i32, pairs_at, within, all_within}
use Rattle.format.specs.StepForms.{multipliers_within}
use Rattle.format.specs.Checking.{fits}
use Rattle.format.proofs.Pairs.{next_pair, no_pair, all_pairs}
use Rattle.rows.specs.Rows.{fact_of, row_at, branch_of}
use Rattle.rows.specs.Work.{Within, Fine}
use Rattle.rows.proofs.Branches.{branch_at, branch_beyond}
use Rattle.rows.proofs.Small.{fine_at}
use Rattle.rows.proofs.Tested.{none_fits}
use Rattle.sums.specs.Sums.{added}
use Rattle.sums.proofs.Totals.{sum_from, from_zeros, taken, length_added, added_first, added_form, same_first, added_within}

first_pair : (b : List ℕ) (at k : ℕ) → pairs_at b at (suc k) ≡ (u16 b at, i32 b (at + 2)) ∷ pairs_at b (at + 6) k
unfolding pairs_at
first_pair b at k = refl

module _ (w : List ℤ) (count : ℕ) (b : List ℕ) (at n : ℕ) where
  -- after i pairs the sum has its tag 0, and what is left to add makes it the whole sum
  pub record Summing (sum : List ℤ) (i : ℕ) : Type 0 where
    pub bound : i ≤ n
    pub long : length sum ≡ 50
    pub tag : get_or sum 0 (pos 0) ≡ pos 0
    pub small : Within (i * 1000000000000000000) sum
    pub multipliers : multipliers_within (pairs_at b (at + 6 * i) (n - i)) ≡ true
    pub left : sum_from (branch_of w count) (drop 1 sum) (pairs_at b (at + 6 * i) (n - i)) ≡ sum_from (branch_of w count) (zeros 49) (pairs_at b at n)

  pub summing_start : multipliers_within (pairs_at b at n) ≡ true → Summing (zeros 50) 0
  summing_start h = record {
    bound = omega arith;
    long = refl;
    tag = refl;
    small = zero_small 50;
    multipliers = ap multipliers_within (all_pairs b at n) ∙ h;
    left = ap (sum_from (branch_of w count) (zeros 49)) (all_pairs b at n);
  }
    where
      zero_small : (k : ℕ) → Within 0 (zeros k)
      zero_small zero j = omega arith
      zero_small (suc k) zero = omega arith
      zero_small (suc k) (suc j) = zero_small k j

  module _ (sum : List ℤ) (i : ℕ) (s : Summing sum i) (h : i < n) where
    -- the next pair
    abbrev pub fact : ℕ
    fact = u16 b (at + 6 * i)

    abbrev pub multiplier : ℤ
    multiplier = i32 b (at + 6 * i + 2)

    split : (within number_limit multiplier ≡ true) × (multipliers_within (pairs_at b (at + 6 * (i + 1)) (n - (i + 1))) ≡ true)
    unfolding multipliers_within
    split =
        and_both (within number_limit multiplier) (multipliers_within (pairs_at b (at + 6 * (i + 1)) (n - (i + 1))))
        (ap multipliers_within (sym (next_pair b at n i h)) ∙ s.multipliers)

    pub multiplier_small : nat_abs multiplier ≤ number_limit
    multiplier_small = leb-true (nat_abs multiplier) number_limit split.0

    next : sum_from (branch_of w count) (zeros 49) (pairs_at b at n)
        ≡ sum_from (branch_of w count) (drop 1 sum) ((fact, multiplier) ∷ pairs_at b (at + 6 * (i + 1)) (n - (i + 1)))
    next = sym s.left ∙ ap (sum_from (branch_of w count) (drop 1 sum)) (next_pair b at n i h)

    -- it names a fact that is not on the branch
    pub summing_absent : count ≤ fact → sum_from (branch_of w count) (zeros 49) (pairs_at b at n) ≡ none
    unfolding sum_from
    summing_absent g = next ∙ rw (branch_beyond w count fact g)

    module _ (g : fact < count) where
      -- its fact does not take the multiplier
      pub summing_misfit : fits (summand multiplier (fact_of (row_at w fact))) ≡ false → sum_from (branch_of w count) (zeros 49) (pairs_at b at n) ≡ none
      unfolding sum_from
      summing_misfit e = next ∙ rw (branch_at w count fact g, none_fits (summand multiplier (fact_of (row_at w fact))) e)

      -- it does
      module _ (fine : Fine w count) (t : fits (summand multiplier (fact_of (row_at w fact))) ≡ true) where
        pub row_small : all_within number_limit (drop 1 (row_at w fact)) ≡ true
        row_small = sym (taken multiplier (row_at w fact) t).small ∙ fine_at w count fact fine g

        pub summing_more : length (row_at w fact) ≡ 50 → Summing (added sum multiplier (row_at w fact)) (i + 1)
        unfolding sum_from
        summing_more l =
            let row = row_at w fact in
            let e : i * 1000000000000000000 + 1000000000000000000 ≡ (i + 1) * 1000000000000000000 = omega arith in
            record {
              bound = omega arith;
              long = length_added sum multiplier row s.long l;
              tag = sym (same_first sum (added sum multiplier row) (added_first sum multiplier row s.long)) ∙ s.tag;
              small =
                  subst (λ k. Within k (added sum multiplier row)) e
                  (added_within (i * 1000000000000000000) sum multiplier row s.long s.small multiplier_small row_small);
              multipliers = split.1;
              left =
                  ap (λ (a : List ℤ). sum_from (branch_of w count) a (pairs_at b (at + 6 * (i + 1)) (n - (i + 1)))) (added_form sum multiplier row s.long)
                  ∙ sym (next ∙ rw (branch_at w count fact g, (taken multiplier row t).form));
            }

  -- none is left
  pub summing_done : (sum : List ℤ) (i : ℕ) → Summing sum i → n ≤ i → sum_from (branch_of w count) (zeros 49) (pairs_at b at n) ≡ some (drop 1 sum)
  unfolding sum_from
  summing_done sum i s h = sym s.left ∙ ap (sum_from (branch_of w count) (drop 1 sum)) (no_pair b at n i h)

  -- the sum from zeros on is the whole sum
  pub summing_all : Fine w count → 1 ≤ n → sum_from (branch_of w count) (zeros 49) (pairs_at b at n) ≡ sum_of (branch_of w count) (pairs_at b at n)
  summing_all fine h = go n h
    where
      go : (k : ℕ) → 1 ≤ k → sum_from (branch_of w count) (zeros 49) (pairs_at b at k) ≡ sum_of (branch_of w count) (pairs_at b at k)
      go zero g = absurd (omega arith)
      go (suc k) g = let few = fine.few in let room = fine.room in
          ap (sum_from (branch_of w count) (zeros 49)) (first_pair b at k)
          ∙ from_zeros w count (omega arith) (u16 b at, i32 b (at + 2)) (pairs_at b (at + 6) k)
          ∙ ap (sum_of (branch_of w count)) (sym (first_pair b at k))
