-- What a chain over the numbers of a row gives, as the definitions have it.
use Prim.Native.Nat.{ℕ, zero, suc, ◌+◌, ◌<◌, ◌≤◌}
use Rattle.std.specs.Prelude.{Option, Some, None, MatchOption}
use native.Mathlib.Nat.{zero-add}
use native.Mathlib.Numerals.{add-one}
use native.Mathlib.Omega.{arith}
use mathlib.Core.Path.{◌≡◌, refl, sym, ◌∙◌, ap}
use mathlib.Core.Bool.{Bool, true, false}
use mathlib.Core.Option.{none, some}
use mathlib.Core.List.{List, [], ◌∷◌, ◌++◌, map}
use lib.IntN.{ℤ}
use lib.ListN.{length, take, drop, length-drop}
use lib.Seq.{take_all}
use Rattle.std.specs.List.{list_all, range_with_len}
use Rattle.std.proofs.lemmas.List.FromFn.{map-range_with_len_more}
use Rattle.lists.specs.Lists.{all, lowest, up_to}
use Rattle.lists.proofs.Every.{every_made}
use Rattle.lists.proofs.Library.{list_all_is}
use Rattle.lists.proofs.Searches.{lowest_taken, lowest_behind, lowest_next}
use Rattle.calculus.specs.Facts.{Fact}
use Rattle.rows.specs.Rows.{fact_of, row_at, branch_of}
use Rattle.rows.specs.Searches.{number_in}
use Rattle.rows.proofs.Branches.{branch_more, branch_take, length_branch}

module _ {A : Type 0} where
  -- the part of a slice from place k on
  pub part_from : (l : List A) (k n : ℕ) → length l ≤ k + n → take n (drop k l) ≡ drop k l
  part_from l k n h = take_all n (drop k l) (simp length-drop (omega arith))

-- the tests of what f makes of each number below n
range_made : {A : Type 0} (f : ℕ → A) (n : ℕ) → map f (range_with_len 0 n) ≡ up_to f n
range_made f zero = refl
range_made f (suc n) =
    ap (λ (m : ℕ). map f (range_with_len 0 m)) (sym (add-one n))
    ∙ map-range_with_len_more f 0 n n (zero-add n)
    ∙ ap (λ l. l ++ (f n ∷ [])) (range_made f n)

pub range_all : {A : Type 0} (test : A → Bool) (f : ℕ → A) (n : ℕ) → list_all (λ k. test (f k)) (range_with_len 0 n) ≡ all test (up_to f n)
range_all test f n =
    list_all_is (λ k. test (f k)) (range_with_len 0 n) ∙ sym (every_made f test (range_with_len 0 n)) ∙ ap (all test) (range_made f n)

-- ---- the first row whose fact passes a test

module _ (test : Fact → Bool) (w : List ℤ) where
  none_found : (k : ℕ) → ((j : ℕ) → j < k → test (fact_of (row_at w j)) ≡ false) → lowest test (branch_of w k) ≡ none
  unfolding branch_of lowest
  none_found zero h = refl
  none_found (suc k) h = lowest_behind test (branch_of w k) (fact_of (row_at w k)) (none_found k (λ j l. h j (omega arith))) (h k (omega arith))

  found_at : (count k : ℕ) → k < count → test (fact_of (row_at w k)) ≡ true → ((j : ℕ) → j < k → test (fact_of (row_at w j)) ≡ false)
      → lowest test (branch_of w count) ≡ some k
  found_at count k l e h =
      lowest_taken test (branch_of w count) (k + 1) k
      (ap (lowest test) (branch_take w count (k + 1) (omega arith) ∙ branch_more w k)
      ∙ lowest_next test (branch_of w k) (fact_of (row_at w k)) (none_found k h) e
      ∙ ap some (length_branch w k))

  -- what `find` gave over the numbers of the rows, where found is the test of a row by its number
  pub number_found : (found : ℕ → Bool) (count : ℕ) (r : Option ℕ)
      → ((k : ℕ) → k < count → test (fact_of (row_at w k)) ≡ found k)
      → MatchOption r ((k : ℕ) → 0 ≤ k → k < count → found k ≡ false)
      (λ i. (0 ≤ i) × (i < count) × (found i ≡ true) × ((k : ℕ) → 0 ≤ k → k < i → found k ≡ false))
      → number_in r ≡ lowest test (branch_of w count)
  number_found found count (Some k) e m = sym (found_at count k m.1 (e k m.1 ∙ m.2) (λ j l. e j (omega (arith, m.1)) ∙ m.3 j (omega arith) l))
  number_found found count None e m = sym (none_found count (λ j l. e j l ∙ m j (omega arith) l))
