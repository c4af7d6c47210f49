-- The tests of this library beside those of std: on every list, and on the numbers below a bound.
use Prim.Native.Nat.{ℕ, zero, suc, ◌+◌}
use native.Mathlib.Omega.{arith}
use mathlib.Core.Path.{◌≡◌, refl, sym, ◌∙◌, ap}
use mathlib.Core.Bool.{Bool, ◌&&◌, ◌||◌, and_comm, or_comm}
use mathlib.Core.List.{List, [], ◌∷◌, ◌++◌}
use Rattle.std.specs.List.{list_all, list_any, range_with_len}
use Rattle.lists.specs.Lists.{all, any, all_below, any_below}
use Rattle.lists.proofs.Every.{every_snoc, some_snoc}

module _ {A : Type 0} (test : A → Bool) where
  pub list_all_is : (l : List A) → list_all test l ≡ all test l
  list_all_is [] = refl
  list_all_is (x ∷ l) = ap (λ b. test x && b) (list_all_is l)

  pub list_any_is : (l : List A) → list_any test l ≡ any test l
  list_any_is [] = refl
  list_any_is (x ∷ l) = ap (λ b. test x || b) (list_any_is l)

-- the numbers from a on, one more: the last of them is n
pub range_more : (a k n : ℕ) → n ≡ a + k → range_with_len a (suc k) ≡ range_with_len a k ++ (n ∷ [])
range_more a zero n e = ap (λ m. m ∷ []) (omega arith)
range_more a (suc k) n e = ap (λ ns. a ∷ ns) (range_more (a + 1) k n (omega arith))

module _ (test : ℕ → Bool) where
  pub all_below_is : (k : ℕ) → list_all test (range_with_len 0 k) ≡ all_below k test
  all_below_is zero = refl
  all_below_is (suc k) =
      list_all_is test (range_with_len 0 (suc k))
      ∙ ap (all test) (range_more 0 k k (omega arith))
      ∙ every_snoc test (range_with_len 0 k) k
      ∙ ap (λ b. b && test k) (sym (list_all_is test (range_with_len 0 k)) ∙ all_below_is k)
      ∙ and_comm (all_below k test) (test k)

  pub any_below_is : (k : ℕ) → list_any test (range_with_len 0 k) ≡ any_below k test
  any_below_is zero = refl
  any_below_is (suc k) =
      list_any_is test (range_with_len 0 (suc k))
      ∙ ap (any test) (range_more 0 k k (omega arith))
      ∙ some_snoc test (range_with_len 0 k) k
      ∙ ap (λ b. b || test k) (sym (list_any_is test (range_with_len 0 k)) ∙ any_below_is k)
      ∙ or_comm (any_below k test) (test k)
