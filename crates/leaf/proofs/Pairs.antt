-- The rules with two variables say the same of x and y as of y and x, and nothing of x and x: it is enough to test each variable with those before it.
use Prim.Native.Nat.{ℕ, ◌<◌}
use native.Mathlib.Omega.{arith}
use native.Mathlib.Decide.{dec_lt, ℕ_discrete}
use mathlib.Core.Path.{◌≡◌, refl, sym, subst}
use mathlib.Core.Logic.{◌⊎◌, inl, inr}
use mathlib.Core.Bool.{Bool, true, false, not, ◌||◌}
use mathlib.Core.List.{List}
use lib.Dec.{T, eqb, eqb→eq, eqb_refl, T_not}
use lib.IntN.{ℤ, negsuc}
use Rattle.lists.specs.Lists.{all_below}
use Rattle.lists.proofs.Tests.{and→, →and, or→, →or_left, →or_right, equal_tests}
use Rattle.lists.proofs.Below.{all_below→, →all_below}
use Rattle.calculus.specs.LinearForms.{eqℤ}
use Rattle.calculus.specs.Facts.{Question, len, code}
use Rattle.calculus.specs.Chains.{var_node}
use Rattle.calculus.specs.Classes.{label, same_class}
use Rattle.calculus.specs.Model.{model_value}
use Rattle.calculus.proofs.LinearForms.{eqℤ→, →eqℤ}
use Rattle.leaf.specs.Values.{var_fits, pair_by, pair_fits, by_earlier}
use Rattle.leaf.proofs.Settling.{by_values}

equal_swap : (a b : ℤ) → T (eqℤ a b) → T (eqℤ b a)
equal_swap a b t = →eqℤ (sym (eqℤ→ a b t))

class_swap : (ls : List ℕ) (i j : ℕ) → T (same_class ls i j) → T (same_class ls j i)
class_swap ls i j t = subst (λ k. T (eqb k (label ls i))) (eqb→eq (label ls i) (label ls j) t) (eqb_refl (label ls i))

same_swap : (ls : List ℕ) (i j : ℕ) → same_class ls i j ≡ same_class ls j i
same_swap ls i j = equal_tests (same_class ls i j) (same_class ls j i) (class_swap ls i j) (class_swap ls j i)

by_swap : (s : Bool) (z w c d : ℤ) → T (pair_by s z w c d) → T (pair_by s w z d c)
unfolding pair_by
by_swap true z w c d t = let (p, q) = and→ (eqℤ z w) (eqℤ c d) t in →and (eqℤ w z) (eqℤ d c) (equal_swap z w p) (equal_swap c d q)
by_swap false z w c d t = go (or→ (eqℤ c (negsuc 0)) (not (eqℤ c d)) t) (eqℤ d c) refl
  where
    go : T (eqℤ c (negsuc 0)) ⊎ T (not (eqℤ c d)) → (e : Bool) → eqℤ d c ≡ e → T (eqℤ d (negsuc 0) || not (eqℤ d c))
    go h false e = →or_right (eqℤ d (negsuc 0)) (not (eqℤ d c)) (subst (λ b. T (not b)) (sym e) tt)
    go (inl h) true e =
        let same : d ≡ c = eqℤ→ d c (subst T (sym e) tt) in
        →or_left (eqℤ d (negsuc 0)) (not (eqℤ d c)) (subst (λ k. T (eqℤ k (negsuc 0))) (sym same) h)
    go (inr h) true e = absurd (T_not (eqℤ c d) h (equal_swap d c (subst T (sym e) tt)))

module _ (u : Question) (ls : List ℕ) (m : List ℤ) where
  pair_swap : (x y : ℕ) → T (pair_fits u ls m x y) → T (pair_fits u ls m y x)
  unfolding pair_fits
  pair_swap x y t =
      subst (λ s. T (pair_by s (model_value u m len y) (model_value u m len x) (model_value u m code y) (model_value u m code x)))
      (same_swap ls (var_node x) (var_node y))
      (by_swap (same_class ls (var_node x) (var_node y)) (model_value u m len x) (model_value u m len y) (model_value u m code x) (model_value u m code y) t)

  -- a variable with itself
  pair_self : (x : ℕ) → T (pair_fits u ls m x x)
  unfolding pair_fits pair_by
  pair_self x =
      subst (λ s. T (pair_by s (model_value u m len x) (model_value u m len x) (model_value u m code x) (model_value u m code x)))
      (sym (equal_tests (same_class ls (var_node x) (var_node x)) true (λ _. tt) (λ _. eqb_refl (label ls (var_node x)))))
      (→and (eqℤ (model_value u m len x) (model_value u m len x)) (eqℤ (model_value u m code x) (model_value u m code x)) (→eqℤ {a = model_value u m len x} refl)
      (→eqℤ {a = model_value u m code x} refl))

  earlier→ : (k : ℕ) → T (all_below k (by_earlier u ls m)) → (x y : ℕ) → x < k → y < k → T (pair_fits u ls m x y)
  earlier→ k t x y hx hy = go (dec_lt y x) (ℕ_discrete x y)
    where
      before : (i : ℕ) → i < k → (j : ℕ) → j < i → T (pair_fits u ls m i j)
      before i hi j hj =
          all_below→ i (pair_fits u ls m i) (and→ (var_fits u ls m i) (all_below i (pair_fits u ls m i)) (all_below→ k (by_earlier u ls m) t i hi)).1 j hj

      go : Dec (y < x) → Dec (x ≡ y) → T (pair_fits u ls m x y)
      go (yes l) d = before x hx y l
      go (no n) (yes e) = subst (λ j. T (pair_fits u ls m x j)) e (pair_self x)
      go (no n) (no d) = pair_swap y x (before y hy x (omega arith))

  pub earlier_all : all_below u.p (by_earlier u ls m) ≡ all_below u.p (by_values u ls m)
  earlier_all = equal_tests (all_below u.p (by_earlier u ls m)) (all_below u.p (by_values u ls m)) (λ t. →all_below u.p (by_values u ls m) (λ x h.
      →and (var_fits u ls m x) (all_below u.p (pair_fits u ls m x))
      (and→ (var_fits u ls m x) (all_below x (pair_fits u ls m x)) (all_below→ u.p (by_earlier u ls m) t x h)).0
      (→all_below u.p (pair_fits u ls m x) (λ y g. earlier→ u.p t x y h g)))) (λ t. →all_below u.p (by_earlier u ls m) (λ x h.
      let (v, w) = and→ (var_fits u ls m x) (all_below u.p (pair_fits u ls m x)) (all_below→ u.p (by_values u ls m) t x h) in
      →and (var_fits u ls m x) (all_below x (pair_fits u ls m x)) v
      (→all_below x (pair_fits u ls m x) (λ y g. all_below→ u.p (pair_fits u ls m x) w y (omega arith)))))
