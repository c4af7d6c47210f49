-- The lowest variable of a class, and the lowest variables of the classes whose length in the model is one number.
use Prim.Native.Nat.{ℕ, zero, suc, ◌+◌, ◌<◌, ◌≤◌}
use native.Mathlib.Omega.{arith}
use native.Mathlib.Decide.{ℕ_discrete, dec_lt}
use mathlib.Core.Path.{◌≡◌, refl, sym, ◌∙◌, ap, subst}
use mathlib.Core.Logic.{inl, inr}
use mathlib.Core.Bool.{Bool, true, false, ◌&&◌}
use mathlib.Core.List.{List, ◌∷◌}
use lib.ListN.{length}
use lib.Dec.{T, eqb, eqb→eq, eqb_refl}
use lib.IntN.{ℤ}
use Rattle.lists.specs.Lists.{All, Distinct}
use Rattle.lists.proofs.Lists.{In, all_map, all_in, →not_in}
use Rattle.lists.proofs.Tests.{→true, true→, and→, →and}
use Rattle.calculus.specs.LinearForms.{eqℤ}
use Rattle.calculus.specs.Facts.{Question, Branch, len}
use Rattle.calculus.specs.Chains.{var_node, Chain, here, OneClass}
use Rattle.calculus.specs.Classes.{labels, same_class}
use Rattle.calculus.specs.Model.{model_value}
use Rattle.calculus.specs.SettledTest.{lowest_from, lowest_variable, lowest_of_length}
use Rattle.calculus.specs.InRange.{HeadInRange, FactsInRange}
use Rattle.calculus.proofs.LinearForms.{eqℤ→, →eqℤ}
use Rattle.calculus.proofs.Classes.{chain_trans, chain_sym, class→chain, chain→class}

-- ---- the lowest variable of a class

module _ (b : Branch) (x : ℕ) where
  -- z is the lowest from y on in the class of x
  abbrev LowestFrom : ℕ → ℕ → Type 0
  LowestFrom y z = OneClass b x z × (z ≤ x) × ((k : ℕ) → y ≤ k → k < z → T (same_class (labels b) (var_node x) (var_node k)) → ⊥)

  lowest_from_law : (d y : ℕ) → y + d ≡ x → LowestFrom y (lowest_from d (labels b) x y)
  lowest_from_law zero y e = (here, omega arith, λ k g h t. omega arith)
  lowest_from_law (suc d) y e = go (same_class (labels b) (var_node x) (var_node y)) refl (lowest_from d (labels b) x (suc y)) (lowest_from_law d (suc y) (omega arith))
    where
      go : (t : Bool)
          → same_class (labels b) (var_node x) (var_node y) ≡ t
          → (z : ℕ)
          → LowestFrom (suc y) z
          → LowestFrom y (elim t as (λ _. ℕ) [ true ↦ y | false ↦ z ])
      go true s z h = (class→chain b (var_node x) (var_node y) (true→ s), omega arith, λ k g i t. omega arith)
      go false s z (c, l, h) = (c, l, λ k g i t. skip k g i t (ℕ_discrete k y))
        where
          skip : (k : ℕ) → y ≤ k → k < z → T (same_class (labels b) (var_node x) (var_node k)) → Dec (k ≡ y) → ⊥
          skip k g i t (yes p) = subst T (ap (λ k. same_class (labels b) (var_node x) (var_node k)) p ∙ s) t
          skip k g i t (no f) = h k (omega arith) i t

  lowest_is : LowestFrom 0 (lowest_variable (labels b) x)
  lowest_is = lowest_from_law x 0 (omega arith)

pub lowest_joined : (b : Branch) (x : ℕ) → OneClass b x (lowest_variable (labels b) x)
lowest_joined b x = (lowest_is b x).0

pub lowest_le : (b : Branch) (x : ℕ) → lowest_variable (labels b) x ≤ x
lowest_le b x = (lowest_is b x).1

pub lowest→class : (b : Branch) (x y : ℕ) → lowest_variable (labels b) x ≡ lowest_variable (labels b) y → OneClass b x y
lowest→class b x y e = chain_trans (lowest_joined b x) (subst (λ z. Chain b (var_node z) (var_node y)) (sym e) (chain_sym (lowest_joined b y)))

module _ (u : Question) (w : HeadInRange u) (b : Branch) (r : FactsInRange u b) where
  lowest_least : (x z : ℕ) → OneClass b x z → lowest_variable (labels b) x ≤ z
  lowest_least x z c = go (dec_lt z (lowest_variable (labels b) x))
    where
      go : Dec (z < lowest_variable (labels b) x) → lowest_variable (labels b) x ≤ z
      go (yes h) = absurd ((lowest_is b x).2 z (omega arith) h (chain→class u w b r (var_node x) (var_node z) c))
      go (no f) = omega arith

  pub class→lowest : (x y : ℕ) → OneClass b x y → lowest_variable (labels b) x ≡ lowest_variable (labels b) y
  class→lowest x y c =
      let h : lowest_variable (labels b) x ≤ lowest_variable (labels b) y = lowest_least x (lowest_variable (labels b) y) (chain_trans c (lowest_joined b y)) in
      let g : lowest_variable (labels b) y ≤ lowest_variable (labels b) x =
      lowest_least y (lowest_variable (labels b) x) (chain_trans (chain_sym c) (lowest_joined b x)) in
      omega arith

  pub lowest_lowest : (x : ℕ) → lowest_variable (labels b) (lowest_variable (labels b) x) ≡ lowest_variable (labels b) x
  lowest_lowest x = sym (class→lowest x (lowest_variable (labels b) x) (lowest_joined b x))

-- ---- the lowest variables of the classes of length z

module _ (u : Question) (ls : List ℕ) (m : List ℤ) (z : ℤ) where
  -- y is one of those among the first k variables
  abbrev pub IsLowest : ℕ → ℕ → Type 0
  IsLowest k y = (y < k) × (model_value u m len y ≡ z) × (lowest_variable ls y ≡ y)

  abbrev test : ℕ → Bool
  test k = eqℤ (model_value u m len k) z && eqb (lowest_variable ls k) k

  pub lowests : (k : ℕ) → All (IsLowest k) (lowest_of_length u ls m z k)
  lowests zero = tt
  lowests (suc k) = go (test k) refl (all_map (lowest_of_length u ls m z k) (λ y h. (omega (arith, h.0), h.1, h.2)) (lowests k))
    where
      go : (t : Bool)
          → test k ≡ t
          → All (IsLowest (suc k)) (lowest_of_length u ls m z k)
          → All (IsLowest (suc k)) (elim t as (λ _. List ℕ) [ true ↦ k ∷ lowest_of_length u ls m z k | false ↦ lowest_of_length u ls m z k ])
      go true e h =
          let (p, q) = and→ (eqℤ (model_value u m len k) z) (eqb (lowest_variable ls k) k) (true→ e) in
          ((omega arith, eqℤ→ (model_value u m len k) z p, eqb→eq (lowest_variable ls k) k q), h)
      go false e h = h

  pub in_lowests : (k y : ℕ) → IsLowest k y → In y (lowest_of_length u ls m z k)
  in_lowests zero y h = absurd (omega (arith, h.0))
  in_lowests (suc k) y h = go (ℕ_discrete y k) (in_lowests k y)
    where
      passed : y ≡ k → test k ≡ true
      passed p =
          →true (test k) (subst (λ k. T (test k)) p (→and (eqℤ (model_value u m len y) z) (eqb (lowest_variable ls y) y) (→eqℤ h.1)
          (subst (λ x. T (eqb (lowest_variable ls y) x)) h.2 (eqb_refl (lowest_variable ls y)))))

      behind : (t : Bool)
          → In y (lowest_of_length u ls m z k)
          → In y (elim t as (λ _. List ℕ) [ true ↦ k ∷ lowest_of_length u ls m z k | false ↦ lowest_of_length u ls m z k ])
      behind true i = inr i
      behind false i = i

      go : Dec (y ≡ k)
          → (IsLowest k y → In y (lowest_of_length u ls m z k))
          → In y (elim (test k) as (λ _. List ℕ) [ true ↦ k ∷ lowest_of_length u ls m z k | false ↦ lowest_of_length u ls m z k ])
      go (yes p) ih =
          subst (λ t. In y (elim t as (λ _. List ℕ) [ true ↦ k ∷ lowest_of_length u ls m z k | false ↦ lowest_of_length u ls m z k ])) (sym (passed p)) (inl p)
      go (no f) ih = behind (test k) (ih (omega (arith, h.0), h.1, h.2))

  pub lowests_distinct : (k : ℕ) → Distinct (lowest_of_length u ls m z k)
  lowests_distinct zero = tt
  lowests_distinct (suc k) = go (test k) (lowests_distinct k)
    where
      go : (t : Bool)
          → Distinct (lowest_of_length u ls m z k)
          → Distinct {A = ℕ} (elim t as (λ _. List ℕ) [ true ↦ k ∷ lowest_of_length u ls m z k | false ↦ lowest_of_length u ls m z k ])
      go true d = (→not_in k (lowest_of_length u ls m z k) (λ i. omega (arith, (all_in (IsLowest k) (lowest_of_length u ls m z k) k (lowests k) i).0)), d)
      go false d = d

  pub lowests_few : (k : ℕ) → length (lowest_of_length u ls m z k) ≤ k
  lowests_few zero = omega arith
  lowests_few (suc k) = go (test k) (lowests_few k)
    where
      go : (t : Bool)
          → length (lowest_of_length u ls m z k) ≤ k
          → length {A = ℕ} (elim t as (λ _. List ℕ) [ true ↦ k ∷ lowest_of_length u ls m z k | false ↦ lowest_of_length u ls m z k ]) ≤ suc k
      go true h = omega arith
      go false h = omega arith
