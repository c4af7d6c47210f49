-- The value of a form that is read: its constant, and each coefficient times the value of its column.
use Prim.Native.Nat.{ℕ, zero, suc, ◌+◌, ◌-◌, ◌≤◌, ◌<◌}
use native.Mathlib.Omega.{arith}
use mathlib.Core.Path.{◌≡◌, refl, sym, ◌∙◌, ap}
use mathlib.Core.Bool.{true, ◌&&◌}
use mathlib.Core.List.{List, [], ◌∷◌}
use lib.ListN.{length, get_or, set, length-set}
use lib.Seq.{get_or-set_other}
use lib.Dec.{ltb, leb}
use lib.IntN.{ℤ, pos, nat_abs, ◌+ℤ◌, ◌*ℤ◌, +ℤ_idl, +ℤ_idr, +ℤ_assoc, *ℤ-zero, zero-*ℤ}
use borrow.Author.Tests.{ltb-true, leb-true}
use Rattle.lists.proofs.Lists.{down}
use Rattle.lists.proofs.Tests.{and_both}
use Rattle.integers.proofs.Ring.{v, ◌⊕◌, ring}
use Rattle.calculus.specs.Limits.{column_limit, number_limit}
use Rattle.calculus.specs.LinearForms.{zeros, dot}
use Rattle.calculus.proofs.LinearForms.{dot_number}
use Rattle.format.specs.Fields.{u16, i32, pairs_at, within}
use Rattle.format.specs.Question.{coefficient_in_range, pair_in_range, rising, form_range, fill_coefficients, form_of}

-- over the values of the columns
unfoldable pub pair_sum : List ℤ → List (ℕ × ℤ) → ℤ
pair_sum vs [] = pos 0
pair_sum vs (t ∷ ts) = (t.1 *ℤ get_or vs t.0 (pos 0)) +ℤ pair_sum vs ts

-- ---- a coefficient where there was none

dot_set : (row vs : List ℤ) (j : ℕ) (k : ℤ) → j < length row → get_or row j (pos 0) ≡ pos 0 → dot (set row j k) vs ≡ (k *ℤ get_or vs j (pos 0)) +ℤ dot row vs
dot_set [] vs j k h e = absurd (omega arith)
dot_set (x ∷ row) [] zero k h e = sym (+ℤ_idr (k *ℤ pos 0) ∙ *ℤ-zero k)
dot_set (x ∷ row) [] (suc j) k h e = sym (+ℤ_idr (k *ℤ pos 0) ∙ *ℤ-zero k)
dot_set (x ∷ row) (z ∷ vs) zero k h e =
    ap (λ (y : ℤ). (k *ℤ z) +ℤ y) (sym (+ℤ_idl (dot row vs)) ∙ ap (λ (y : ℤ). y +ℤ dot row vs) (sym (zero-*ℤ z) ∙ ap (λ (y : ℤ). y *ℤ z) (sym e)))
dot_set (x ∷ row) (z ∷ vs) (suc j) k h e =
    ap (λ (y : ℤ). (x *ℤ z) +ℤ y) (dot_set row vs j k (omega arith) e)
    ∙ ring (v (x *ℤ z) ⊕ (v (k *ℤ get_or vs j (pos 0)) ⊕ v (dot row vs))) (v (k *ℤ get_or vs j (pos 0)) ⊕ (v (x *ℤ z) ⊕ v (dot row vs))) (omega arith)

-- ---- pairs with rising columns

-- what the range of the first pair says, and of those after it
pub record Ranged (c low : ℕ) (t : ℕ × ℤ) (ts : List (ℕ × ℤ)) : Type 0 where
  pub low_enough : low ≤ t.0
  pub column : t.0 < c
  pub coefficient : nat_abs t.1 ≤ number_limit
  pub rest : rising c (t.0 + 1) ts ≡ true

pub ranged : (c low : ℕ) (t : ℕ × ℤ) (ts : List (ℕ × ℤ)) → rising c low (t ∷ ts) ≡ true → Ranged c low t ts
unfolding rising
ranged c low t ts e =
    let (p, rest) = and_both (pair_in_range c low t) (rising c (t.0 + 1) ts) e in
    let (l, p') = and_both (leb low t.0) (ltb t.0 c && coefficient_in_range t.1) p in
    let (h, k) = and_both (ltb t.0 c) (coefficient_in_range t.1) p' in
    record {
      low_enough = leb-true low t.0 l;
      column = ltb-true t.0 c h;
      coefficient = leb-true (nat_abs t.1) number_limit (and_both (ltb 0 (nat_abs t.1)) (within number_limit t.1) k).1;
      rest = rest;
    }

dot_fill : (ts : List (ℕ × ℤ)) (row vs : List ℤ) (c low : ℕ) → rising c low ts ≡ true → c ≤ length row → ((i : ℕ) → low ≤ i → get_or row i (pos 0) ≡ pos 0)
    → dot (fill_coefficients row ts) vs ≡ dot row vs +ℤ pair_sum vs ts
unfolding fill_coefficients pair_sum
dot_fill [] row vs c low e h f = sym (+ℤ_idr (dot row vs))
dot_fill (t ∷ ts) row vs c low e h f =
    let r = ranged c low t ts e in
    let j : ℕ = t.0 in
    let x : ℤ = t.1 *ℤ get_or vs t.0 (pos 0) in
    dot_fill ts (set row t.0 t.1) vs c (t.0 + 1) r.rest (omega (arith, length-set row t.0 t.1))
    (λ i g. get_or-set_other row t.0 i t.1 (pos 0) (λ d. omega arith) ∙ f i (omega (arith, r.low_enough)))
    ∙ ap (λ (y : ℤ). y +ℤ pair_sum vs ts) (dot_set row vs t.0 t.1 (omega (arith, r.column)) (f t.0 r.low_enough))
    ∙ ring (v (t.1 *ℤ get_or vs t.0 (pos 0)) ⊕ v (dot row vs) ⊕ v (pair_sum vs ts))
    (v (dot row vs) ⊕ (v (t.1 *ℤ get_or vs t.0 (pos 0)) ⊕ v (pair_sum vs ts))) (omega arith)

zeros_at : (k i : ℕ) → get_or (zeros k) i (pos 0) ≡ pos 0
zeros_at zero i = refl
zeros_at (suc k) zero = refl
zeros_at (suc k) (suc i) = zeros_at k i

-- a form in its ranges, where the columns have the values vs
pub form_value : (b : List ℕ) (c at count : ℕ) (vs : List ℤ) → c ≤ column_limit → form_range b c at count ≡ true
    → dot (form_of b at count) (pos 1 ∷ vs) ≡ i32 b at +ℤ pair_sum vs (pairs_at b (at + 4) count)
form_value b c at count vs h e =
    let ts = pairs_at b (at + 4) count in
    let rises = (and_both (within number_limit (i32 b at)) (rising c 0 (pairs_at b (at + 4) count)) e).1 in
    ap (λ (y : ℤ). (i32 b at *ℤ pos 1) +ℤ y) (dot_fill ts (zeros column_limit) vs c 0 rises h (λ i g. zeros_at column_limit i))
    ∙ sym (+ℤ_assoc (i32 b at *ℤ pos 1) (dot (zeros column_limit) vs) (pair_sum vs ts))
    ∙ ap (λ (y : ℤ). y +ℤ pair_sum vs ts) (dot_number vs (i32 b at))

-- ---- the pairs in bytes, one by one

module _ (b : List ℕ) (at : ℕ) where
  pub sum_done : (vs : List ℤ) (k : ℕ) → k ≤ 0 → pair_sum vs (pairs_at b at k) ≡ pos 0
  unfolding pair_sum pairs_at
  sum_done vs zero h = refl
  sum_done vs (suc k) h = absurd (omega arith)

  pub sum_more : (vs : List ℤ) (k : ℕ)
      → 0 < k
      → pair_sum vs (pairs_at b at k) ≡ (i32 b (at + 2) *ℤ get_or vs (u16 b at) (pos 0)) +ℤ pair_sum vs (pairs_at b (at + 6) (k - 1))
  unfolding pair_sum pairs_at
  sum_more vs zero h = absurd (omega arith)
  sum_more vs (suc k) h = rw (down k)

  pub pair_ranged : (c low k : ℕ) → 0 < k → rising c low (pairs_at b at k) ≡ true → Ranged c low (u16 b at, i32 b (at + 2)) (pairs_at b (at + 6) (k - 1))
  unfolding pairs_at
  pair_ranged c low zero h e = absurd (omega arith)
  pair_ranged c low (suc k) h e = rw (down k) (ranged c low (u16 b at, i32 b (at + 2)) (pairs_at b (at + 6) k) e)
