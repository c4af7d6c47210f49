-- Sums from the front: a sum so far, and the pairs that are left.
use Prim.Native.Nat.{ℕ, zero, suc, ◌+◌, ◌*◌, ◌-◌, ◌≤◌, ◌<◌}
use native.Mathlib.Omega.{arith}
use native.Mathlib.Nat.{le_trans}
use native.Mathlib.Decide.{dec_lt, ℕ_discrete}
use mathlib.Core.Path.{◌≡◌, refl, sym, ◌∙◌, ap, subst}
use mathlib.Core.Bool.{true, not, ◌&&◌}
use mathlib.Core.Option.{Option, none, some}
use mathlib.Core.List.{List, [], ◌∷◌}
use borrow.Author.Tests.{lt-ltb}
use lib.ListN.{length, get_or, take, drop, get_elem?, length-drop}
use lib.Seq.{get_or-take}
use lib.IntN.{ℤ, pos, negsuc, nat_abs, ◌+ℤ◌, ◌*ℤ◌}
use lib.Signed.{lt_z, non_neg}
use Rattle.integers.proofs.Laws.{abs_+_le, abs_*_le}
use Rattle.lists.proofs.Options.{none_some, some_injective}
use Rattle.calculus.specs.Limits.{number_limit}
use Rattle.calculus.specs.LinearForms.{plus, scale, zeros, is_zero}
use Rattle.calculus.specs.Facts.{Question, Fact, Branch, same, not_same, is_literal, arithmetic, ge, eq, ne}
use Rattle.calculus.specs.Steps.{Sum}
use Rattle.calculus.specs.Children.{one}
use Rattle.calculus.specs.Rules.{then, summand, sum_of, divided, children}
use Rattle.calculus.proofs.Entries.{entry_plus, entry_scale, length_plus, length_scale}
use Rattle.calculus.proofs.Tests.{then→}
use Rattle.format.specs.Checking.{fits, fact_within}
use Rattle.format.specs.Fields.{all_within}
use Rattle.rows.specs.Rows.{row_length, fact_of, row_at, branch_of}
use Rattle.rows.specs.Work.{Within, tag_of}
use Rattle.rows.proofs.Branches.{branch_at, branch_beyond, length_row}
use Rattle.rows.proofs.Tags.{row_relation}
use Rattle.rows.proofs.Forms.{zeros_plus, plus_none, plus_assoc}
use Rattle.rows.proofs.Small.{behind_tag}
use Rattle.rows.proofs.Tested.{guard_given, no_fit}
use Rattle.sums.specs.Sums.{added, sum_fact}

-- ---- a summand

-- the test of a multiplier on a ≥ fact
pub positive_test : (m : ℤ) → lt_z (pos 0) m ≡ (non_neg m && not (is_zero m))
positive_test (pos zero) = refl
positive_test (pos (suc n)) = lt-ltb 0 (suc n) (omega arith)
positive_test (negsuc n) = refl

pub no_summand : (m : ℤ) (f : Fact) → (tag_of f ≡ 0 → ⊥) → (tag_of f ≡ 1 → ⊥) → summand m f ≡ none
unfolding tag_of
no_summand m (same x y) h k = refl
no_summand m (not_same x y) h k = refl
no_summand m (is_literal x l) h k = refl
no_summand m (arithmetic ge e) h k = absurd (h refl)
no_summand m (arithmetic eq e) h k = absurd (k refl)
no_summand m (arithmetic ne e) h k = refl

-- what a fact that takes the multiplier gives
pub record Taken (m : ℤ) (row : List ℤ) : Type 0 where
  pub form : summand m (fact_of row) ≡ some (scale m (drop 1 row))
  pub small : fact_within (fact_of row) ≡ all_within number_limit (drop 1 row)

pub taken : (m : ℤ) (row : List ℤ) → fits (summand m (fact_of row)) ≡ true → Taken m row
taken m row e = go (ℕ_discrete (tag_of (fact_of row)) 0) (ℕ_discrete (tag_of (fact_of row)) 1)
  where
    go : Dec (tag_of (fact_of row) ≡ 0) → Dec (tag_of (fact_of row) ≡ 1) → Taken m row
    go (yes p) d =
        let f : fact_of row ≡ arithmetic ge (drop 1 row) = row_relation row 0 (sym p) (omega arith) in
        record {
          form = ap (summand m) f ∙ guard_given (non_neg m && not (is_zero m)) (scale m (drop 1 row)) (sym (ap (λ x. fits (summand m x)) f) ∙ e);
          small = ap fact_within f;
        }
    go (no n) (yes p) =
        let f : fact_of row ≡ arithmetic eq (drop 1 row) = row_relation row 1 (sym p) (omega arith) in
        record {
          form = ap (summand m) f ∙ guard_given (not (is_zero m)) (scale m (drop 1 row)) (sym (ap (λ x. fits (summand m x)) f) ∙ e);
          small = ap fact_within f;
        }
    go (no n) (no k) = absurd (no_fit (summand m (fact_of row)) e (no_summand m (fact_of row) n k))

-- ---- the sum from a sum so far on

unfoldable pub sum_from : Branch → List ℤ → List (ℕ × ℤ) → Option (List ℤ)
sum_from b acc [] = some acc
sum_from b acc (t ∷ ts) = then (get_elem? b t.0) (λ f. then (summand t.1 f) (λ e. sum_from b (plus acc e) ts))

then_then : {A B C : Type 0} (o : Option A) (f : A → Option B) (g : B → Option C) → then (then o f) g ≡ then o (λ a. then (f a) g)
then_then none f g = refl
then_then (some a) f g = refl

then_same : {A B : Type 0} (o : Option A) (f g : A → Option B) → ((a : A) → o ≡ some a → f a ≡ g a) → then o f ≡ then o g
then_same none f g h = refl
then_same (some a) f g h = h a refl

from_is : (b : Branch) (acc : List ℤ) (ts : List (ℕ × ℤ)) → sum_from b acc ts ≡ then (sum_of b ts) (λ r. some (plus acc r))
unfolding sum_from
from_is b acc [] = ap some (sym (plus_none acc))
from_is b acc (t ∷ ts) =
    then_same (get_elem? b t.0) _ _ (λ f p. then_same (summand t.1 f) _ _
    (λ e q. from_is b (plus acc e) ts ∙ then_same (sum_of b ts) _ _ (λ r s. ap some (plus_assoc acc e r)) ∙ sym (then_then (sum_of b ts) _ _))
    ∙ sym (then_then (summand t.1 f) _ _))
    ∙ sym (then_then (get_elem? b t.0) _ _)

-- ---- whole forms

fits_some : {A : Type 0} (o : Option A) (a : A) → o ≡ some a → fits o ≡ true
fits_some o a e = ap fits e

-- a fact of the branch, as its row
fact_row : (w : List ℤ) (count k : ℕ) (f : Fact) → get_elem? (branch_of w count) k ≡ some f → (k < count) × (f ≡ fact_of (row_at w k))
fact_row w count k f e = go (dec_lt k count)
  where
    go : Dec (k < count) → (k < count) × (f ≡ fact_of (row_at w k))
    go (yes h) = (h, some_injective (sym e ∙ branch_at w count k h))
    go (no n) = absurd (none_some (sym (branch_beyond w count k (omega arith)) ∙ e))

module _ (w : List ℤ) (count : ℕ) (room : row_length * count ≤ length w) where
  summand_whole : (k : ℕ) (f : Fact) (m : ℤ) (e : List ℤ) → get_elem? (branch_of w count) k ≡ some f → summand m f ≡ some e → length e ≡ 49
  summand_whole k f m e p q =
      let (h, r) = fact_row w count k f p in
      let s : summand m (fact_of (row_at w k)) ≡ some e = ap (summand m) (sym r) ∙ q in
      let t = taken m (row_at w k) (fits_some (summand m (fact_of (row_at w k))) e s) in
      let n : length (row_at w k) ≡ row_length = length_row w k (omega arith) in
      let l : length (drop 1 (row_at w k)) ≡ 49 = length-drop 1 (row_at w k) ∙ ap (λ i. i - 1) n in
      ap length (some_injective (sym s ∙ t.form)) ∙ length_scale m (drop 1 (row_at w k)) ∙ l

  sum_short : (ts : List (ℕ × ℤ)) (r : List ℤ) → sum_of (branch_of w count) ts ≡ some r → length r ≤ 49
  sum_short [] r e = let q : [] ≡ r = some_injective e in subst (λ (l : List ℤ). length l ≤ 49) q (omega arith)
  sum_short (t ∷ ts) r e =
      let (f, p, e1) = then→ (get_elem? (branch_of w count) t.0) _ e in
      let (g, q, e2) = then→ (summand t.1 f) _ e1 in
      let (s, u, e3) = then→ (sum_of (branch_of w count) ts) _ e2 in
      let whole = summand_whole t.0 f t.1 g p q in
      let short = sum_short ts s u in
      let l : length (plus g s) ≡ length g = length_plus g s (omega arith) in
      subst (λ (l : List ℤ). length l ≤ 49) (some_injective e3) (omega arith)

  sum_whole : (t : ℕ × ℤ) (ts : List (ℕ × ℤ)) (r : List ℤ) → sum_of (branch_of w count) (t ∷ ts) ≡ some r → length r ≡ 49
  sum_whole t ts r e =
      let (f, p, e1) = then→ (get_elem? (branch_of w count) t.0) _ e in
      let (g, q, e2) = then→ (summand t.1 f) _ e1 in
      let (s, u, e3) = then→ (sum_of (branch_of w count) ts) _ e2 in
      let whole = summand_whole t.0 f t.1 g p q in
      let short = sum_short ts s u in
      ap length (sym (some_injective e3)) ∙ length_plus g s (omega arith) ∙ whole

  -- the whole sum is the sum from zeros on
  pub from_zeros : (t : ℕ × ℤ) (ts : List (ℕ × ℤ)) → sum_from (branch_of w count) (zeros 49) (t ∷ ts) ≡ sum_of (branch_of w count) (t ∷ ts)
  from_zeros t ts =
      from_is (branch_of w count) (zeros 49) (t ∷ ts)
      ∙ then_same (sum_of (branch_of w count) (t ∷ ts)) (λ r. some (plus (zeros 49) r)) some
      (λ r e. let l = sum_whole t ts r e in ap some (zeros_plus 49 r (omega arith)))
      ∙ then_some (sum_of (branch_of w count) (t ∷ ts))
    where
      then_some : {A : Type 0} (o : Option A) → then o some ≡ o
      then_some none = refl
      then_some (some a) = refl

-- ---- a row's multiple added in place

pub length_added : (sum : List ℤ) (m : ℤ) (row : List ℤ) → length sum ≡ 50 → length row ≡ 50 → length (added sum m row) ≡ 50
unfolding added
length_added [] m row h g = absurd (omega arith)
length_added (s ∷ t) m [] h g = absurd (omega arith)
length_added (s ∷ t) m (x ∷ row) h g = ap suc (length_plus t (scale m row) (omega (arith, length_scale m row))) ∙ h

pub added_first : (sum : List ℤ) (m : ℤ) (row : List ℤ) → length sum ≡ 50 → take 1 sum ≡ take 1 (added sum m row)
unfolding added
added_first [] m row h = absurd (omega arith)
added_first (s ∷ t) m row h = refl

pub added_number : (sum : List ℤ) (m : ℤ) (row : List ℤ) (j : ℕ)
    → length sum ≡ 50
    → 1 ≤ j
    → get_or (added sum m row) j (pos 0) ≡ get_or sum j (pos 0) +ℤ m *ℤ get_or row j (pos 0)
unfolding added
added_number sum m row zero h g = absurd (omega arith)
added_number [] m row (suc j) h g = absurd (omega arith)
added_number (s ∷ t) m row (suc j) h g =
    entry_plus t (scale m (drop 1 row)) j ∙ ap (λ z. get_or t j (pos 0) +ℤ z) (entry_scale m (drop 1 row) j ∙ ap (λ z. m *ℤ z) (behind row))
  where
    behind : (row : List ℤ) → get_or (drop 1 row) j (pos 0) ≡ get_or row (suc j) (pos 0)
    behind [] = refl
    behind (x ∷ row) = refl

pub added_form : (sum : List ℤ) (m : ℤ) (row : List ℤ) → length sum ≡ 50 → drop 1 (added sum m row) ≡ plus (drop 1 sum) (scale m (drop 1 row))
unfolding added
added_form [] m row h = absurd (omega arith)
added_form (s ∷ t) m row h = refl

pub same_first : (a b : List ℤ) → take 1 a ≡ take 1 b → get_or a 0 (pos 0) ≡ get_or b 0 (pos 0)
same_first a b e = sym (get_or-take 1 a 0 (pos 0) (omega arith)) ∙ ap (λ (l : List ℤ). get_or l 0 (pos 0)) e ∙ get_or-take 1 b 0 (pos 0) (omega arith)

-- its size
pub added_within : (n : ℕ) (sum : List ℤ) (m : ℤ) (row : List ℤ)
    → length sum ≡ 50
    → Within n sum
    → nat_abs m ≤ number_limit
    → all_within number_limit (drop 1 row) ≡ true
    → Within (n + 1000000000000000000) (added sum m row)
added_within n sum m row h ws hm wr zero =
    le_trans (subst (λ z. nat_abs z ≤ n) (same_first sum (added sum m row) (added_first sum m row h)) (ws 0)) (omega arith)
added_within n sum m row h ws hm wr (suc j) =
    rw (added_number sum m row (suc j) h (omega arith))
    (abs_+_le (get_or sum (suc j) (pos 0)) (m *ℤ get_or row (suc j) (pos 0)) (ws (suc j))
    (abs_*_le m (get_or row (suc j) (pos 0)) hm (behind_tag row (suc j) wr (omega arith))))

-- ---- the children of a Sum

pub sum_children : (u : Question) (b : Branch) (d : ℕ) (ts : List (ℕ × ℤ)) → children u b (Sum d ts) ≡ then (sum_fact b d ts) (λ f. some (one f))
unfolding sum_fact
sum_children u b d ts = sym (then_then (sum_of b ts) _ _ ∙ then_same (sum_of b ts) _ _ (λ r e. then_then (divided d r) _ _))
