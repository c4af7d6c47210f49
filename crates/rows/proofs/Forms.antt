-- The forms that rules build, place by place.
use Prim.Native.Nat.{ℕ, zero, suc, ◌+◌, ◌-◌, ◌≤◌, ◌<◌}
use native.Mathlib.Omega.{arith}
use native.Mathlib.Decide.{ℕ_discrete}
use mathlib.Core.Path.{◌≡◌, refl, sym, ◌∙◌, ap, ap₂, subst}
use mathlib.Core.List.{List, [], ◌∷◌, ◌++◌}
use lib.ListN.{length, get_or, drop, set, length-set}
use lib.Seq.{get_or-set_same, get_or-set_other}
use lib.IntN.{ℤ, pos, negsuc, neg_ℤ, ◌+ℤ◌, ◌*ℤ◌, +ℤ_idl, +ℤ_idr, +ℤ_assoc}
use Rattle.calculus.specs.LinearForms.{plus, scale, zeros, number, column, minus, above, below}
use Rattle.calculus.specs.Facts.{arithmetic, ge, eq}
use Rattle.calculus.specs.Instances.{entry}
use Rattle.integers.proofs.Laws.{minus_one_*ℤ}
use Rattle.calculus.proofs.Entries.{entry_plus, entry_scale, by_entries, length_scale, whole_number, whole_column, whole_minus, whole_above}
use Rattle.format.specs.Question.{relation_of}
use Rattle.rows.specs.Rows.{fact_of}
use Rattle.rows.specs.Work.{tag_of, single, difference}
use Rattle.rows.proofs.Tags.{relation_fact, tag_set}

-- ---- rows with these forms

pub single_fact : (r : ℕ) (c : ℤ) (j : ℕ) (k : ℤ) → r ≤ 2 → fact_of (set (pos r ∷ c ∷ zeros 48) (j + 2) k) ≡ arithmetic (relation_of r) (single c j k)
unfolding single
single_fact r c j k h =
    let e : j + 2 ≡ suc (suc j) = omega arith in
    ap (λ i. fact_of (set (pos r ∷ c ∷ zeros 48) i k)) e ∙ relation_fact r (set (number c) (suc j) k) h

pub difference_fact : (r i j : ℕ)
    → r ≤ 2
    → fact_of (set (set (pos r ∷ zeros 49) (i + 2) (pos 1)) (j + 2) (negsuc 0)) ≡ arithmetic (relation_of r) (difference i j)
unfolding difference
difference_fact r i j h =
    let e : i + 2 ≡ suc (suc i) = omega arith in
    let f : j + 2 ≡ suc (suc j) = omega arith in
    ap₂ (λ m n. fact_of (set (set (pos r ∷ zeros 49) m (pos 1)) n (negsuc 0))) e f
    ∙ relation_fact r (set (set (number (pos 0)) (suc i) (pos 1)) (suc j) (negsuc 0)) h

-- ---- entries of zeros and columns

pub entry_zeros : (n i : ℕ) → entry (zeros n) i ≡ pos 0
entry_zeros zero i = refl
entry_zeros (suc n) zero = refl
entry_zeros (suc n) (suc i) = entry_zeros n i

unit_same : (j m : ℕ) → entry (zeros j ++ (pos 1 ∷ zeros m)) j ≡ pos 1
unit_same zero m = refl
unit_same (suc j) m = unit_same j m

unit_other : (j m i : ℕ) → (i ≡ j → ⊥) → entry (zeros j ++ (pos 1 ∷ zeros m)) i ≡ pos 0
unit_other zero m zero h = absurd (h refl)
unit_other zero m (suc i) h = entry_zeros m i
unit_other (suc j) m zero h = refl
unit_other (suc j) m (suc i) h = unit_other j m i (λ e. h (ap suc e))

pub column_same : (j : ℕ) → entry (column j) (suc j) ≡ pos 1
column_same j = unit_same j (47 - j)

pub column_other : (j i : ℕ) → (i ≡ j → ⊥) → entry (column j) (suc i) ≡ pos 0
column_other j i h = unit_other j (47 - j) i h

number_other : (k : ℤ) (i : ℕ) → entry (number k) (suc i) ≡ pos 0
number_other k i = entry_zeros 48 i

entry_minus : (a b : List ℤ) (i : ℕ) → entry (minus a b) i ≡ entry a i +ℤ neg_ℤ (entry b i)
entry_minus a b i = entry_plus a (scale (negsuc 0) b) i ∙ ap (λ z. entry a i +ℤ z) (entry_scale (negsuc 0) b i ∙ minus_one_*ℤ (entry b i))

-- ---- one coefficient

length_single : (c : ℤ) (j : ℕ) (k : ℤ) → length (single c j k) ≡ 49
unfolding single
length_single c j k = length-set (number c) (suc j) k

single_same : (c : ℤ) (j : ℕ) (k : ℤ) → j < 48 → entry (single c j k) (suc j) ≡ k
unfolding single
single_same c j k h = get_or-set_same (number c) (suc j) k (pos 0) (omega arith)

single_other : (c : ℤ) (j : ℕ) (k : ℤ) (i : ℕ) → (i ≡ j → ⊥) → entry (single c j k) (suc i) ≡ pos 0
unfolding single
single_other c j k i h = get_or-set_other (zeros 48) j i k (pos 0) h ∙ entry_zeros 48 i

single_constant : (c : ℤ) (j : ℕ) (k : ℤ) → entry (single c j k) 0 ≡ c
unfolding single
single_constant c j k = refl

pub is_single : (e : List ℤ) (c : ℤ) (j : ℕ) (k : ℤ)
    → j < 48
    → length e ≡ 49
    → entry e 0 ≡ c
    → entry e (suc j) ≡ k
    → ((i : ℕ) → (i ≡ j → ⊥) → entry e (suc i) ≡ pos 0)
    → e ≡ single c j k
is_single e c j k h l e0 ej ei = by_entries e (single c j k) (l ∙ sym (length_single c j k)) go
  where
    at : (i : ℕ) → Dec (i ≡ j) → entry e (suc i) ≡ entry (single c j k) (suc i)
    at i (yes q) = ap (λ n. entry e (suc n)) q ∙ ej ∙ sym (single_same c j k h) ∙ ap (λ n. entry (single c j k) (suc n)) (sym q)
    at i (no q) = ei i q ∙ sym (single_other c j k i q)

    go : (i : ℕ) → entry e i ≡ entry (single c j k) i
    go zero = e0 ∙ sym (single_constant c j k)
    go (suc i) = at i (ℕ_discrete i j)

module _ (j : ℕ) (h : j < 48) where
  -- column j
  pub column_single : column j ≡ single (pos 0) j (pos 1)
  column_single = is_single (column j) (pos 0) j (pos 1) h (whole_column j h) refl (column_same j) (column_other j)

  -- column j − k
  pub minus_number : (k : ℤ) → minus (column j) (number k) ≡ single (neg_ℤ k) j (pos 1)
  minus_number k = is_single (minus (column j) (number k)) (neg_ℤ k) j (pos 1) h
      (whole_minus (column j) (number k) (whole_column j h) (whole_number k))
      (entry_minus (column j) (number k) 0 ∙ +ℤ_idl (neg_ℤ k))
      (entry_minus (column j) (number k) (suc j) ∙ ap₂ (λ x y. x +ℤ neg_ℤ y) (column_same j) (number_other k j))
      (λ i q. entry_minus (column j) (number k) (suc i) ∙ ap₂ (λ x y. x +ℤ neg_ℤ y) (column_other j i q) (number_other k i))

  -- k − column j
  pub number_minus : (k : ℤ) → minus (number k) (column j) ≡ single k j (negsuc 0)
  number_minus k = is_single (minus (number k) (column j)) k j (negsuc 0) h
      (whole_minus (number k) (column j) (whole_number k) (whole_column j h))
      (entry_minus (number k) (column j) 0 ∙ +ℤ_idr k)
      (entry_minus (number k) (column j) (suc j) ∙ ap₂ (λ x y. x +ℤ neg_ℤ y) (number_other k j) (column_same j))
      (λ i q. entry_minus (number k) (column j) (suc i) ∙ ap₂ (λ x y. x +ℤ neg_ℤ y) (number_other k i) (column_other j i q))

  -- column j − 1
  pub above_column : above (column j) ≡ single (negsuc 0) j (pos 1)
  above_column = is_single (above (column j)) (negsuc 0) j (pos 1) h
      (whole_above (column j) (whole_column j h))
      (entry_plus (column j) (number (negsuc 0)) 0)
      (entry_plus (column j) (number (negsuc 0)) (suc j) ∙ ap₂ ◌+ℤ◌ (column_same j) (number_other (negsuc 0) j))
      (λ i q. entry_plus (column j) (number (negsuc 0)) (suc i) ∙ ap₂ ◌+ℤ◌ (column_other j i q) (number_other (negsuc 0) i))

-- ---- two coefficients

length_difference : (i j : ℕ) → length (difference i j) ≡ 49
unfolding difference
length_difference i j = length-set (set (number (pos 0)) (suc i) (pos 1)) (suc j) (negsuc 0) ∙ length-set (number (pos 0)) (suc i) (pos 1)

module _ (i j : ℕ) (hi : i < 48) (hj : j < 48) (apart : i ≡ j → ⊥) where
  -- column i − column j
  pub columns_difference : minus (column i) (column j) ≡ difference i j
  unfolding difference
  columns_difference = by_entries (minus (column i) (column j)) (difference i j)
      (whole_minus (column i) (column j) (whole_column i hi) (whole_column j hj) ∙ sym (length_difference i j)) go
    where
      first : entry (minus (column i) (column j)) (suc i) ≡ entry (difference i j) (suc i)
      first = entry_minus (column i) (column j) (suc i) ∙ ap₂ (λ x y. x +ℤ neg_ℤ y) (column_same i) (column_other j i apart)
          ∙ sym (get_or-set_other (set (zeros 48) i (pos 1)) j i (negsuc 0) (pos 0) apart ∙ get_or-set_same (zeros 48) i (pos 1) (pos 0) (omega arith))

      second : entry (minus (column i) (column j)) (suc j) ≡ entry (difference i j) (suc j)
      second = entry_minus (column i) (column j) (suc j) ∙ ap₂ (λ x y. x +ℤ neg_ℤ y) (column_other i j (λ q. apart (sym q))) (column_same j)
          ∙ sym (get_or-set_same (set (zeros 48) i (pos 1)) j (negsuc 0) (pos 0) (rw length-set (omega arith)))

      other : (k : ℕ) → (k ≡ i → ⊥) → (k ≡ j → ⊥) → entry (minus (column i) (column j)) (suc k) ≡ entry (difference i j) (suc k)
      other k p q = entry_minus (column i) (column j) (suc k) ∙ ap₂ (λ x y. x +ℤ neg_ℤ y) (column_other i k p) (column_other j k q)
          ∙ sym (get_or-set_other (set (zeros 48) i (pos 1)) j k (negsuc 0) (pos 0) q ∙ get_or-set_other (zeros 48) i k (pos 1) (pos 0) p ∙ entry_zeros 48 k)

      at : (k : ℕ) → Dec (k ≡ i) → Dec (k ≡ j) → entry (minus (column i) (column j)) (suc k) ≡ entry (difference i j) (suc k)
      at k (yes p) d = subst (λ n. entry (minus (column i) (column j)) (suc n) ≡ entry (difference i j) (suc n)) (sym p) first
      at k (no p) (yes q) = subst (λ n. entry (minus (column i) (column j)) (suc n) ≡ entry (difference i j) (suc n)) (sym q) second
      at k (no p) (no q) = other k p q

      go : (k : ℕ) → entry (minus (column i) (column j)) k ≡ entry (difference i j) k
      go zero = refl
      go (suc k) = at k (ℕ_discrete k i) (ℕ_discrete k j)

-- ---- e − 1 and −e − 1 of a whole form

pub plus_zeros : (a : List ℤ) (n : ℕ) → n ≤ length a → plus a (zeros n) ≡ a
plus_zeros [] zero h = refl
plus_zeros [] (suc n) h = absurd (omega arith)
plus_zeros (x ∷ a) zero h = refl
plus_zeros (x ∷ a) (suc n) h = ap₂ ◌∷◌ (+ℤ_idr x) (plus_zeros a n (omega arith))

pub zeros_plus : (n : ℕ) (a : List ℤ) → n ≤ length a → plus (zeros n) a ≡ a
zeros_plus zero a h = refl
zeros_plus (suc n) [] h = absurd (omega arith)
zeros_plus (suc n) (x ∷ a) h = ap₂ ◌∷◌ (+ℤ_idl x) (zeros_plus n a (omega arith))

pub plus_none : (a : List ℤ) → plus a [] ≡ a
plus_none [] = refl
plus_none (x ∷ a) = refl

pub plus_assoc : (a b c : List ℤ) → plus (plus a b) c ≡ plus a (plus b c)
plus_assoc [] b c = refl
plus_assoc (x ∷ a) [] c = refl
plus_assoc (x ∷ a) (y ∷ b) [] = refl
plus_assoc (x ∷ a) (y ∷ b) (z ∷ c) = ap₂ ◌∷◌ (+ℤ_assoc x y z) (plus_assoc a b c)

pub above_form : (c : ℤ) (cs : List ℤ) → length cs ≡ 48 → above (c ∷ cs) ≡ (c +ℤ negsuc 0) ∷ cs
above_form c cs h = ap (λ l. (c +ℤ negsuc 0) ∷ l) (plus_zeros cs 48 (omega arith))

pub below_form : (c : ℤ) (cs : List ℤ) → length cs ≡ 48 → below (c ∷ cs) ≡ ((negsuc 0 *ℤ c) +ℤ negsuc 0) ∷ scale (negsuc 0) cs
below_form c cs h = ap (λ l. ((negsuc 0 *ℤ c) +ℤ negsuc 0) ∷ l) (plus_zeros (scale (negsuc 0) cs) 48 (omega (arith, length_scale (negsuc 0) cs)))

-- ---- rows with these forms in place of another

pub above_fact : (row : List ℤ) (v : ℤ)
    → length row ≡ 50
    → v ≡ get_or row 1 (pos 0) +ℤ negsuc 0
    → fact_of (set (set row 0 (pos 0)) 1 v) ≡ arithmetic ge (above (drop 1 row))
above_fact [] v h e = absurd (omega arith)
above_fact (x ∷ []) v h e = absurd (omega arith)
above_fact (x ∷ c ∷ cs) v h e = relation_fact 0 (v ∷ cs) (omega arith) ∙ ap (arithmetic ge) (ap (λ z. z ∷ cs) e ∙ sym (above_form c cs (omega arith)))

pub below_fact : (row : List ℤ) (v : ℤ) → length row ≡ 50 → v ≡ (negsuc 0 *ℤ get_or row 1 (pos 0)) +ℤ negsuc 0
    → fact_of (set (pos 0 ∷ scale (negsuc 0) (drop 1 row)) 1 v) ≡ arithmetic ge (below (drop 1 row))
below_fact [] v h e = absurd (omega arith)
below_fact (x ∷ []) v h e = absurd (omega arith)
below_fact (x ∷ c ∷ cs) v h e =
    relation_fact 0 (v ∷ scale (negsuc 0) cs) (omega arith) ∙ ap (arithmetic ge) (ap (λ z. z ∷ scale (negsuc 0) cs) e ∙ sym (below_form c cs (omega arith)))

pub equation_fact : (row : List ℤ) → length row ≡ 50 → fact_of (set row 0 (pos 1)) ≡ arithmetic eq (drop 1 row)
unfolding tag_of
equation_fact row h = tag_set eq [] row h

-- a number of the negative
pub negative_number : (row : List ℤ) (j : ℕ) → 1 ≤ j → get_or (pos 0 ∷ scale (negsuc 0) (drop 1 row)) j (pos 0) ≡ negsuc 0 *ℤ get_or row j (pos 0)
negative_number row zero h = absurd (omega arith)
negative_number [] (suc j) h = refl
negative_number (x ∷ row) (suc j) h = entry_scale (negsuc 0) row j

pub length_negative : (row : List ℤ) → length row ≡ 50 → length (pos 0 ∷ scale (negsuc 0) (drop 1 row)) ≡ 50
length_negative [] h = absurd (omega arith)
length_negative (x ∷ row) h = ap suc (length_scale (negsuc 0) row) ∙ h
