-- Division of a sum: "Column sums must divide exactly; the constant is divided rounding down".
use Prim.Native.Nat.{ℕ, suc, ◌≤◌, ◌<◌}
use native.Mathlib.Omega.{arith}
use mathlib.Core.Path.{◌≡◌, refl, sym, ◌∙◌, ap, ap₂}
use mathlib.Core.Bool.{Bool, true, false, ◌&&◌, and-false}
use mathlib.Core.Option.{Option, none, some}
use mathlib.Core.List.{List, [], ◌∷◌}
use borrow.Author.Tests.{le-leb, eqb-true, eqb-false}
use lib.ListN.{length, get_or, drop, set}
use lib.Dec.{leb, eqb}
use lib.IntN.{ℤ, pos, nat_abs, ◌*ℤ◌, *ℤ_comm}
use lib.Signed.{◌≤ℤ◌, quot_z}
use mir.Syntax.{w64}
use mir.Val.{SFits, of_z}
use Rattle.integers.proofs.Ring.{v, ◌⊕◌, ◌⊗◌, le_by, lt_by}
use Rattle.integers.proofs.Laws.{one_*ℤ, pos_≤ℤ, ≤ℤ_trans, abs_nonneg, ≤ℤ_abs, floor_multiple, floor_one}
use Rattle.integers.proofs.Machine.{quot_multiple, back_fits}
use Rattle.lists.proofs.Filled.{changed_from}
use Rattle.lists.proofs.Lists.{get_d_map}
use Rattle.lists.proofs.Options.{some_injective, none_some, some_none}
use Rattle.integers.specs.Division.{floor_div}
use Rattle.calculus.specs.LinearForms.{scale, eqℤ, eq_integers, floor_div_all}
use Rattle.calculus.specs.Rules.{guard, divided, divides_exactly}
use Rattle.calculus.specs.Instances.{entry}
use Rattle.calculus.proofs.Entries.{entry_scale, length_scale, length_floor_div_all, →divided}
use Rattle.rows.proofs.Tested.{same_bits, eqℤ_yes, eqℤ_no}
use Rattle.sums.specs.Sums.{ge_row, row_in}

-- a positive number
pub positive_is : (d : ℤ) → pos 1 ≤ℤ d → (d ≡ pos (nat_abs d)) × (1 ≤ nat_abs d)
positive_is d h = (abs_nonneg d (≤ℤ_trans (pos_≤ℤ (omega arith)) h), ≤ℤ_abs d h)

-- ---- one number

-- x / n × n is x: then n divides x, and the quotient is rounded down
pub exact_yes : (x : ℤ) (n : ℕ) → 1 ≤ n → quot_z x (pos n) *ℤ pos n ≡ x → (pos n *ℤ floor_div x n ≡ x) × (quot_z x (pos n) ≡ floor_div x n)
exact_yes x n h e =
    let back : pos n *ℤ quot_z x (pos n) ≡ x = *ℤ_comm (pos n) (quot_z x (pos n)) ∙ e in
    let same : floor_div x n ≡ quot_z x (pos n) = ap (λ z. floor_div z n) (sym back) ∙ floor_multiple (quot_z x (pos n)) n h in
    (ap (λ z. pos n *ℤ z) same ∙ back, sym same)

pub exact_no : (x : ℤ) (n : ℕ) → 1 ≤ n → (quot_z x (pos n) *ℤ pos n ≡ x → ⊥) → pos n *ℤ floor_div x n ≡ x → ⊥
exact_no x n h f e =
    let same : quot_z x (pos n) ≡ floor_div x n = ap (λ z. quot_z z (pos n)) (sym e) ∙ quot_multiple n (floor_div x n) h in
    f (ap (λ z. z *ℤ pos n) same ∙ *ℤ_comm (floor_div x n) (pos n) ∙ e)

-- the test, as the machine makes it
pub exact_test : (x : ℤ) (n : ℕ) → 1 ≤ n → SFits w64 x → eqb (of_z w64 (quot_z x (pos n) *ℤ pos n)) (of_z w64 x) ≡ eqℤ (pos n *ℤ floor_div x n) x
exact_test x n h f = go (eqb (of_z w64 (quot_z x (pos n) *ℤ pos n)) (of_z w64 x)) refl
  where
    go : (t : Bool) → eqb (of_z w64 (quot_z x (pos n) *ℤ pos n)) (of_z w64 x) ≡ t → t ≡ eqℤ (pos n *ℤ floor_div x n) x
    go true e = sym (eqℤ_yes _ _ (exact_yes x n h (same_bits _ x (back_fits x n f) f (eqb-true _ _ e))).0)
    go false e = sym (eqℤ_no _ _ (exact_no x n h (λ q. eqb-false _ _ e (ap (of_z w64) q))))

-- ---- a row

-- the row that division gives, after the tag 0
abbrev pub quotients : List ℤ → ℕ → List ℤ
quotients row n = pos 0 ∷ floor_div (get_or row 1 (pos 0)) n ∷ floor_div_all (drop 2 row) n

-- the row with its columns divided, and its constant as it was
abbrev pub partly : List ℤ → ℕ → List ℤ
partly row n = changed_from 2 (λ x. floor_div x n) row

pub partly_constant : (row : List ℤ) (n : ℕ) → length row ≡ 50 → get_or (partly row n) 1 (pos 0) ≡ get_or row 1 (pos 0)
partly_constant [] n h = absurd (omega arith)
partly_constant (x ∷ []) n h = absurd (omega arith)
partly_constant (x ∷ c ∷ cs) n h = refl

-- then the constant too
pub partly_whole : (row : List ℤ) (n : ℕ) (q : ℤ)
    → length row ≡ 50
    → get_or row 0 (pos 0) ≡ pos 0
    → q ≡ floor_div (get_or row 1 (pos 0)) n
    → set (partly row n) 1 q ≡ quotients row n
partly_whole [] n q h t e = absurd (omega arith)
partly_whole (x ∷ []) n q h t e = absurd (omega arith)
partly_whole (x ∷ c ∷ cs) n q h t e = ap₂ (λ y z. y ∷ z ∷ floor_div_all cs n) t e

-- the quotients times the divisor
abbrev pub multiples : List ℤ → ℕ → List ℤ
multiples row n = scale (pos n) (floor_div_all row n)

pub length_multiples : (row : List ℤ) (n : ℕ) → length (multiples row n) ≡ length row
length_multiples row n = length_scale (pos n) (floor_div_all row n) ∙ length_floor_div_all row n

pub multiple_number : (row : List ℤ) (n j : ℕ) → j < length row → get_or (multiples row n) j (pos 0) ≡ pos n *ℤ floor_div (get_or row j (pos 0)) n
multiple_number row n j h = entry_scale (pos n) (floor_div_all row n) j ∙ ap (λ z. pos n *ℤ z) (get_d_map (λ x. floor_div x n) row j (pos 0) (pos 0) h)

-- ---- the whole division

pub divided_no : (row : List ℤ) (n : ℕ) → length row ≡ 50 → eq_integers (drop 2 (multiples row n)) (drop 2 row) ≡ false → divided n (drop 1 row) ≡ none
divided_no [] n h e = absurd (omega arith)
divided_no (x ∷ []) n h e = absurd (omega arith)
divided_no (x ∷ c ∷ cs) n h e = ap (λ t. guard t (floor_div c n ∷ floor_div_all cs n)) (ap (λ t. leb 1 n && t) e ∙ and-false (leb 1 n))

pub divided_yes : (row : List ℤ) (n : ℕ)
    → 1 ≤ n
    → length row ≡ 50
    → eq_integers (drop 2 (multiples row n)) (drop 2 row) ≡ true
    → divided n (drop 1 row) ≡ some (drop 1 (quotients row n))
divided_yes [] n d h e = absurd (omega arith)
divided_yes (x ∷ []) n d h e = absurd (omega arith)
divided_yes (x ∷ c ∷ cs) n d h e = ap (λ t. guard t (floor_div c n ∷ floor_div_all cs n)) (ap₂ ◌&&◌ (le-leb 1 n d) e)

-- by 1
pub divided_one : (e : List ℤ) → 1 ≤ length e → divided 1 e ≡ some e
divided_one e h = →divided 1 e e h refl (record {
  divisor = omega arith;
  columns = λ j. one_*ℤ (entry e (suc j));
  floor_low = le_by (v (pos 1) ⊗ v (entry e 0)) (v (entry e 0)) (omega arith);
  floor_high = lt_by (v (entry e 0)) (v (pos 1) ⊗ (v (entry e 0) ⊕ v (pos 1))) (omega arith);
})

-- ---- the constant

pub exactly_is : (row : List ℤ) (n : ℕ)
    → length row ≡ 50
    → divides_exactly n (drop 1 row) ≡ eqℤ (pos n *ℤ floor_div (get_or row 1 (pos 0)) n) (get_or row 1 (pos 0))
unfolding divides_exactly
exactly_is [] n h = absurd (omega arith)
exactly_is (x ∷ []) n h = absurd (omega arith)
exactly_is (x ∷ c ∷ cs) n h = refl

-- by 1
pub exactly_one : (row : List ℤ) → length row ≡ 50 → divides_exactly 1 (drop 1 row) ≡ true
exactly_one row h =
    let c = get_or row 1 (pos 0) in
    exactly_is row 1 h
    ∙ eqℤ_yes (pos 1 *ℤ floor_div c 1) c (one_*ℤ (floor_div c 1) ∙ floor_one c)

-- ---- the tag, and the form after it

-- a row with a known tag
pub tag_first : (row : List ℤ) (z : ℤ) → length row ≡ 50 → get_or row 0 (pos 0) ≡ z → row ≡ z ∷ drop 1 row
tag_first [] z h e = absurd (omega arith)
tag_first (x ∷ row) z h e = ap (λ y. y ∷ row) e

pub no_row : (t : Bool) (row : List ℤ) (o : Option (List ℤ)) → t ≡ false → row_in t row ≡ ge_row o → o ≡ none
unfolding row_in
no_row t row none f e = refl
no_row t row (some a) f e = absurd (none_some (ap (λ s. guard s row) (sym f) ∙ e))

pub some_row : (t : Bool) (row : List ℤ) (o : Option (List ℤ)) → t ≡ true → row_in t row ≡ ge_row o → (o ≡ some (drop 1 row)) × (get_or row 0 (pos 0) ≡ pos 0)
unfolding row_in
some_row t row none f e = absurd (some_none (ap (λ s. guard s row) (sym f) ∙ e))
some_row t row (some a) f e =
    let q : row ≡ pos 0 ∷ a = some_injective (ap (λ s. guard s row) (sym f) ∙ e) in
    (ap (λ (l : List ℤ). some (drop 1 l)) (sym q), ap (λ (l : List ℤ). get_or l 0 (pos 0)) q)
