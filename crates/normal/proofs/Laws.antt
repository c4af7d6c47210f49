-- Laws for the loops over a form and over rows, and what a row's tag and numbers say of its fact's normal form.
use Prim.Native.Nat.{ℕ, zero, suc, ◌+◌, ◌*◌, ◌-◌, ◌≤◌, ◌<◌}
use native.Mathlib.Omega.{arith}
use native.Mathlib.Nat.{div-le_self}
use mathlib.Core.Path.{◌≡◌, refl, sym, ◌∙◌, ap, ap₂}
use mathlib.Core.Bool.{Bool, true, false, cond, not}
use mathlib.Core.List.{List, [], ◌∷◌, ◌++◌, append-nil, map, map-append}
use borrow.Rule.Slice.PartMut.{put_mid, drop_put}
use borrow.Author.Tests.{le-leb, lt-leb}
use lib.ListN.{length, get_or, drop, set, drop_of_length-le}
use lib.Seq.{drop-drop, take_all}
use lib.Dec.{leb}
use lib.IntN.{ℤ, pos, negsuc, nat_abs}
use lib.Signed.{non_neg}
use Rattle.std.proofs.Common.{unwrap_or, Some}
use Rattle.std.specs.List.{find}
use Rattle.calculus.proofs.Divisors.{gcd_le}
use Rattle.integers.specs.Division.{floor_div}
use Rattle.integers.proofs.Laws.{floor_one}
use Rattle.lists.specs.Lists.{All}
use Rattle.calculus.specs.Limits.{number_limit, variable_limit, Small}
use Rattle.calculus.specs.LinearForms.{is_zero, scale, floor_div_all}
use Rattle.calculus.specs.Facts.{Fact, same, not_same, is_literal, arithmetic, ge, eq, ne}
use Rattle.calculus.specs.NormalForms.{divisor_of, divided_by, reduced, first_nonzero, leading, with_positive_lead, turned, normal}
use Rattle.format.specs.Fields.{all_within}
use Rattle.format.specs.Question.{string_fact, relation_of}
use Rattle.format.specs.Checking.{fact_within}
use Rattle.format.proofs.Limits.{within→, →within}
use Rattle.rows.specs.Rows.{row_length, fact_of, row_at, branch_of}
use Rattle.rows.specs.Work.{tag_of}
use Rattle.rows.proofs.Branches.{branch_more}
use Rattle.rows.proofs.Tags.{row_relation, row_string, tag_kept, index_of}

-- ---- a row whose form is lent and comes back

pub form_put_back : (row l : List ℤ) → length row ≡ row_length → put_mid 1 (length row - 1) row l ≡ get_or row 0 (pos 0) ∷ l
form_put_back [] l h = absurd (omega arith)
form_put_back (x ∷ row) l h = ap (λ (rest : List ℤ). x ∷ (l ++ rest)) (drop_of_length-le row (omega arith)) ∙ ap (λ (m : List ℤ). x ∷ m) (append-nil l)

-- a row lent alone is row 0 of the slice
pub row_alone : (row r : List ℤ) → length row ≡ row_length → r ≡ row_at row 0 → r ≡ row
row_alone row r n e = e ∙ take_all row_length row (omega arith)

-- ---- the divisor

pub divisor_small : (e : List ℤ) → all_within number_limit e ≡ true → divisor_of e ≤ number_limit
unfolding divisor_of
divisor_small e h = go e (within→ number_limit e h)
  where
    go : (l : List ℤ) → All (Small number_limit) l → divisor_of l ≤ number_limit
    go [] g = omega arith
    go (z ∷ l) (g, gs) = gcd_le (nat_abs z) (divisor_of l) number_limit g (go l gs)

-- ---- division by it

pub reduced_by : (e : List ℤ) (d : ℕ) → d ≡ divisor_of e → 1 ≤ d → reduced e ≡ floor_div_all e d
unfolding reduced
reduced_by e zero h g = absurd (omega arith)
reduced_by e (suc d) h g = ap (λ n. divided_by n e) (sym h)

-- by 1 nothing changes
pub reduced_same : (e : List ℤ) (d : ℕ) → d ≡ divisor_of e → d ≤ 1 → reduced e ≡ e
unfolding reduced
reduced_same e zero h g = ap (λ n. divided_by n e) (sym h)
reduced_same e (suc zero) h g = ap (λ n. divided_by n e) (sym h) ∙ all_one e
  where
    all_one : (l : List ℤ) → floor_div_all l 1 ≡ l
    all_one [] = refl
    all_one (z ∷ l) = ap₂ ◌∷◌ (floor_one z) (all_one l)
reduced_same e (suc (suc d)) h g = absurd (omega arith)

-- no number grows
floor_small : (z : ℤ) (d k : ℕ) → nat_abs z ≤ k → nat_abs (floor_div z d) ≤ k
floor_small (pos a) d k h = omega (arith, div-le_self a d)
floor_small (negsuc a) d k h = omega (arith, div-le_self a d)

pub reduced_within : (e : List ℤ) → all_within number_limit e ≡ true → all_within number_limit (reduced e) ≡ true
unfolding reduced
reduced_within e h = go (divisor_of e)
  where
    small : (d : ℕ) (l : List ℤ) → All (Small number_limit) l → All (Small number_limit) (floor_div_all l d)
    small d [] g = tt
    small d (z ∷ l) (g, gs) = (floor_small z d number_limit g, small d l gs)

    go : (d : ℕ) → all_within number_limit (divided_by d e) ≡ true
    go zero = h
    go (suc d) = →within number_limit (floor_div_all e (suc d)) (small (suc d) e (within→ number_limit e h))

-- ---- the leading number

pub leading_row : (row : List ℤ) → length row ≡ 50 → leading (drop 1 row) ≡ first_nonzero (get_or row 1 (pos 0)) (drop 2 row)
leading_row [] h = absurd (omega arith)
leading_row (x ∷ []) h = absurd (omega arith)
leading_row (x ∷ c ∷ ks) h = refl

-- as the first number that a search finds
pub first_found : (c : ℤ) (l : List ℤ) → unwrap_or (find (λ z. not (is_zero z)) l) c ≡ first_nonzero c l
unfolding first_nonzero
first_found c [] = refl
first_found c (z ∷ l) = go (is_zero z) (first_found c l)
  where
    go : (t : Bool) → unwrap_or (find (λ z. not (is_zero z)) l) c ≡ first_nonzero c l
        → unwrap_or (cond (not t) (Some z) (find (λ z. not (is_zero z)) l)) c ≡ elim t as (λ _. ℤ) [ true ↦ first_nonzero c l | false ↦ z ]
    go true e = e
    go false e = refl

-- ---- the sign

pub lead_kept : (e : List ℤ) (k : ℕ) → leading e ≡ pos k → with_positive_lead e ≡ e
unfolding with_positive_lead
lead_kept e k h = ap (λ z. cond (non_neg z) e (scale (negsuc 0) e)) h

pub lead_turned : (e : List ℤ) (k : ℕ) → leading e ≡ negsuc k → with_positive_lead e ≡ scale (negsuc 0) e
unfolding with_positive_lead
lead_turned e k h = ap (λ z. cond (non_neg z) e (scale (negsuc 0) e)) h

-- ---- arithmetic facts

turned_other : (k : ℕ) (e : List ℤ) → (k ≡ 0 → ⊥) → turned (relation_of k) e ≡ with_positive_lead e
turned_other zero e h = absurd (h refl)
turned_other (suc zero) e h = refl
turned_other (suc (suc k)) e h = refl

module _ (row : List ℤ) (k : ℕ) (h : k ≡ tag_of (fact_of row)) (g : k ≤ 2) where
  pub row_within : fact_within (fact_of row) ≡ all_within number_limit (drop 1 row)
  row_within = ap fact_within (row_relation row k h g)

  -- another form after the tag
  form_put : (e : List ℤ) → fact_of (get_or row 0 (pos 0) ∷ e) ≡ arithmetic (relation_of k) e
  form_put e = row_relation (get_or row 0 (pos 0) ∷ e) k (h ∙ tag_kept row (get_or row 0 (pos 0) ∷ e) refl) g

  form_normal : normal (fact_of row) ≡ arithmetic (relation_of k) (turned (relation_of k) (reduced (drop 1 row)))
  unfolding normal
  form_normal = ap normal (row_relation row k h g)

  pub normal_plain : k ≡ 0 → fact_of (get_or row 0 (pos 0) ∷ reduced (drop 1 row)) ≡ normal (fact_of row)
  normal_plain e =
      let form = reduced (drop 1 row) in
      form_put form ∙ ap (λ (i : ℕ). arithmetic (relation_of k) (turned (relation_of i) form)) (sym e) ∙ sym form_normal

  pub normal_turned : (k ≡ 0 → ⊥) → fact_of (get_or row 0 (pos 0) ∷ with_positive_lead (reduced (drop 1 row))) ≡ normal (fact_of row)
  normal_turned n =
      let form = reduced (drop 1 row) in
      form_put (with_positive_lead form) ∙ ap (arithmetic (relation_of k)) (sym (turned_other k form n)) ∙ sym form_normal

-- ---- string facts

ordered : (r x y : ℕ) → r ≤ 1 → normal (string_fact r x y) ≡ cond (leb x y) (string_fact r x y) (string_fact r y x)
unfolding normal
ordered zero x y h = refl
ordered (suc zero) x y h = refl
ordered (suc (suc r)) x y h = absurd (omega arith)

module _ (r x y : ℕ) (h : r ≤ 1) where
  pub lower_first : x ≤ y → normal (string_fact r x y) ≡ string_fact r x y
  lower_first g = ordered r x y h ∙ ap (λ t. cond t (string_fact r x y) (string_fact r y x)) (le-leb x y g)

  pub lower_second : y < x → normal (string_fact r x y) ≡ string_fact r y x
  lower_second g = ordered r x y h ∙ ap (λ t. cond t (string_fact r x y) (string_fact r y x)) (lt-leb x y g)

-- a row's operands change places
pub operands_put : (row : List ℤ) (k x y : ℕ)
    → length row ≡ 50
    → k ≡ tag_of (fact_of row)
    → 2 < k
    → x < variable_limit
    → y < variable_limit
    → fact_of (set (set row 1 (pos x)) 2 (pos y)) ≡ string_fact (k - 3) x y
operands_put [] k x y l h g f e = absurd (omega arith)
operands_put (z ∷ []) k x y l h g f e = absurd (omega arith)
operands_put (z ∷ a ∷ []) k x y l h g f e = absurd (omega arith)
operands_put (z ∷ a ∷ b ∷ row) k x y l h g f e =
    row_string (z ∷ pos x ∷ pos y ∷ row) k (h ∙ tag_kept (z ∷ a ∷ b ∷ row) (z ∷ pos x ∷ pos y ∷ row) refl) g
    ∙ ap₂ (string_fact (k - 3)) (index_of x f) (index_of y e)

-- variable ≈ literal is in normal form
pub literal_normal : (f : Fact) → 5 ≤ tag_of f → normal f ≡ f
unfolding normal tag_of
literal_normal (same x y) h = absurd (omega arith)
literal_normal (not_same x y) h = absurd (omega arith)
literal_normal (is_literal x l) h = refl
literal_normal (arithmetic ge e) h = absurd (omega arith)
literal_normal (arithmetic eq e) h = absurd (omega arith)
literal_normal (arithmetic ne e) h = absurd (omega arith)

-- ---- the rows of the work area

-- a row's stretch is lent and comes back: the numbers after it are as they were
pub behind_filled : (w₀ w row : List ℤ) (k : ℕ)
    → row_length * k + row_length ≤ length w
    → length row ≡ row_length
    → drop (row_length * k) w ≡ drop (row_length * k) w₀
    → drop (row_length * (k + 1)) (put_mid (row_length * k) (row_length * k + row_length - row_length * k) w row) ≡ drop (row_length * (k + 1)) w₀
behind_filled w₀ w row k h n e =
    let from = row_length * k in
    let next : row_length * (k + 1) ≡ from + row_length = omega arith in
    rw next
    (drop_put from (from + row_length) w row (omega arith) h (omega arith)
    ∙ sym (drop-drop row_length from w)
    ∙ ap (λ (l : List ℤ). drop row_length l) e
    ∙ drop-drop row_length from w₀)

-- the next row was put in its normal form
pub normal_more : (w₀ w v : List ℤ) (k : ℕ)
    → branch_of w k ≡ map normal (branch_of w₀ k)
    → row_at w k ≡ row_at w₀ k
    → branch_of v (k + 1) ≡ branch_of w k ++ (normal (fact_of (row_at w k)) ∷ [])
    → branch_of v (k + 1) ≡ map normal (branch_of w₀ (k + 1))
normal_more w₀ w v k before own put =
    put
    ∙ ap₂ (λ (b : List Fact) (row : List ℤ). b ++ (normal (fact_of row) ∷ [])) before own
    ∙ sym (ap (map normal) (branch_more w₀ k) ∙ map-append normal (branch_of w₀ k) (fact_of (row_at w₀ k) ∷ []))
