-- Normal forms of constraints, and questions that are the same: "Have we put this question before?" (02, L6).
use Rattle.std.specs.Prelude.{ℕ, zero, suc, ◌+◌, ◌*◌, ◌%◌, ◌≡◌, ◌⊎◌, Bool, true, false, cond, ◌&&◌, List, [], ◌∷◌, map, leb, eqb, ℤ, pos, negsuc, nat_abs, ◌≤ℤ◌}
use Rattle.std.specs.Int.Signed.{non_neg}
use Rattle.lists.specs.Lists.{All, Any, all, count, eq_list}
use Rattle.calculus.specs.LinearForms.{scale, is_zero, eq_integers, floor_div_all}
use Rattle.calculus.specs.Facts.{Question, Relation, ge, eq, ne, Fact, same, not_same, is_literal, arithmetic, fact_tag, literal}
use Rattle.calculus.specs.Extended.{Extended, is_upper, is_lower, is_value, is_decimal, in_order, Constraint, basic, extended, constraints_of}

-- ---- "the greatest common divisor of its coefficients and constant"

-- Euclid, of two numbers, within so many divisions
unfoldable pub gcd_within : ℕ → ℕ → ℕ → ℕ
gcd_within zero m n = m
gcd_within (suc d) m zero = m
gcd_within (suc d) m (suc n) = gcd_within d (suc n) (m % suc n)

-- each remainder is below the one before it, so that n divisions are enough
unfoldable pub gcd : ℕ → ℕ → ℕ
gcd m n = gcd_within n m n

-- of the sizes of all numbers of a form, the constant among them; 0 where all are 0
unfoldable pub divisor_of : List ℤ → ℕ
divisor_of [] = 0
divisor_of (z ∷ e) = gcd (nat_abs z) (divisor_of e)

-- d divides n
abbrev pub Divides : ℕ → ℕ → Type 0
Divides d n = (k : ℕ) × (n ≡ k * d)

-- the same in words: it divides each of some numbers, and every number that divides each of them divides it
pub record GreatestCommonDivisor (ns : List ℕ) (d : ℕ) : Type 0 where
  pub divides : All (Divides d) ns
  pub greatest : (c : ℕ) → All (Divides c) ns → Divides c d

-- ---- "An arithmetic constraint is first divided by the greatest common divisor .., if that is not 0"

-- the divisor divides each number, so that nothing is rounded
abbrev pub divided_by : ℕ → List ℤ → List ℤ
divided_by zero e = e
divided_by (suc d) e = floor_div_all e (suc d)

unfoldable pub reduced : List ℤ → List ℤ
reduced e = divided_by (divisor_of e) e

-- ---- "For = and ≠ the sign is then turned so that the first coefficient, or the constant where there is none, is positive"

-- the first number that is not 0, and c where there is none
unfoldable pub first_nonzero : ℤ → List ℤ → ℤ
first_nonzero c [] = c
first_nonzero c (k ∷ ks) = elim (is_zero k) [ true ↦ first_nonzero c ks | false ↦ k ]

-- coefficients stand after the constant, that of the lowest column first
abbrev pub leading : List ℤ → ℤ
leading [] = pos 0
leading (c ∷ ks) = first_nonzero c ks

-- 0 = 0 stays as it is
unfoldable pub with_positive_lead : List ℤ → List ℤ
with_positive_lead e = cond (non_neg (leading e)) e (scale (negsuc 0) e)

-- the same in words: it is the form or its negative, and what leads it is positive, unless all its numbers are 0
pub record PositiveLead (e : List ℤ) : Type 0 where
  pub either : (with_positive_lead e ≡ e) ⊎ (with_positive_lead e ≡ scale (negsuc 0) e)
  pub not_negative : pos 0 ≤ℤ leading (with_positive_lead e)
  pub zero_alone : leading (with_positive_lead e) ≡ pos 0 → All (λ z. z ≡ pos 0) e

-- ≥ is never turned
abbrev pub turned : Relation → List ℤ → List ℤ
turned ge e = e
turned eq e = with_positive_lead e
turned ne e = with_positive_lead e

-- ---- normal forms

-- "x ≈ y is y ≈ x, and so for ≉": the lower variable stands first
abbrev pub lower_first : (ℕ → ℕ → Fact) → ℕ → ℕ → Fact
lower_first f x y = cond (leb x y) (f x y) (f y x)

unfoldable pub normal : Fact → Fact
normal (same x y) = lower_first same x y
normal (not_same x y) = lower_first not_same x y
normal (is_literal x l) = is_literal x l
normal (arithmetic r e) = arithmetic r (turned r (reduced e))

abbrev pub normal_constraint : Constraint → Constraint
normal_constraint (basic f) = basic (normal f)
normal_constraint (extended e) = extended e

-- those of all constraints, in their order
abbrev pub normals : Question → List Extended → List Constraint
normals u es = map normal_constraint (constraints_of u es)

-- ---- when two constraints are alike: of one tag, with the same operands and the same form. Sameness asks it of normal forms.

-- the "u16 function" of kind 11: 0 to 4, in their order in 02, L3
abbrev pub function_number : Extended → ℕ
function_number (is_upper x y) = 0
function_number (is_lower x y) = 1
function_number (is_value x y) = 2
function_number (is_decimal x y) = 3
function_number (in_order x y) = 4

-- facts have 0 to 5, and functions follow from 6 on, so that a fact is never like an extended constraint
abbrev pub constraint_tag : Constraint → ℕ
constraint_tag (basic f) = fact_tag f
constraint_tag (extended e) = 6 + function_number e

-- "Literals compare by their characters": these stand in place of the literal's number, and the tag says how the list is read
abbrev pub operands_of : Question → Fact → List ℕ
operands_of u (same x y) = x ∷ y ∷ []
operands_of u (not_same x y) = x ∷ y ∷ []
operands_of u (is_literal x l) = x ∷ literal u l
operands_of u (arithmetic r e) = []

-- "Kind 11 compares field by field": "u16 a, u16 b"
abbrev pub fields_of : Extended → List ℕ
fields_of (is_upper x y) = x ∷ y ∷ []
fields_of (is_lower x y) = x ∷ y ∷ []
fields_of (is_value x y) = x ∷ y ∷ []
fields_of (is_decimal x y) = x ∷ y ∷ []
fields_of (in_order x y) = x ∷ y ∷ []

abbrev pub constraint_operands : Question → Constraint → List ℕ
constraint_operands u (basic f) = operands_of u f
constraint_operands u (extended e) = fields_of e

abbrev pub fact_form : Fact → List ℤ
fact_form (same x y) = []
fact_form (not_same x y) = []
fact_form (is_literal x l) = []
fact_form (arithmetic r e) = e

abbrev pub constraint_form : Constraint → List ℤ
constraint_form (basic f) = fact_form f
constraint_form (extended e) = []

-- c in the question u and d in v, in words and as a test
pub record Alike (u v : Question) (c d : Constraint) : Type 0 where
  pub tag : constraint_tag c ≡ constraint_tag d
  pub operands : constraint_operands u c ≡ constraint_operands v d
  pub form : constraint_form c ≡ constraint_form d

unfoldable pub alike : Question → Question → Constraint → Constraint → Bool
alike u v c d =
    eqb (constraint_tag c) (constraint_tag d)
    && (eq_list eqb (constraint_operands u c) (constraint_operands v d)
    && eq_integers (constraint_form c) (constraint_form d))

-- ---- questions that are the same

-- how many of some constraints of v are like c of u
abbrev pub occurrences : Question → Question → Constraint → List Constraint → ℕ
occurrences u v c ds = count (alike u v c) ds

-- agree holds of how often c of u occurs among some constraints of u, and among some of v
abbrev pub agrees_on : (ℕ → ℕ → Bool) → Question → List Constraint → Question → List Constraint → Constraint → Bool
agrees_on agree u mine v theirs c = agree (occurrences u u c mine) (occurrences u v c theirs)

-- and that for each of those of u
unfoldable pub agrees_by : (ℕ → ℕ → Bool) → Question → List Constraint → Question → List Constraint → Bool
agrees_by agree u mine v theirs = all (agrees_on agree u mine v theirs) mine

-- "n, p and q agree"
unfoldable pub eq_heads : Question → Question → Bool
eq_heads u v = eqb u.n v.n && (eqb u.p v.p && eqb u.q v.q)

-- heads agree, and agree holds for each normal form of either, of its counts on its own side and on the other
unfoldable pub same_by : (ℕ → ℕ → Bool) → Question → List Extended → Question → List Extended → Bool
same_by agree u es v ds = eq_heads u v && (agrees_by agree u (normals u es) v (normals v ds) && agrees_by agree v (normals v ds) u (normals u es))

-- it occurs on the other side; how often on its own does not matter
abbrev pub in_both : ℕ → ℕ → Bool
in_both mine theirs = leb 1 theirs

-- "n, p and q agree and the sets of constraints agree, order and repeats aside"
abbrev pub same_sets : Question → List Extended → Question → List Extended → Bool
same_sets u es v ds = same_by in_both u es v ds

-- each constraint of the one has one of the other with the same normal form, literals by their characters
abbrev pub EachIn : Question → List Extended → Question → List Extended → Type 0
EachIn u es v ds = All (λ c. Any (λ d. Alike u v (normal_constraint c) (normal_constraint d)) (constraints_of v ds)) (constraints_of u es)

-- the same in words
pub record SameSets (u : Question) (es : List Extended) (v : Question) (ds : List Extended) : Type 0 where
  pub n_agrees : u.n ≡ v.n
  pub p_agrees : u.p ≡ v.p
  pub q_agrees : u.q ≡ v.q
  pub first_in_second : EachIn u es v ds
  pub second_in_first : EachIn v ds u es
