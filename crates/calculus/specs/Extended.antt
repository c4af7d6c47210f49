-- Extended constraints: "Our conditions speak of capitals and numerals" (02, L3). Their functions are extended string functions of document 000, section 4:
-- to_upper, to_lower, to_int, from_int and ≤. An assignment meets them or not; they never stand on a branch.
use Rattle.std.specs.Prelude.{ℕ, zero, suc, ◌+◌, ◌*◌, ◌-◌, ◌/◌, ◌%◌, ◌<◌, ◌≡◌, Bool, true, false, not, cond, ◌&&◌, ◌||◌, List, [], ◌∷◌, ◌++◌, map, length, get_or, ltb, leb, eqb, ℤ, pos, negsuc}
use Rattle.lists.specs.Lists.{all}
use Rattle.calculus.specs.LinearForms.{eqℤ}
use Rattle.calculus.specs.Facts.{Question, Fact}
use Rattle.calculus.specs.Strings.{eq_string}
use Rattle.calculus.specs.Meaning.{Assignment, str, Meets}

-- ---- case

-- "(97 to 122 become 65 to 90)"; every other character stays. Document 000 prints this formula under the name of lower case.
abbrev pub upper_character : ℕ → ℕ
upper_character c = cond (leb 97 c && leb c 122) (c - 32) c

-- 000: "upper case letters (code points 65 to 90) to their lower case version"
abbrev pub lower_character : ℕ → ℕ
lower_character c = cond (leb 65 c && leb c 90) (c + 32) c

-- a string in upper case and in lower case
unfoldable pub upper : List ℕ → List ℕ
upper s = map upper_character s

unfoldable pub lower : List ℕ → List ℕ
lower s = map lower_character s

-- ---- numerals

-- the digit 0, and the digits
abbrev pub zero_digit : ℕ
zero_digit = 48

abbrev pub is_digit : ℕ → Bool
is_digit c = leb zero_digit c && leb c 57

-- "not empty, digits only, a leading 0 only when alone. The SMT-LIB standard differs there; document 000 decides": its formula prints ≈ ε for ≉ ε
unfoldable pub numeric : List ℕ → Bool
numeric s = ltb 0 (length s) && (all is_digit s && (eqb (length s) 1 || not (eqb (get_or s 0 0) zero_digit)))

-- the value of digits from the left, where those before them have the value v. It has no limit: "A recipient's numeral of 64 digits must be judged properly
-- although no answer integer can hold it".
unfoldable pub numeral_from : ℕ → List ℕ → ℕ
numeral_from v [] = v
numeral_from v (c ∷ s) = numeral_from (10 * v + (c - zero_digit)) s

abbrev pub numeral : List ℕ → ℕ
numeral s = numeral_from 0 s

-- "read in decimal, −1 if .. not numeric"
abbrev pub to_int : List ℕ → ℤ
to_int s = cond (numeric s) (pos (numeral s)) (negsuc 0)

-- a number in decimal, of at most so many digits
unfoldable pub decimal_within : ℕ → ℕ → List ℕ
decimal_within zero k = []
decimal_within (suc d) k = elim (ltb k 10) [ true ↦ (zero_digit + k) ∷ [] | false ↦ decimal_within d (k / 10) ++ ((zero_digit + k % 10) ∷ []) ]

-- one digit more than the number itself is enough
abbrev pub decimal : ℕ → List ℕ
decimal k = decimal_within (suc k) k

-- "in decimal, empty for negatives"
abbrev pub from_int : ℤ → List ℕ
from_int (pos k) = decimal k
from_int (negsuc k) = []

-- ---- order

-- "equal to or before .. by code points": the strings are equal, or the first is a proper prefix of the second, or it has the smaller character at the first
-- place where they differ
pub data Precedes (s t : List ℕ) : Type 0 where
  equal : s ≡ t → Precedes s t
  prefix : (c : ℕ) (rest : List ℕ) → t ≡ s ++ (c ∷ rest) → Precedes s t
  smaller : (front : List ℕ) (c d : ℕ) (s' t' : List ℕ) → s ≡ front ++ (c ∷ s') → t ≡ front ++ (d ∷ t') → c < d → Precedes s t

-- the same as a test
unfoldable pub precedes : List ℕ → List ℕ → Bool
precedes [] t = true
precedes (c ∷ s) [] = false
precedes (c ∷ s) (d ∷ t) = ltb c d || (eqb c d && precedes s t)

-- ---- extended constraints

-- string x is string y in upper case, in lower case; integer x is string y read in decimal; string x is integer y in decimal; string x is equal to or before
-- string y
pub data Extended : Type 0 where
  is_upper is_lower is_value is_decimal in_order : ℕ → ℕ → Extended

-- its operands are variables of the question
abbrev pub Names : Question → Extended → Type 0
Names u (is_upper x y) = (x < u.p) × (y < u.p)
Names u (is_lower x y) = (x < u.p) × (y < u.p)
Names u (is_value x y) = (x < u.q) × (y < u.p)
Names u (is_decimal x y) = (x < u.p) × (y < u.q)
Names u (in_order x y) = (x < u.p) × (y < u.p)

abbrev pub int : Assignment → ℕ → ℤ
int a x = get_or a.ints x (pos 0)

abbrev pub MeetsExtended : Assignment → Extended → Type 0
MeetsExtended a (is_upper x y) = str a x ≡ upper (str a y)
MeetsExtended a (is_lower x y) = str a x ≡ lower (str a y)
MeetsExtended a (is_value x y) = int a x ≡ to_int (str a y)
MeetsExtended a (is_decimal x y) = str a x ≡ from_int (int a y)
MeetsExtended a (in_order x y) = Precedes (str a x) (str a y)

-- the same as a test
abbrev pub meets_extended : Assignment → Extended → Bool
meets_extended a (is_upper x y) = eq_string (str a x) (upper (str a y))
meets_extended a (is_lower x y) = eq_string (str a x) (lower (str a y))
meets_extended a (is_value x y) = eqℤ (int a x) (to_int (str a y))
meets_extended a (is_decimal x y) = eq_string (str a x) (from_int (int a y))
meets_extended a (in_order x y) = precedes (str a x) (str a y)

-- ---- all constraints that judging numbers

pub data Constraint : Type 0 where
  basic : Fact → Constraint
  extended : Extended → Constraint

-- "Add kind 11 after kind 4, counted as constraints": those of the question, then the extended ones
abbrev pub constraints_of : Question → List Extended → List Constraint
constraints_of u es = map basic u.constraints ++ map extended es

abbrev pub MeetsConstraint : Question → Assignment → Constraint → Type 0
MeetsConstraint u a (basic f) = Meets u a f
MeetsConstraint u a (extended e) = MeetsExtended a e
