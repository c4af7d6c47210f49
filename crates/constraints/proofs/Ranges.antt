-- A constraint's body without fault: its fields are in range, and so are the numbers of its fact.
use Prim.Native.Nat.{ℕ, zero, suc, ◌+◌, ◌-◌, ◌/◌, ◌%◌, ◌≤◌, ◌<◌}
use native.Mathlib.Omega.{arith}
use native.Mathlib.Decide.{ℕ_discrete}
use mathlib.Core.Path.{◌≡◌, refl, ◌∙◌, ap, ap₂}
use mathlib.Core.Bool.{Bool, true, ◌&&◌, cond}
use mathlib.Core.List.{List, [], ◌∷◌}
use borrow.Author.Tests.{ltb-true, eq-eqb, ne_eqb, le-leb, lt-ltb}
use lib.ListN.{set}
use lib.Dec.{eqb, leb, ltb}
use lib.IntN.{ℤ}
use Rattle.lists.proofs.Tests.{and_both}
use Rattle.calculus.specs.Limits.{variable_limit, literal_limit, column_limit, number_limit}
use Rattle.calculus.specs.LinearForms.{zeros}
use Rattle.format.specs.Fields.{u16, i32, pairs_at, within, all_within}
use Rattle.format.specs.Records.{need}
use Rattle.format.specs.Question.{string_range, string_fact, string_fault, coefficient_in_range, pair_in_range, rising}
use Rattle.format.specs.Question.{form_range, fill_coefficients, form_of, arithmetic_fault, fact_fault, body_fact}
use Rattle.format.specs.Checking.{fact_within}
use Rattle.format.proofs.Faults.{passed}
use Rattle.format.proofs.RecordFaults.{StringConstraint, ArithmeticConstraint, FactBody, on_strings, on_columns, fact_formed}
use Rattle.format.proofs.Sums.{ranged}
use Rattle.rows.proofs.Small.{within_set}

-- the second operand is small whatever the relation
pub second_small : {m r x y : ℕ} → StringConstraint variable_limit literal_limit m r x y → y < 16
second_small {m} {r} {x} {y} c = go (ℕ_discrete r 2)
  where
    go : Dec (r ≡ 2) → y < 16
    go (yes e) = omega (arith, c.literal e)
    go (no e) = c.second e

-- ---- the numbers of a constraint

within_fill : (c low : ℕ) (row : List ℤ) (ts : List (ℕ × ℤ))
    → all_within number_limit row ≡ true
    → rising c low ts ≡ true
    → all_within number_limit (fill_coefficients row ts) ≡ true
unfolding rising fill_coefficients
within_fill c low row [] e h = e
within_fill c low row (t ∷ ts) e h =
    let r = ranged c low t ts h in
    within_fill c (t.0 + 1) (set row t.0 t.1) ts (within_set row t.0 t.1 e r.coefficient) r.rest

within_zeros : (n : ℕ) → all_within number_limit (zeros n) ≡ true
unfolding all_within
within_zeros zero = refl
within_zeros (suc n) = within_zeros n

-- a form in range
pub form_within : (b : List ℕ) (c at count : ℕ) → form_range b c at count ≡ true → all_within number_limit (form_of b at count) ≡ true
unfolding all_within
form_within b c at count e =
    let (p, q) = and_both (within number_limit (i32 b at)) (rising c 0 (pairs_at b (at + 4) count)) e in
    ap₂ ◌&&◌ p (within_fill c 0 (zeros column_limit) (pairs_at b (at + 4) count) (within_zeros column_limit) q)

string_within : (r x y : ℕ) → fact_within (string_fact r x y) ≡ true
string_within zero x y = refl
string_within (suc zero) x y = refl
string_within (suc (suc r)) x y = refl

pub constraint_within : (b : List ℕ) (p l c k at m : ℕ) → fact_fault b p l c k at m ≡ 0 → fact_within (body_fact b k at m) ≡ true
constraint_within b p l c k at m h = go (fact_formed b p l c k at m h)
  where
    go : FactBody b p l c k at m → fact_within (body_fact b k at m) ≡ true
    go (on_strings e s i) = ap fact_within i ∙ string_within (u16 b at) (u16 b (at + 2)) (u16 b (at + 4))
    go (on_columns e s i) = ap fact_within i ∙ form_within b c (at + 2) (m / 6 - 1) s.is_in_range

-- ---- from the question's own variables, literals and columns

rising_more : (c d low : ℕ) (ts : List (ℕ × ℤ)) → c ≤ d → rising c low ts ≡ true → rising d low ts ≡ true
unfolding rising
rising_more c d low [] h e = refl
rising_more c d low (t ∷ ts) h e =
    let (p, q) = and_both (pair_in_range c low t) (rising c (t.0 + 1) ts) e in
    let (l, r) = and_both (leb low t.0) (ltb t.0 c && coefficient_in_range t.1) p in
    let (s, z) = and_both (ltb t.0 c) (coefficient_in_range t.1) r in
    let n = ltb-true t.0 c s in
    ap₂ ◌&&◌ (ap₂ ◌&&◌ l (ap₂ ◌&&◌ (lt-ltb t.0 d (omega arith)) z)) (rising_more c d (t.0 + 1) ts h q)

-- a form over c columns, as many as there may be at most
pub form_rises : (b : List ℕ) (c at count : ℕ) → c ≤ column_limit → form_range b c at count ≡ true → rising column_limit 0 (pairs_at b (at + 4) count) ≡ true
form_rises b c at count h e =
    rising_more c column_limit 0 (pairs_at b (at + 4) count) h (and_both (within number_limit (i32 b at)) (rising c 0 (pairs_at b (at + 4) count)) e).1

string_range_more : {p l m r x y : ℕ}
    → l ≤ literal_limit
    → p ≤ variable_limit
    → StringConstraint p l m r x y
    → string_range variable_limit literal_limit r x y ≡ true
string_range_more {p} {l} {m} {r} {x} {y} h g c =
    ap₂ ◌&&◌ (le-leb r 2 c.relation) (ap₂ ◌&&◌ (lt-ltb x variable_limit (omega (arith, c.first))) (second (ℕ_discrete r 2)))
  where
    second : Dec (r ≡ 2) → cond (eqb r 2) (leb y literal_limit) (ltb y variable_limit) ≡ true
    second (yes e) = rw (eq-eqb r 2 e) (le-leb y literal_limit (omega (arith, c.literal e)))
    second (no e) = rw (ne_eqb r 2 e) (lt-ltb y variable_limit (omega (arith, c.second e)))

string_more : (b : List ℕ) (p l at m : ℕ) → l ≤ literal_limit → p ≤ variable_limit → StringConstraint p l m (u16 b at) (u16 b (at + 2)) (u16 b (at + 4))
    → string_fault b variable_limit literal_limit at m ≡ 0
string_more b p l at m h g c =
    let range : Bool = string_range variable_limit literal_limit (u16 b at) (u16 b (at + 2)) (u16 b (at + 4)) in
    passed 5 (eqb m 6) (need 6 range 0) (eq-eqb m 6 c.six) ∙ passed 6 range 0 (string_range_more h g c)

form_more : (b : List ℕ) (c at m : ℕ) → c ≤ column_limit → ArithmeticConstraint b c at m → arithmetic_fault b column_limit at m ≡ 0
form_more b c at m h a =
    let constant = (and_both (within number_limit (i32 b (at + 2))) (rising c 0 (pairs_at b (at + 2 + 4) (m / 6 - 1))) a.is_in_range).0 in
    let range : Bool = leb (u16 b at) 2 && form_range b column_limit (at + 2) (m / 6 - 1) in
    passed 5 (leb 6 m && (eqb (m % 6) 0 && leb (m / 6) (suc column_limit))) (need 6 range 0)
    (ap₂ ◌&&◌ (le-leb 6 m a.at_least) (ap₂ ◌&&◌ (eq-eqb (m % 6) 0 a.pairs_whole) (le-leb (m / 6) (suc column_limit) a.few_pairs)))
    ∙ passed 6 range 0 (ap₂ ◌&&◌ (le-leb (u16 b at) 2 a.relation) (ap₂ ◌&&◌ constant (form_rises b c (at + 2) (m / 6 - 1) h a.is_in_range)))

-- a constraint over a question's own variables, literals and columns, over as many as there may be
pub constraint_more : (b : List ℕ) (p l c k at m : ℕ) → p ≤ variable_limit → l ≤ literal_limit → c ≤ column_limit → fact_fault b p l c k at m ≡ 0
    → fact_fault b variable_limit literal_limit column_limit k at m ≡ 0
unfolding fact_fault
constraint_more b p l c k at m hp hl hc h = go (fact_formed b p l c k at m h)
  where
    go : FactBody b p l c k at m → fact_fault b variable_limit literal_limit column_limit k at m ≡ 0
    go (on_strings e s i) = rw e (string_more b p l at m hl hp s)
    go (on_columns e s i) = rw e (form_more b c at m hc s)
