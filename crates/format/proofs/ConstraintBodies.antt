-- The bodies of constraints, of kinds 3 and 4 and extended ones, both ways.
use Prim.Native.Nat.{ℕ, zero, suc, ◌+◌, ◌*◌, ◌-◌, ◌/◌, ◌%◌, ◌<◌, ◌≤◌}
use native.Mathlib.Omega.{arith}
use mathlib.Core.Path.{◌≡◌, refl, sym, ◌∙◌, ap, ap₂, subst}
use mathlib.Core.Bool.{Bool, true, cond, ◌&&◌}
use mathlib.Core.List.{List, [], ◌∷◌, ◌++◌, append_assoc, append-nil, flat_map}
use lib.ListN.{length, drop, length-append, get_or}
use lib.Dec.{leb, ltb, eqb}
use borrow.Author.Tests.{lt-ltb, le-leb, eq-eqb, ne_eqb}
use lib.IntN.{ℤ}
use Rattle.lists.proofs.Tests.{→and_both}
use Rattle.calculus.specs.Limits.{column_limit}
use Rattle.calculus.specs.Facts.{Question, Fact, same, not_same, is_literal, arithmetic, Relation, ge, eq, ne, column_count}
use Rattle.calculus.specs.Extended.{Extended, is_upper, is_lower, is_value, is_decimal, in_order, Names}
use Rattle.calculus.specs.NormalForms.{function_number, fields_of}
use Rattle.format.specs.Fields.{bytes_of, u16, u16s, IsU16}
use Rattle.format.specs.Records.{need}
use Rattle.format.specs.Answer.{record_bytes}
use Rattle.format.specs.Question.{string_kind, arithmetic_kind, extended_kind, string_range, string_fact}
use Rattle.format.specs.Question.{form_range, form_of, relation_of, extended_range, extended_fault, extended_by, extended_of, fact_fault, body_fact}
use Rattle.format.specs.Written.{u16_bytes, form_bytes, relation_number, constraint_record, extended_record, FormInRange, ConstraintInRange}
use Rattle.format.specs.Demands.{Bytes}
use Rattle.format.proofs.Faults.{passed}
use Rattle.format.proofs.Encoded.{length_shorts}
use Rattle.format.proofs.RecordFaults.{StringConstraint, ExtendedConstraint, extended_constraint_formed}
use Rattle.format.proofs.RecordFaults.{FactBody, on_strings, on_columns, fact_formed}
use Rattle.format.proofs.BytesRead.{behind, u16_back}
use Rattle.format.proofs.BytesWritten.{u16s_written}
use Rattle.format.proofs.Forms.{form_read, form_written}
use Rattle.format.proofs.Bodies.{three_body, three_read, three_fine, three_written, Counts, few_columns}

-- ---- a constraint of kind 3 or 4

abbrev pub fact_kind : Fact → ℕ
fact_kind (same x y) = string_kind
fact_kind (not_same x y) = string_kind
fact_kind (is_literal x l) = string_kind
fact_kind (arithmetic r e) = arithmetic_kind

abbrev pub fact_body : Fact → List ℕ
fact_body (same x y) = three_body 0 x y
fact_body (not_same x y) = three_body 1 x y
fact_body (is_literal x l) = three_body 2 x l
fact_body (arithmetic r e) = u16_bytes (relation_number r ∷ []) ++ form_bytes e

pub constraint_bytes : (f : Fact) → constraint_record f ≡ record_bytes (fact_kind f) (fact_body f)
unfolding constraint_record
constraint_bytes (same x y) = refl
constraint_bytes (not_same x y) = refl
constraint_bytes (is_literal x l) = refl
constraint_bytes (arithmetic r e) = refl

abbrev pub fault_of : List ℕ → Question → ℕ → ℕ → ℕ → ℕ
fault_of b u k at m = fact_fault b u.p (length u.literals) (column_count u) k at m

pub record FactRead (b : List ℕ) (u : Question) (at : ℕ) (f : Fact) : Type 0 where
  pub few : length (fact_body f) < 4294967296
  pub fine : fault_of b u (fact_kind f) at (length (fact_body f)) ≡ 0
  pub is_fact : body_fact b (fact_kind f) at (length (fact_body f)) ≡ f

string_read : (b : List ℕ) (u : Question) (at r x y : ℕ) (rest : List ℕ) (f : Fact) → fact_kind f ≡ string_kind → fact_body f ≡ three_body r x y
    → string_fact r x y ≡ f → IsU16 r → IsU16 x → IsU16 y
    → string_range u.p (length u.literals) r x y ≡ true → drop at b ≡ three_body r x y ++ rest → FactRead b u at f
unfolding fact_fault
string_read b u at r x y rest f k body is lr lx ly range e =
    let t = three_read b at r x y rest lr lx ly e in
    let six : length (fact_body f) ≡ 6 = ap length body ∙ length_shorts (r ∷ x ∷ y ∷ []) in
    record {
      few = omega (arith, six);
      fine =
          ap₂ (λ k m. fault_of b u k at m) k six
          ∙ three_fine (string_range u.p (length u.literals)) b at r x y t range;
      is_fact = ap₂ (λ k m. body_fact b k at m) k six ∙ rw (t.first, t.second, t.third) is;
    }

-- in range, by the relation
variables_range : (u : Question) (r x y : ℕ) → r ≤ 2 → (r ≡ 2 → ⊥) → x < u.p → y < u.p → string_range u.p (length u.literals) r x y ≡ true
variables_range u r x y h d lx ly =
    →and_both (leb r 2) (ltb x u.p && cond (eqb r 2) (leb y (length u.literals)) (ltb y u.p)) (le-leb r 2 h)
    (→and_both (ltb x u.p) (cond (eqb r 2) (leb y (length u.literals)) (ltb y u.p)) (lt-ltb x u.p lx)
    (ap (λ (t : Bool). cond t (leb y (length u.literals)) (ltb y u.p)) (ne_eqb r 2 d) ∙ lt-ltb y u.p ly))

literal_range : (u : Question) (x y : ℕ) → x < u.p → y ≤ length u.literals → string_range u.p (length u.literals) 2 x y ≡ true
literal_range u x y lx ly = →and_both (ltb x u.p) (leb y (length u.literals)) (lt-ltb x u.p lx) (le-leb y (length u.literals) ly)

relation_of_law : (r : Relation) → relation_of (relation_number r) ≡ r
relation_of_law ge = refl
relation_of_law eq = refl
relation_of_law ne = refl

relation_few : (r : Relation) → relation_number r ≤ 2
relation_few ge = omega arith
relation_few eq = omega arith
relation_few ne = omega arith

arithmetic_read : (b : List ℕ) (u : Question) (at : ℕ) (r : Relation) (e : List ℤ) (rest : List ℕ) → column_count u ≤ column_limit → FormInRange u e
    → drop at b ≡ fact_body (arithmetic r e) ++ rest → FactRead b u at (arithmetic r e)
unfolding fact_fault u16_bytes flat_map
arithmetic_read b u at r e rest h range stands =
    let body : List ℕ = fact_body (arithmetic r e) in
    let relation : List ℕ = u16_bytes (relation_number r ∷ []) in
    let from : drop at b ≡ relation ++ (form_bytes e ++ rest) = stands ∙ append_assoc relation (form_bytes e) rest in
    let form = form_read b u (at + 2) e rest h range (behind b at 2 relation (form_bytes e ++ rest) (length_shorts (relation_number r ∷ [])) from) in
    let read : u16 b at ≡ relation_number r =
    u16_back b at (relation_number r) (form_bytes e ++ rest) (omega (arith, relation_few r))
    (from ∙ ap (λ xs. xs ++ (form_bytes e ++ rest)) (append-nil (bytes_of 2 (relation_number r)))) in
    let m : ℕ = length body in
    let long : m ≡ 6 + 6 * form.count =
    length-append relation (form_bytes e) ∙ ap₂ ◌+◌ (length_shorts (relation_number r ∷ [])) form.bytes ∙ (let z : 2 + (4 + 6 * form.count) ≡ 6 + 6 * form.count = omega arith in z) in
    let pairs : m / 6 - 1 ≡ form.count = omega arith in
    record {
      few = omega (arith, long, form.few);
      fine =
          passed 5 (leb 6 m && (eqb (m % 6) 0 && leb (m / 6) (suc column_limit)))
          (need 6 (leb (u16 b at) 2 && form_range b (column_count u) (at + 2) (m / 6 - 1)) 0)
          (→and_both (leb 6 m) (eqb (m % 6) 0 && leb (m / 6) (suc column_limit)) (le-leb 6 m (omega arith))
          (→and_both (eqb (m % 6) 0) (leb (m / 6) (suc column_limit)) (eq-eqb (m % 6) 0 (omega arith)) (le-leb (m / 6) (suc column_limit) (omega (arith, form.few)))))
          ∙ passed 6 (leb (u16 b at) 2 && form_range b (column_count u) (at + 2) (m / 6 - 1)) 0
          (→and_both (leb (u16 b at) 2) (form_range b (column_count u) (at + 2) (m / 6 - 1)) (le-leb (u16 b at) 2 (omega (arith, relation_few r)))
          (ap (form_range b (column_count u) (at + 2)) pairs ∙ form.is_in_range));
      is_fact = ap₂ (λ r e. arithmetic r e) (ap relation_of read ∙ relation_of_law r) (ap (form_of b (at + 2)) pairs ∙ form.is_form);
    }

pub fact_read : (b : List ℕ) (u : Question) (at : ℕ) (f : Fact) (rest : List ℕ) → Counts u → ConstraintInRange u f → drop at b ≡ fact_body f ++ rest → FactRead b u at f
unfolding ConstraintInRange
fact_read b u at (same x y) rest c (hx, hy) e =
    string_read b u at 0 x y rest (same x y) refl refl refl (omega arith) (omega (arith, c.strings)) (omega (arith, c.strings))
    (variables_range u 0 x y (omega arith) (λ z. omega arith) hx hy) e
fact_read b u at (not_same x y) rest c (hx, hy) e =
    string_read b u at 1 x y rest (not_same x y) refl refl refl (omega arith) (omega (arith, c.strings)) (omega (arith, c.strings))
    (variables_range u 1 x y (omega arith) (λ z. omega arith) hx hy) e
fact_read b u at (is_literal x y) rest c (hx, hy) e =
    string_read b u at 2 x y rest (is_literal x y) refl refl refl (omega arith) (omega (arith, c.strings)) (omega (arith, c.literals))
    (literal_range u x y hx hy) e
fact_read b u at (arithmetic r e) rest c h s = arithmetic_read b u at r e rest (few_columns u c) h s

-- and from a body without fault
pub record FactWritten (b : List ℕ) (u : Question) (k at m : ℕ) : Type 0 where
  pub is_in_range : ConstraintInRange u (body_fact b k at m)
  pub of_kind : fact_kind (body_fact b k at m) ≡ k
  pub bytes : length (fact_body (body_fact b k at m)) ≡ m
  pub stands : drop at b ≡ fact_body (body_fact b k at m) ++ drop (at + m) b

-- a string constraint, by its relation
string_known : (u : Question) (m r x y : ℕ) → StringConstraint u.p (length u.literals) m r x y
    → ConstraintInRange u (string_fact r x y) × (fact_kind (string_fact r x y) ≡ string_kind) × (fact_body (string_fact r x y) ≡ three_body r x y)
unfolding ConstraintInRange
string_known u m zero x y c = ((c.first, c.second (λ e. omega arith)), refl, refl)
string_known u m (suc zero) x y c = ((c.first, c.second (λ e. omega arith)), refl, refl)
string_known u m (suc (suc zero)) x y c = ((c.first, c.literal refl), refl, refl)
string_known u m (suc (suc (suc r))) x y c = absurd (omega (arith, c.relation))

number_of : (v : ℕ) → v ≤ 2 → relation_number (relation_of v) ≡ v
number_of zero h = refl
number_of (suc zero) h = refl
number_of (suc (suc zero)) h = refl
number_of (suc (suc (suc v))) h = absurd (omega arith)

pub fact_written : (b : List ℕ) → Bytes b → (u : Question) (k at m : ℕ) → Counts u → at + m ≤ length b → fault_of b u k at m ≡ 0 → FactWritten b u k at m
unfolding ConstraintInRange u16s
fact_written b bytes u k at m few l e = go (fact_formed b u.p (length u.literals) (column_count u) k at m e)
  where
    r : ℕ
    r = u16 b at

    go : FactBody b u.p (length u.literals) (column_count u) k at m → FactWritten b u k at m
    go (on_strings kind c i) =
        let (range, string, body) = string_known u m r (u16 b (at + 2)) (u16 b (at + 4)) c in
        let written : fact_body (body_fact b k at m) ≡ three_body r (u16 b (at + 2)) (u16 b (at + 4)) = ap fact_body i ∙ body in
        record {
          is_in_range = subst (ConstraintInRange u) (sym i) range;
          of_kind = ap fact_kind i ∙ string ∙ sym kind;
          bytes = ap length written ∙ length_shorts (r ∷ u16 b (at + 2) ∷ u16 b (at + 4) ∷ []) ∙ sym c.six;
          stands = three_written b bytes at (omega (arith, c.six)) ∙ ap₂ (λ xs n. xs ++ drop (at + n) b) (sym written) (sym c.six);
        }
    go (on_columns kind c i) =
        let count : ℕ = m / 6 - 1 in
        let most : m ≡ 6 + 6 * count = omega (arith, c.at_least, c.pairs_whole) in
        let form = form_written b bytes u (at + 2) count (few_columns u few) c.is_in_range (omega arith) in
        let e : List ℤ = form_of b (at + 2) count in
        let written : fact_body (body_fact b k at m) ≡ u16_bytes (r ∷ []) ++ form_bytes e =
        ap fact_body i ∙ ap (λ v. u16_bytes (v ∷ []) ++ form_bytes e) (number_of r c.relation) in
        record {
          is_in_range = subst (ConstraintInRange u) (sym i) form.is_in_range;
          of_kind = ap fact_kind i ∙ sym kind;
          bytes = ap length written ∙ length-append (u16_bytes (r ∷ [])) (form_bytes e) ∙ omega (arith, length_shorts (r ∷ []), form.bytes);
          stands =
              u16s_written b bytes at 1 (omega arith)
              ∙ ap (λ xs. u16_bytes (r ∷ []) ++ xs) (form.stands ∙ ap (λ n. form_bytes e ++ drop n b) (let z : at + 2 + 4 + 6 * count ≡ at + m = omega arith in z))
              ∙ sym (append_assoc (u16_bytes (r ∷ [])) (form_bytes e) (drop (at + m) b))
              ∙ ap (λ xs. xs ++ drop (at + m) b) (sym written);
        }

-- ---- an extended constraint

abbrev first_of : Extended → ℕ
first_of e = get_or (fields_of e) 0 0

abbrev second_of : Extended → ℕ
second_of e = get_or (fields_of e) 1 0

abbrev pub extended_body : Extended → List ℕ
extended_body e = three_body (function_number e) (first_of e) (second_of e)

pub extended_bytes : (e : Extended) → extended_record e ≡ record_bytes extended_kind (extended_body e)
unfolding extended_record
extended_bytes (is_upper x y) = refl
extended_bytes (is_lower x y) = refl
extended_bytes (is_value x y) = refl
extended_bytes (is_decimal x y) = refl
extended_bytes (in_order x y) = refl

extended_is : (e : Extended) → extended_by (function_number e) (first_of e) (second_of e) ≡ e
extended_is (is_upper x y) = refl
extended_is (is_lower x y) = refl
extended_is (is_value x y) = refl
extended_is (is_decimal x y) = refl
extended_is (in_order x y) = refl

both_below : (p q x y : ℕ) → x < p → y < q → (ltb x p && ltb y q) ≡ true
both_below p q x y h k = →and_both (ltb x p) (ltb y q) (lt-ltb x p h) (lt-ltb y q k)

extended_range_law : (u : Question) (e : Extended) → Names u e → extended_range u.p u.q (function_number e) (first_of e) (second_of e) ≡ true
extended_range_law u (is_upper x y) (h, k) = both_below u.p u.p x y h k
extended_range_law u (is_lower x y) (h, k) = both_below u.p u.p x y h k
extended_range_law u (is_value x y) (h, k) = both_below u.q u.p x y h k
extended_range_law u (is_decimal x y) (h, k) = both_below u.p u.q x y h k
extended_range_law u (in_order x y) (h, k) = both_below u.p u.p x y h k

function_few : (e : Extended) → function_number e ≤ 4
function_few (is_upper x y) = omega arith
function_few (is_lower x y) = omega arith
function_few (is_value x y) = omega arith
function_few (is_decimal x y) = omega arith
function_few (in_order x y) = omega arith

names_few : (u : Question) → Counts u → (e : Extended) → Names u e → IsU16 (first_of e) × IsU16 (second_of e)
names_few u c (is_upper x y) (h, k) = (omega (arith, c.strings), omega (arith, c.strings))
names_few u c (is_lower x y) (h, k) = (omega (arith, c.strings), omega (arith, c.strings))
names_few u c (is_value x y) (h, k) = (omega (arith, c.integers), omega (arith, c.strings))
names_few u c (is_decimal x y) (h, k) = (omega (arith, c.strings), omega (arith, c.integers))
names_few u c (in_order x y) (h, k) = (omega (arith, c.strings), omega (arith, c.strings))

pub record ExtendedRead (b : List ℕ) (u : Question) (at : ℕ) (e : Extended) : Type 0 where
  pub six : length (extended_body e) ≡ 6
  pub fine : extended_fault b u.p u.q at (length (extended_body e)) ≡ 0
  pub is_constraint : extended_of b at ≡ e

pub extended_read : (b : List ℕ) (u : Question) (at : ℕ) (e : Extended) (rest : List ℕ) → Counts u → Names u e → drop at b ≡ extended_body e ++ rest → ExtendedRead b u at e
extended_read b u at e rest c h stands =
    let (x, y) = names_few u c e h in
    let t = three_read b at (function_number e) (first_of e) (second_of e) rest (omega (arith, function_few e)) x y stands in
    let six : length (extended_body e) ≡ 6 = length_shorts (function_number e ∷ first_of e ∷ second_of e ∷ []) in
    record {
      six = six;
      fine =
          ap (extended_fault b u.p u.q at) six
          ∙ three_fine (extended_range u.p u.q) b at (function_number e) (first_of e) (second_of e) t (extended_range_law u e h);
      is_constraint = rw (t.first, t.second, t.third) (extended_is e);
    }

pub record ExtendedWritten (b : List ℕ) (u : Question) (at m : ℕ) : Type 0 where
  pub named : Names u (extended_of b at)
  pub bytes : length (extended_body (extended_of b at)) ≡ m
  pub stands : drop at b ≡ extended_body (extended_of b at) ++ drop (at + m) b

extended_known : (u : Question) (m f x y : ℕ) → ExtendedConstraint u.p u.q m f x y
    → Names u (extended_by f x y) × (extended_body (extended_by f x y) ≡ three_body f x y)
extended_known u m zero x y c = ((c.first, c.second), refl)
extended_known u m (suc zero) x y c = ((c.first, c.second), refl)
extended_known u m (suc (suc zero)) x y c = ((c.first, c.second), refl)
extended_known u m (suc (suc (suc zero))) x y c = ((c.first, c.second), refl)
extended_known u m (suc (suc (suc (suc zero)))) x y c = ((c.first, c.second), refl)
extended_known u m (suc (suc (suc (suc (suc f))))) x y c = absurd (omega (arith, c.function))

pub extended_written : (b : List ℕ) → Bytes b → (u : Question) (at m : ℕ) → at + m ≤ length b → extended_fault b u.p u.q at m ≡ 0 → ExtendedWritten b u at m
extended_written b bytes u at m l e =
    let c = extended_constraint_formed b u.p u.q at m e in
    let (named, body) = extended_known u m (u16 b at) (u16 b (at + 2)) (u16 b (at + 4)) c in
    record {
      named = named;
      bytes = ap length body ∙ length_shorts (u16 b at ∷ u16 b (at + 2) ∷ u16 b (at + 4) ∷ []) ∙ sym c.six;
      stands = three_written b bytes at (omega (arith, c.six)) ∙ ap₂ (λ xs n. xs ++ drop (at + n) b) (sym body) (sym c.six);
    }
