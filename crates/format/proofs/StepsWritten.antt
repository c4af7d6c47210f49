-- A step that is read in range is written as the bytes that it was read from.
use Prim.Native.Nat.{ℕ, zero, suc, ◌+◌, ◌*◌, ◌-◌, ◌/◌, ◌%◌, ◌<◌, ◌≤◌}
use native.Mathlib.Omega.{arith}
use mathlib.Core.Path.{◌≡◌, refl, sym, ◌∙◌, ap, ap₂}
use mathlib.Core.Bool.{true, false≢true, ◌&&◌}
use mathlib.Core.List.{List, [], ◌∷◌, ◌++◌, append_assoc}
use lib.ListN.{length, drop, length-append}
use lib.Dec.{leb, eqb}
use lib.IntN.{ℤ, nat_abs}
use borrow.Author.Tests.{leb-true, eqb-true}
use Rattle.lists.specs.Lists.{All}
use Rattle.lists.proofs.Lists.{all_true→, all_values_along, all_both}
use Rattle.lists.proofs.Tests.{and_both}
use Rattle.calculus.specs.Limits.{Small, column_limit, number_limit}
use Rattle.calculus.specs.Facts.{Question, column_count}
use Rattle.calculus.specs.Steps.{Step}
use Rattle.format.specs.Fields.{bytes_of, u16, u32, u16s, pairs_at, pair_at, IsU16}
use Rattle.format.specs.Records.{size, kind, next, whole}
use Rattle.format.specs.Question.{form_of}
use Rattle.format.specs.StepForms.{Rule, sum, branch, apart, a_conf, s_conf, s_prop, l_intro, l_valid, c_collapse, c_valid, c_inj}
use Rattle.format.specs.StepForms.{card, join, unknown, Form, form, form_for, fits_form, rule, child_field, length_fits, pairs_in, sum_pairs}
use Rattle.format.specs.StepForms.{multipliers_within, card_variables, function_of, are_variables, operands_in_range, step_of, step_at}
use Rattle.format.specs.Reading.{step_with_child}
use Rattle.format.specs.Written.{u16_bytes, pair_bytes, form_bytes, len_or_code, body_of, step_record, OperandsInRange}
use Rattle.format.specs.Demands.{Bytes}
use Rattle.format.proofs.Faults.{clash}
use Rattle.format.proofs.Fields.{length_u16s, length_pairs}
use Rattle.format.proofs.Decoded.{below→}
use Rattle.format.proofs.Encoded.{length_bytes, length_shorts, length_pair_bytes}
use Rattle.format.proofs.BytesWritten.{u16_below, u32_written, u16s_written, pairs_written, body_written}
use Rattle.format.proofs.Forms.{form_written}
use Rattle.format.proofs.StepBodies.{rule_in, number_of, number_named, operand_bytes, body_is, length_body}

function_written : (k : ℕ) → k ≤ 1 → len_or_code (function_of k) ≡ k
function_written zero h = refl
function_written (suc zero) h = refl
function_written (suc (suc k)) h = absurd (omega arith)

-- ---- u16 fields one after another

module _ (b : List ℕ) (bytes : Bytes b) (at : ℕ) where
  pub one_at : at + 2 ≤ length b → drop at b ≡ u16_bytes (u16 b at ∷ []) ++ drop (at + 2) b
  unfolding u16s
  one_at l = u16s_written b bytes at 1 l

  two_at : at + 4 ≤ length b → drop at b ≡ u16_bytes (u16 b at ∷ u16 b (at + 2) ∷ []) ++ drop (at + 4) b
  unfolding u16s
  two_at l = u16s_written b bytes at 2 l

-- a length that fits a form
pub record Fitting (f : Form) (m : ℕ) : Type 0 where
  pub least : f.least ≤ m
  pub strides : (m - f.least) % f.stride ≡ 0
  pub most : (m - f.least) / f.stride ≤ f.greatest

pub fitting : (f : Form) (m : ℕ) → fits_form f m ≡ true → Fitting f m
fitting f m e =
    let a = and_both (leb f.least m) (eqb ((m - f.least) % f.stride) 0 && leb ((m - f.least) / f.stride) f.greatest) e in
    let c = and_both (eqb ((m - f.least) % f.stride) 0) (leb ((m - f.least) / f.stride) f.greatest) a.1 in
    record {
      least = leb-true f.least m a.0;
      strides = eqb-true ((m - f.least) % f.stride) 0 c.0;
      most = leb-true ((m - f.least) / f.stride) f.greatest c.1;
    }

-- ---- the operands of a body of m bytes at a position

module _ (b : List ℕ) (bytes : Bytes b) (u : Question) (few : column_count u ≤ column_limit) (at m : ℕ) (there : at + m ≤ length b) where
  record OperandsWritten (r : Rule) : Type 0 where
    is_in_range : OperandsInRange u (step_of b r at m)
    same_rule : rule_in (step_of b r at m) ≡ r
    known : r ≡ unknown → ⊥
    as_long : m ≡ 4 + length (operand_bytes (step_of b r at m))
    written_as : drop (at + 4) b ≡ operand_bytes (step_of b r at m) ++ drop (at + m) b

  -- ---- u16 operands

  no_written : m ≡ 4 → drop (at + 4) b ≡ drop (at + m) b
  no_written l = ap (λ n. drop (at + n) b) (sym l)

  module _ (l : m ≡ 6) where
    one_written : drop (at + 4) b ≡ u16_bytes (u16 b (at + 4) ∷ []) ++ drop (at + m) b
    one_written =
        one_at b bytes (at + 4) (omega arith) ∙ ap (λ n. u16_bytes (u16 b (at + 4) ∷ []) ++ drop n b) (let z : at + 4 + 2 ≡ at + m = omega arith in z)

    one_long : m ≡ 4 + length (u16_bytes (u16 b (at + 4) ∷ []))
    one_long = l ∙ sym (ap (λ n. 4 + n) (length_shorts (u16 b (at + 4) ∷ [])))

  module _ (l : m ≡ 8) where
    two_written : drop (at + 4) b ≡ u16_bytes (u16 b (at + 4) ∷ u16 b (at + 6) ∷ []) ++ drop (at + m) b
    two_written =
        two_at b bytes (at + 4) (omega arith)
        ∙ ap₂ (λ i n. u16_bytes (u16 b (at + 4) ∷ u16 b i ∷ []) ++ drop n b) (let z : at + 4 + 2 ≡ at + 6 = omega arith in z)
        (let z : at + 4 + 4 ≡ at + m = omega arith in z)

    two_long : m ≡ 4 + length (u16_bytes (u16 b (at + 4) ∷ u16 b (at + 6) ∷ []))
    two_long = l ∙ sym (ap (λ n. 4 + n) (length_shorts (u16 b (at + 4) ∷ u16 b (at + 6) ∷ [])))

  module _ (l : m ≡ 10) where
    three_written : drop (at + 4) b ≡ u16_bytes (u16 b (at + 4) ∷ u16 b (at + 6) ∷ u16 b (at + 8) ∷ []) ++ drop (at + m) b
    unfolding u16s
    three_written =
        u16s_written b bytes (at + 4) 3 (omega arith)
        ∙ ap₂ (λ i j. u16_bytes (u16 b (at + 4) ∷ u16 b i ∷ u16 b j ∷ []) ++ drop (at + 4 + 2 * 3) b) (let z : at + 4 + 2 ≡ at + 6 = omega arith in z)
        (let z : at + 4 + 2 + 2 ≡ at + 8 = omega arith in z)
        ∙ ap (λ n. u16_bytes (u16 b (at + 4) ∷ u16 b (at + 6) ∷ u16 b (at + 8) ∷ []) ++ drop n b) (let z : at + 4 + 2 * 3 ≡ at + m = omega arith in z)

  -- a form of one length
  exactly : (k : ℕ) → fits_form (form k 1 0) m ≡ true → m ≡ k
  exactly k e = let f = fitting (form k 1 0) m e in omega (arith, f.least, f.most)

  one_variable : (x : ℕ) → are_variables u.p (x ∷ []) ≡ true → x < u.p
  one_variable x e = (below→ u.p (x ∷ []) e).0

  two_variables : (x y : ℕ) → are_variables u.p (x ∷ y ∷ []) ≡ true → (x < u.p) × (y < u.p)
  two_variables x y e = let (h, k) = below→ u.p (x ∷ y ∷ []) e in (h, k.0)

  -- ---- Sum, Branch, S-Prop and Card

  pairs_short : (to count : ℕ) → All (λ t. IsU16 t.0) (pairs_at b to count)
  unfolding pairs_at
  pairs_short to count = all_values_along (λ i. i + 6) (pair_at b) (λ t. IsU16 t.0) to count (λ j l. u16_below b bytes _)

  sum_written : fits_form (form_for sum) m ≡ true → operands_in_range b u.p (column_count u) sum at m ≡ true → OperandsWritten sum
  unfolding operands_in_range step_of OperandsInRange multipliers_within
  sum_written l e =
      let f = fitting (form_for sum) m l in
      let ts : List (ℕ × ℤ) = sum_pairs b at m in
      let d : ℕ = u32 b (at + 4) in
      let count : length ts ≡ pairs_in m = length_pairs b (at + 8) (pairs_in m) in
      let long : m ≡ 8 + 6 * pairs_in m = omega (arith, f.least, f.strides) in
      let (least, rest) = and_both (leb 1 d) (leb d 2147483647 && multipliers_within ts) e in
      let (most, within) = and_both (leb d 2147483647) (multipliers_within ts) rest in
      record {
        is_in_range = record {
          divisor = leb-true 1 d least;
          divisor_held = omega (arith, leb-true d 2147483647 most);
          some_pair = omega (arith, count, long, f.least);
          few_pairs = omega (arith, count, long, f.most);
          pairs = all_both (λ t. IsU16 t.0) (λ t. Small number_limit t.1) ts (pairs_short (at + 8) (pairs_in m)) (all_true→ _ ts (λ t. leb-true (nat_abs t.1) number_limit) within);
        };
        same_rule = refl;
        known = λ z. clash cc;
        as_long = omega (arith, long, count, length-append (bytes_of 4 d) (pair_bytes ts), length_bytes 4 d, length_pair_bytes ts);
        written_as =
            u32_written b bytes (at + 4) (omega arith)
            ∙ ap (λ n. bytes_of 4 d ++ drop n b) (let z : at + 4 + 4 ≡ at + 8 = omega arith in z)
            ∙ ap (λ l. bytes_of 4 d ++ l) (pairs_written b bytes (at + 8) (pairs_in m) (omega (arith, long))
            ∙ ap (λ n. pair_bytes ts ++ drop n b) (let z : at + 8 + 6 * pairs_in m ≡ at + m = omega (arith, long) in z))
            ∙ sym (append_assoc (bytes_of 4 d) (pair_bytes ts) (drop (at + m) b));
      }

  branch_written : fits_form (form_for branch) m ≡ true → operands_in_range b u.p (column_count u) branch at m ≡ true → OperandsWritten branch
  unfolding operands_in_range step_of OperandsInRange
  branch_written l e =
      let f = fitting (form_for branch) m l in
      let long : m ≡ 8 + 6 * pairs_in m = omega (arith, f.least, f.strides) in
      let w = form_written b bytes u (at + 4) (pairs_in m) few e (omega (arith, long)) in
      let g : List ℤ = form_of b (at + 4) (pairs_in m) in
      record {
        is_in_range = w.is_in_range;
        same_rule = refl;
        known = λ z. clash cc;
        as_long = omega (arith, long, w.bytes);
        written_as = w.stands ∙ ap (λ n. form_bytes g ++ drop n b) (let z : at + 4 + 4 + 6 * pairs_in m ≡ at + m = omega (arith, long) in z);
      }

  property_written : fits_form (form_for s_prop) m ≡ true → operands_in_range b u.p (column_count u) s_prop at m ≡ true → OperandsWritten s_prop
  unfolding operands_in_range step_of OperandsInRange
  property_written l e =
      let long : m ≡ 10 = exactly 10 l in
      let (few-function, below) = and_both (leb (u16 b (at + 4)) 1) (are_variables u.p (u16 b (at + 6) ∷ u16 b (at + 8) ∷ [])) e in
      let function : len_or_code (function_of (u16 b (at + 4))) ≡ u16 b (at + 4) = function_written (u16 b (at + 4)) (leb-true (u16 b (at + 4)) 1 few-function) in
      record {
        is_in_range = two_variables (u16 b (at + 6)) (u16 b (at + 8)) below;
        same_rule = refl;
        known = λ z. clash cc;
        as_long = long ∙ sym (ap (λ n. 4 + n) (length_shorts (len_or_code (function_of (u16 b (at + 4))) ∷ u16 b (at + 6) ∷ u16 b (at + 8) ∷ [])));
        written_as =
            three_written long ∙ ap (λ k. u16_bytes (k ∷ u16 b (at + 6) ∷ u16 b (at + 8) ∷ []) ++ drop (at + m) b) (sym function);
      }

  card_written : fits_form (form_for card) m ≡ true → operands_in_range b u.p (column_count u) card at m ≡ true → OperandsWritten card
  unfolding operands_in_range step_of OperandsInRange
  card_written l e =
      let f = fitting (form_for card) m l in
      let xs : List ℕ = card_variables b at m in
      let count : length xs ≡ (m - 4) / 2 = length_u16s b (at + 4) ((m - 4) / 2) in
      let long : m ≡ 4 + 2 * length xs = omega (arith, f.least, f.strides, count) in
      record {
        is_in_range = (omega (arith, count, f.least), omega (arith, long, f.most), below→ u.p xs e);
        same_rule = refl;
        known = λ z. clash cc;
        as_long = omega (arith, long, length_shorts xs);
        written_as =
            u16s_written b bytes (at + 4) ((m - 4) / 2) (omega (arith, long, count))
            ∙ ap (λ n. u16_bytes xs ++ drop n b) (let z : at + 4 + 2 * ((m - 4) / 2) ≡ at + m = omega (arith, long, count) in z);
      }

  -- ---- each rule

  operands_written : (r : Rule) → fits_form (form_for r) m ≡ true → operands_in_range b u.p (column_count u) r at m ≡ true → OperandsWritten r
  unfolding operands_in_range step_of OperandsInRange
  operands_written sum l e = sum_written l e
  operands_written branch l e = branch_written l e
  operands_written apart l e =
      let long = exactly 6 l in
      record { is_in_range = u16_below b bytes (at + 4); same_rule = refl; known = λ z. clash cc; as_long = one_long long; written_as = one_written long }
  operands_written a_conf l e =
      let long = exactly 6 l in
      record { is_in_range = u16_below b bytes (at + 4); same_rule = refl; known = λ z. clash cc; as_long = one_long long; written_as = one_written long }
  operands_written s_conf l e =
      let long = exactly 4 l in
      record { is_in_range = tt; same_rule = refl; known = λ z. clash cc; as_long = long; written_as = no_written long }
  operands_written s_prop l e = property_written l e
  operands_written l_intro l e =
      let long = exactly 6 l in
      record { is_in_range = one_variable (u16 b (at + 4)) e; same_rule = refl; known = λ z. clash cc; as_long = one_long long; written_as = one_written long }
  operands_written l_valid l e =
      let long = exactly 6 l in
      record { is_in_range = one_variable (u16 b (at + 4)) e; same_rule = refl; known = λ z. clash cc; as_long = one_long long; written_as = one_written long }
  operands_written c_collapse l e =
      let long = exactly 6 l in
      record { is_in_range = one_variable (u16 b (at + 4)) e; same_rule = refl; known = λ z. clash cc; as_long = one_long long; written_as = one_written long }
  operands_written c_valid l e =
      let long = exactly 6 l in
      record { is_in_range = one_variable (u16 b (at + 4)) e; same_rule = refl; known = λ z. clash cc; as_long = one_long long; written_as = one_written long }
  operands_written c_inj l e =
      let long = exactly 8 l in
      record {
        is_in_range = two_variables (u16 b (at + 4)) (u16 b (at + 6)) e;
        same_rule = refl;
        known = λ z. clash cc;
        as_long = two_long long;
        written_as = two_written long;
      }
  operands_written card l e = card_written l e
  operands_written join l e =
      let long = exactly 8 l in
      record {
        is_in_range = (u16_below b bytes (at + 4), u16_below b bytes (at + 6));
        same_rule = refl;
        known = λ z. clash cc;
        as_long = two_long long;
        written_as = two_written long;
      }
  operands_written unknown l e = absurd (false≢true e)

-- ---- the record of a step

module _ (b : List ℕ) (bytes : Bytes b) (u : Question) (few : column_count u ≤ column_limit) (at : ℕ) where
  pub step_written : whole b at ≡ true → kind b at ≡ 6 → length_fits b (at + 6) (size b at) ≡ true
      → operands_in_range b u.p (column_count u) (rule b (at + 6)) (at + 6) (size b at) ≡ true
      → OperandsInRange u (step_with_child b at).0 × (drop at b ≡ step_record (step_with_child b at) ++ drop (next b at) b)
  unfolding step_record
  step_written w k l e =
      let m : ℕ = size b at in
      let body : ℕ = at + 6 in
      let there : next b at ≤ length b = leb-true (next b at) (length b) w in
      let o = operands_written b bytes u few body m there (rule b body) l e in
      let f = fitting (form_for (rule b body)) m l in
      let st : Step = step_at b body m in
      let c : ℕ = child_field b body in
      let number : u16 b body ≡ number_of (rule_in st) = number_named (u16 b body) (rule b body) refl o.known ∙ ap number_of (sym o.same_rule) in
      let leading : drop body b ≡ u16_bytes (number_of (rule_in st) ∷ c ∷ []) ++ drop (body + 4) b =
      two_at b bytes body (omega (arith, o.as_long, there)) ∙ ap (λ n. u16_bytes (n ∷ c ∷ []) ++ drop (body + 4) b) number in
      let stands : drop body b ≡ body_of st c ++ drop (next b at) b =
      leading ∙ ap (λ l. u16_bytes (number_of (rule_in st) ∷ c ∷ []) ++ l) o.written_as
      ∙ sym (append_assoc (u16_bytes (number_of (rule_in st) ∷ c ∷ [])) (operand_bytes st) (drop (next b at) b))
      ∙ ap (λ l. l ++ drop (next b at) b) (sym (body_is st c)) in
      (o.is_in_range, body_written b bytes at 6 (body_of st c) (drop (next b at) b) (omega arith) k (o.as_long ∙ sym (length_body st c)) stands)
