-- A step in range is read from its bytes: its length fits its rule's form, its fields are in their ranges, and the step and its child field are those written.
use Prim.Native.Nat.{ℕ, ◌+◌, ◌*◌, ◌-◌, ◌/◌, ◌%◌, ◌<◌, ◌≤◌}
use native.Mathlib.Omega.{arith}
use mathlib.Core.Path.{◌≡◌, refl, sym, ◌∙◌, ap, ap₂, subst}
use mathlib.Core.Bool.{true, ◌&&◌}
use mathlib.Core.List.{List, [], ◌∷◌, ◌++◌, append_assoc}
use lib.ListN.{length, get_or, drop, length-append}
use lib.Dec.{leb}
use lib.IntN.{ℤ, nat_abs}
use borrow.Author.Tests.{le-leb, lt-ltb, eq-eqb}
use Rattle.lists.specs.Lists.{All}
use Rattle.lists.proofs.Lists.{all_map, →all_true}
use Rattle.calculus.specs.Limits.{column_limit, number_limit}
use Rattle.calculus.specs.Facts.{Question, Function, len, code, column_count}
use Rattle.calculus.specs.Steps.{Step, Sum, BranchOn, Apart, AConf, SConf, SProp, LIntro, LValid, CCollapse, CValid, CInj, Card, Join}
use Rattle.format.specs.Fields.{bytes_of, u16, u32, u16s, pairs_at, IsU16}
use Rattle.format.specs.Records.{size, kind, next, whole}
use Rattle.format.specs.StepForms.{sum, branch, s_conf, s_prop}
use Rattle.format.specs.StepForms.{card, rule_of, Form, form, form_for, fits_form, rule, child_field, length_fits, pairs_in, sum_pairs}
use Rattle.format.specs.StepForms.{multipliers_within, card_variables, function_of, are_variables, operands_in_range, step_of}
use Rattle.format.specs.Question.{form_range, form_of}
use Rattle.format.specs.Reading.{step_with_child}
use Rattle.format.specs.Written.{u16_bytes, pair_bytes, form_bytes, len_or_code, body_of, step_record, FormInRange, SumInRange, OperandsInRange}
use Rattle.format.proofs.Fields.{field_at}
use Rattle.format.proofs.Encoded.{length_bytes, length_shorts, length_pair_bytes}
use Rattle.format.proofs.BytesRead.{behind, u32_back, small_held, u16s_back, pairs_back, leading_read, record_read, record_leads}
use Rattle.format.proofs.Forms.{form_read}
use Rattle.format.proofs.StepBodies.{rule_in, number_of, rule_numbered, number_short, operand_bytes, body_is, length_body}

-- ---- fields

-- the u16 fields of a list that stands at a position
pub short_at : (b : List ℕ) (at : ℕ) (vs rest : List ℕ) (i to : ℕ) → All IsU16 vs → drop at b ≡ u16_bytes vs ++ rest → i < length vs → to ≡ at + 2 * i
    → u16 b to ≡ get_or vs i 0
unfolding u16s
short_at b at vs rest i to h e l p =
    ap (u16 b) p ∙ sym (field_at 2 (u16 b) at (length vs) i 0 l) ∙ ap (λ l. get_or l i 0) (u16s_back b at vs rest h e)

variables_pass : (p : ℕ) (xs : List ℕ) → All (λ x. x < p) xs → are_variables p xs ≡ true
variables_pass p xs h = →all_true _ xs (λ x. lt-ltb x p) h

function_back : (f : Function) → function_of (len_or_code f) ≡ f
function_back len = refl
function_back code = refl

function_few : (f : Function) → len_or_code f ≤ 1
function_few len = omega arith
function_few code = omega arith

fits : (f : Form) (m : ℕ) → f.least ≤ m → (m - f.least) % f.stride ≡ 0 → (m - f.least) / f.stride ≤ f.greatest → fits_form f m ≡ true
fits f m l s g = ap₂ ◌&&◌ (le-leb f.least m l) (ap₂ ◌&&◌ (eq-eqb ((m - f.least) % f.stride) 0 s) (le-leb ((m - f.least) / f.stride) f.greatest g))

-- ---- the operands of a body of m bytes at a position

record OperandsRead (b : List ℕ) (u : Question) (at m : ℕ) (st : Step) : Type 0 where
  short : m < 65536
  fitting : fits_form (form_for (rule_in st)) m ≡ true
  is_in_range : operands_in_range b u.p (column_count u) (rule_in st) at m ≡ true
  reads : step_of b (rule_in st) at m ≡ st

module _ (b : List ℕ) (u : Question) (few : column_count u ≤ column_limit) (at m : ℕ) (rest : List ℕ) where
  -- the number of a variable is short
  variable_short : (x : ℕ) → x < u.p → IsU16 x
  variable_short x h = omega arith

  module _ (d : ℕ) (ts : List (ℕ × ℤ)) (h : SumInRange d ts) (l : m ≡ 4 + length (bytes_of 4 d ++ pair_bytes ts))
      (e : drop (at + 4) b ≡ (bytes_of 4 d ++ pair_bytes ts) ++ rest) where
    sum_length : m ≡ 8 + 6 * length ts
    sum_length = omega (arith, l, length-append (bytes_of 4 d) (pair_bytes ts), length_bytes 4 d, length_pair_bytes ts)

    sum_stands : drop (at + 4) b ≡ bytes_of 4 d ++ (pair_bytes ts ++ rest)
    sum_stands = e ∙ append_assoc (bytes_of 4 d) (pair_bytes ts) rest

    sum_divisor : u32 b (at + 4) ≡ d
    sum_divisor = u32_back b (at + 4) d (pair_bytes ts ++ rest) (omega (arith, h.divisor_held)) sum_stands

    sum_pairs_law : sum_pairs b at m ≡ ts
    sum_pairs_law =
        ap (pairs_at b (at + 8)) (let z : pairs_in m ≡ length ts = omega (arith, sum_length) in z)
        ∙ pairs_back b (at + 8) ts rest (all_map ts (λ t (s, k). (s, small_held number_limit t.1 (omega arith) k)) h.pairs)
        (subst (λ n. drop n b ≡ pair_bytes ts ++ rest) (let z : at + 4 + 4 ≡ at + 8 = omega arith in z)
        (behind b (at + 4) 4 (bytes_of 4 d) (pair_bytes ts ++ rest) (length_bytes 4 d) sum_stands))

    sum_read : OperandsRead b u at m (Sum d ts)
    unfolding operands_in_range step_of multipliers_within
    sum_read = record {
      short = omega (arith, sum_length, h.few_pairs);
      fitting =
          fits (form_for sum) m (omega (arith, sum_length, h.some_pair)) (omega (arith, sum_length, h.some_pair))
          (omega (arith, sum_length, h.some_pair, h.few_pairs));
      is_in_range =
          ap₂ ◌&&◌ (ap (leb 1) sum_divisor ∙ le-leb 1 d h.divisor)
          (ap₂ ◌&&◌ (ap (λ v. leb v 2147483647) sum_divisor ∙ le-leb d 2147483647 (omega (arith, h.divisor_held)))
          (ap multipliers_within sum_pairs_law ∙ →all_true _ ts (λ t k. le-leb (nat_abs t.1) number_limit k.1) h.pairs));
      reads = ap₂ Sum sum_divisor sum_pairs_law;
    }

  branch_read : (e : List ℤ) → FormInRange u e → m ≡ 4 + length (form_bytes e) → drop (at + 4) b ≡ form_bytes e ++ rest → OperandsRead b u at m (BranchOn e)
  unfolding operands_in_range step_of
  branch_read e h l s =
      let f = form_read b u (at + 4) e rest few h s in
      let size : m ≡ 8 + 6 * f.count = omega (arith, l, f.bytes) in
      let count : pairs_in m ≡ f.count = omega (arith, size) in
      record {
        short = omega (arith, size, f.few);
        fitting = fits (form_for branch) m (omega (arith, size)) (omega (arith, size)) (omega (arith, size, f.few));
        is_in_range = ap (form_range b (column_count u) (at + 4)) count ∙ f.is_in_range;
        reads = ap (λ n. BranchOn (form_of b (at + 4) n)) count ∙ ap BranchOn f.is_form;
      }

  card_read : (xs : List ℕ) → OperandsInRange u (Card xs) → m ≡ 4 + length (u16_bytes xs) → drop (at + 4) b ≡ u16_bytes xs ++ rest
      → OperandsRead b u at m (Card xs)
  unfolding operands_in_range step_of OperandsInRange
  card_read xs (some-two, most, below) l s =
      let size : m ≡ 4 + 2 * length xs = omega (arith, l, length_shorts xs) in
      let read : card_variables b at m ≡ xs =
      ap (u16s b (at + 4)) (let z : (m - 4) / 2 ≡ length xs = omega (arith, size) in z) ∙ u16s_back b (at + 4) xs rest (all_map xs variable_short below) s in
      record {
        short = omega (arith, size, most);
        fitting = fits (form_for card) m (omega (arith, size, some-two)) (omega (arith, size, some-two)) (omega (arith, size, some-two, most));
        is_in_range = ap (are_variables u.p) read ∙ variables_pass u.p xs below;
        reads = ap Card read;
      }

  -- one u16, and two
  module _ (x : ℕ) (h : IsU16 x) (l : m ≡ 4 + length (u16_bytes (x ∷ []))) (s : drop (at + 4) b ≡ u16_bytes (x ∷ []) ++ rest) where
    one_length : m ≡ 6
    one_length = l ∙ ap (λ n. 4 + n) (length_shorts (x ∷ []))

    one_back : u16 b (at + 4) ≡ x
    one_back = short_at b (at + 4) (x ∷ []) rest 0 (at + 4) (h, tt) s (omega arith) (omega arith)

  module _ (x y : ℕ) (h : IsU16 x) (k : IsU16 y) (l : m ≡ 4 + length (u16_bytes (x ∷ y ∷ []))) (s : drop (at + 4) b ≡ u16_bytes (x ∷ y ∷ []) ++ rest) where
    two_length : m ≡ 8
    two_length = l ∙ ap (λ n. 4 + n) (length_shorts (x ∷ y ∷ []))

    two_back : (u16 b (at + 4) ≡ x) × (u16 b (at + 6) ≡ y)
    two_back = (
      short_at b (at + 4) (x ∷ y ∷ []) rest 0 (at + 4) (h, (k, tt)) s (omega arith) (omega arith),
      short_at b (at + 4) (x ∷ y ∷ []) rest 1 (at + 6) (h, (k, tt)) s (omega arith) (omega arith),
    )

  one_fits : m ≡ 6 → fits_form (form 6 1 0) m ≡ true
  one_fits e = fits (form 6 1 0) m (omega arith) (omega arith) (omega arith)

  two_fit : m ≡ 8 → fits_form (form 8 1 0) m ≡ true
  two_fit e = fits (form 8 1 0) m (omega arith) (omega arith) (omega arith)

  variable_passes : (v x : ℕ) → v ≡ x → x < u.p → are_variables u.p (v ∷ []) ≡ true
  variable_passes v x e h = ap (λ v. are_variables u.p (v ∷ [])) e ∙ variables_pass u.p (x ∷ []) (h, tt)

  variables_passes : (v w x y : ℕ) → v ≡ x → w ≡ y → x < u.p → y < u.p → are_variables u.p (v ∷ w ∷ []) ≡ true
  variables_passes v w x y e f h k = ap₂ (λ v w. are_variables u.p (v ∷ w ∷ [])) e f ∙ variables_pass u.p (x ∷ y ∷ []) (h, (k, tt))

  property_read : (f : Function) (x y : ℕ) → x < u.p → y < u.p → m ≡ 4 + length (u16_bytes (len_or_code f ∷ x ∷ y ∷ []))
      → drop (at + 4) b ≡ u16_bytes (len_or_code f ∷ x ∷ y ∷ []) ++ rest
      → OperandsRead b u at m (SProp f x y)
  unfolding operands_in_range step_of
  property_read f x y h k l s =
      let vs : List ℕ = len_or_code f ∷ x ∷ y ∷ [] in
      let size : m ≡ 10 = l ∙ ap (λ n. 4 + n) (length_shorts vs) in
      let few-function = function_few f in
      let shorts : All IsU16 vs = (omega arith, (variable_short x h, (variable_short y k, tt))) in
      let function : u16 b (at + 4) ≡ len_or_code f = short_at b (at + 4) vs rest 0 (at + 4) shorts s (omega arith) (omega arith) in
      let first : u16 b (at + 6) ≡ x = short_at b (at + 4) vs rest 1 (at + 6) shorts s (omega arith) (omega arith) in
      let second : u16 b (at + 8) ≡ y = short_at b (at + 4) vs rest 2 (at + 8) shorts s (omega arith) (omega arith) in
      record {
        short = omega (arith, size);
        fitting = fits (form_for s_prop) m (omega (arith, size)) (omega (arith, size)) (omega (arith, size));
        is_in_range =
            ap₂ ◌&&◌ (ap (λ v. leb v 1) function ∙ le-leb (len_or_code f) 1 few-function)
            (variables_passes (u16 b (at + 6)) (u16 b (at + 8)) x y first second h k);
        reads =
            ap (λ v. SProp (function_of v) (u16 b (at + 6)) (u16 b (at + 8))) function
            ∙ ap (λ g. SProp g (u16 b (at + 6)) (u16 b (at + 8))) (function_back f)
            ∙ ap₂ (SProp f) first second;
      }

  -- ---- each rule

  operands_read : (st : Step) → OperandsInRange u st → m ≡ 4 + length (operand_bytes st) → drop (at + 4) b ≡ operand_bytes st ++ rest → OperandsRead b u at m st
  unfolding operands_in_range step_of OperandsInRange
  operands_read (Sum d ts) h l s = sum_read d ts h l s
  operands_read (BranchOn e) h l s = branch_read e h l s
  operands_read (Apart k) h l s =
      let size = one_length k h l s in
      record { short = omega (arith, size); fitting = one_fits size; is_in_range = refl; reads = ap Apart (one_back k h l s) }
  operands_read (AConf k) h l s =
      let size = one_length k h l s in
      record { short = omega (arith, size); fitting = one_fits size; is_in_range = refl; reads = ap AConf (one_back k h l s) }
  operands_read SConf h l s = record { short = omega arith; fitting = fits (form_for s_conf) m (omega arith) (omega arith) (omega arith); is_in_range = refl; reads = refl }
  operands_read (SProp f x y) (h, k) l s = property_read f x y h k l s
  operands_read (LIntro x) h l s =
      let size = one_length x (variable_short x h) l s in
      let read = one_back x (variable_short x h) l s in
      record { short = omega (arith, size); fitting = one_fits size; is_in_range = variable_passes (u16 b (at + 4)) x read h; reads = ap LIntro read }
  operands_read (LValid x) h l s =
      let size = one_length x (variable_short x h) l s in
      let read = one_back x (variable_short x h) l s in
      record { short = omega (arith, size); fitting = one_fits size; is_in_range = variable_passes (u16 b (at + 4)) x read h; reads = ap LValid read }
  operands_read (CCollapse x) h l s =
      let size = one_length x (variable_short x h) l s in
      let read = one_back x (variable_short x h) l s in
      record { short = omega (arith, size); fitting = one_fits size; is_in_range = variable_passes (u16 b (at + 4)) x read h; reads = ap CCollapse read }
  operands_read (CValid x) h l s =
      let size = one_length x (variable_short x h) l s in
      let read = one_back x (variable_short x h) l s in
      record { short = omega (arith, size); fitting = one_fits size; is_in_range = variable_passes (u16 b (at + 4)) x read h; reads = ap CValid read }
  operands_read (CInj x y) (h, k) l s =
      let size = two_length x y (variable_short x h) (variable_short y k) l s in
      let (first, second) = two_back x y (variable_short x h) (variable_short y k) l s in
      record {
        short = omega (arith, size);
        fitting = two_fit size;
        is_in_range = variables_passes (u16 b (at + 4)) (u16 b (at + 6)) x y first second h k;
        reads = ap₂ CInj first second;
      }
  operands_read (Card xs) h l s = card_read xs h l s
  operands_read (Join i j) (h, k) l s =
      let size = two_length i j h k l s in
      let (first, second) = two_back i j h k l s in
      record { short = omega (arith, size); fitting = two_fit size; is_in_range = refl; reads = ap₂ Join first second }

-- ---- the record of a step

-- the step with its child field is read at a position, and what stands after it
pub record StepRead (b : List ℕ) (u : Question) (at : ℕ) (t : Step × ℕ) (rest : List ℕ) : Type 0 where
  pub is_whole : whole b at ≡ true
  pub is_step : kind b at ≡ 6
  pub fits : length_fits b (at + 6) (size b at) ≡ true
  pub operands : operands_in_range b u.p (column_count u) (rule b (at + 6)) (at + 6) (size b at) ≡ true
  pub holds : step_with_child b at ≡ t
  pub rest_stands : drop (next b at) b ≡ rest

module _ (b : List ℕ) (at : ℕ) (st : Step) (k : ℕ) (short : IsU16 k) (rest : List ℕ) (e : drop at b ≡ body_of st k ++ rest) where
  abbrev leading : List ℕ
  leading = number_of (rule_in st) ∷ k ∷ []

  leading_stands : drop at b ≡ u16_bytes leading ++ (operand_bytes st ++ rest)
  leading_stands = e ∙ ap (λ l. l ++ rest) (body_is st k) ∙ append_assoc (u16_bytes leading) (operand_bytes st) rest

  leading_short : All IsU16 leading
  leading_short = (number_short (rule_in st), (short, tt))

  rule_read : rule b at ≡ rule_in st
  rule_read = ap rule_of (short_at b at leading (operand_bytes st ++ rest) 0 at leading_short leading_stands (omega arith) (omega arith)) ∙ rule_numbered (rule_in st)

  child_read : child_field b at ≡ k
  child_read = short_at b at leading (operand_bytes st ++ rest) 1 (at + 2) leading_short leading_stands (omega arith) (omega arith)

  operands_stand : drop (at + 4) b ≡ operand_bytes st ++ rest
  operands_stand = behind b at 4 (u16_bytes leading) (operand_bytes st ++ rest) (length_shorts leading) leading_stands

pub step_read : (b : List ℕ) (u : Question) (at : ℕ) (t : Step × ℕ) (rest : List ℕ) → column_count u ≤ column_limit → OperandsInRange u t.0 → IsU16 t.1
    → drop at b ≡ step_record t ++ rest
    → StepRead b u at t rest
unfolding step_record
step_read b u at (st, k) rest few h short e =
    let long : ℕ = 4 + length (operand_bytes st) in
    let body : List ℕ = body_of st k in
    let stands : drop (at + 6) b ≡ body ++ rest =
    (leading_read b at (length body) 6 (body ++ rest) (omega arith) (e ∙ record_leads 6 body rest)).more_stands in
    let o = operands_read b u few (at + 6) long rest st h refl (operands_stand b (at + 6) st k short rest stands) in
    let r = record_read b at 6 body rest (omega arith) (omega (arith, length_body st k, o.short)) e in
    let sized : size b at ≡ long = r.is_size ∙ length_body st k in
    let ruled : rule b (at + 6) ≡ rule_in st = rule_read b (at + 6) st k short rest stands in
    record {
      is_whole = r.is_whole;
      is_step = r.is_kind;
      fits = ap₂ (λ q m. fits_form (form_for q) m) ruled sized ∙ o.fitting;
      operands = ap₂ (λ q m. operands_in_range b u.p (column_count u) q (at + 6) m) ruled sized ∙ o.is_in_range;
      holds =
          ap₂ (λ (s : Step) (c : ℕ). (s, c)) (ap₂ (λ q m. step_of b q (at + 6) m) ruled sized ∙ o.reads)
          (child_read b (at + 6) st k short rest stands);
      rest_stands = r.rest_stands;
    }
