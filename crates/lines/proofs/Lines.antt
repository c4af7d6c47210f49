-- The lines, text by text.
use Prim.Native.Nat.{ℕ, zero, suc, ◌+◌, ◌-◌, ◌*◌, ◌/◌, ◌%◌, ◌≤◌, ◌<◌}
use native.Mathlib.Numerals.{add-one}
use native.Mathlib.Omega.{arith}
use mathlib.Core.Path.{◌≡◌, refl, sym, ◌∙◌, ap, ap₂}
use mathlib.Core.Bool.{Bool, true, false}
use mathlib.Core.List.{List, [], ◌∷◌, ◌++◌, append-nil, append_assoc}
use lib.ListN.{length}
use lib.IntN.{ℤ, pos, nat_abs}
use lib.Signed.{lt_z}
use mir.Syntax.{w64}
use mir.Val.{SFits, of_z, to_z}
use Rattle.integers.proofs.Machine.{negative, not_negative}
use lib.Dec.{leb, eqb}
use borrow.Author.Tests.{lt-ltb, le-ltb, le-leb, lt-leb, leb-true, leb-false, eq-eqb, ne_eqb}
use Rattle.lists.proofs.Lists.{down}
use Rattle.format.specs.Fields.{u32, u32s, i32s, i32}
use Rattle.format.specs.Records.{size, kind, next, whole, records}
use Rattle.format.proofs.Fields.{length_u32s}
use Rattle.format.proofs.Records.{records_none, records_more}
use Rattle.lines.specs.Lines.{digits, decimal, integer, spaced, string_line, integer_line, integer_lines, end_line}
use Rattle.lines.specs.Buffers.{record_lines}

-- ---- numbers

-- by whether the number is a digit
abbrev by_digit : ℕ → ℕ → Bool → List ℕ
by_digit k n t = elim t as (λ _. List ℕ) [ true ↦ (48 + n) ∷ [] | false ↦ digits k (n / 10) ++ ((48 + n % 10) ∷ []) ]

pub digits_none : (k n : ℕ) → k ≡ 0 → digits k n ≡ []
unfolding digits
digits_none zero n e = refl
digits_none (suc k) n e = absurd (omega arith)

pub digits_one : (k n : ℕ) → 0 < k → n < 10 → digits k n ≡ (48 + n) ∷ []
unfolding digits
digits_one zero n h l = absurd (omega arith)
digits_one (suc k) n h l = ap (by_digit k n) (lt-ltb n 10 l)

pub digits_more : (k n : ℕ) → 0 < k → 10 ≤ n → digits k n ≡ digits (k - 1) (n / 10) ++ ((48 + n % 10) ∷ [])
unfolding digits
digits_more zero n h l = absurd (omega arith)
digits_more (suc k) n h l = ap (by_digit k n) (le-ltb n 10 l) ∙ ap (λ j. digits j (n / 10) ++ ((48 + n % 10) ∷ [])) (sym (down k))

-- an integer by the test for its sign, as the machine holds it
module _ (z : ℤ) (f : SFits w64 z) where
  pub integer_positive : lt_z (to_z w64 (of_z w64 z)) (pos 0) ≡ false → decimal (nat_abs (to_z w64 (of_z w64 z))) ≡ integer z
  integer_positive e = let (_, _, held, is) = not_negative z f e in ap (λ h. decimal (nat_abs h)) held ∙ sym (ap integer is)

  pub integer_negative : lt_z (to_z w64 (of_z w64 z)) (pos 0) ≡ true → 45 ∷ decimal (nat_abs (to_z w64 (of_z w64 z))) ≡ integer z
  integer_negative e = let (_, _, held, is) = negative z f e in ap (λ h. 45 ∷ decimal (nat_abs h)) held ∙ sym (ap integer is)

-- ---- one character or integer more

spaced_last : (b : List ℕ) (at k : ℕ) → spaced (u32s b at k) ++ (32 ∷ decimal (u32 b (at + 4 * k))) ≡ spaced (u32s b at (suc k))
unfolding spaced u32s
spaced_last b at zero = ap (λ n. 32 ∷ decimal (u32 b n)) (let e : at + 4 * 0 ≡ at = omega arith in e) ∙ sym (append-nil (32 ∷ decimal (u32 b at)))
spaced_last b at (suc k) = ap (λ l. 32 ∷ l)
    (append_assoc (decimal (u32 b at)) (spaced (u32s b (at + 4) k)) (32 ∷ decimal (u32 b (at + 4 * suc k)))
    ∙ ap (λ l. decimal (u32 b at) ++ l)
    (ap (λ n. spaced (u32s b (at + 4) k) ++ (32 ∷ decimal (u32 b n))) (let e : at + 4 * suc k ≡ at + 4 + 4 * k = omega arith in e)
    ∙ spaced_last b (at + 4) k))

pub spaced_next : (b : List ℕ) (at k : ℕ) → spaced (u32s b at k) ++ (32 ∷ decimal (u32 b (at + 4 * k))) ≡ spaced (u32s b at (k + 1))
spaced_next b at k = rw (add-one k) (spaced_last b at k)

integers_last : (b : List ℕ) (j at k : ℕ) → integer_lines j (i32s b at k) ++ integer_line (j + k) (i32 b (at + 4 * k)) ≡ integer_lines j (i32s b at (suc k))
unfolding integer_lines i32s
integers_last b j at zero =
    ap₂ (λ i n. integer_line i (i32 b n)) (let e : j + 0 ≡ j = omega arith in e) (let e : at + 4 * 0 ≡ at = omega arith in e)
    ∙ sym (append-nil (integer_line j (i32 b at)))
integers_last b j at (suc k) =
    append_assoc (integer_line j (i32 b at)) (integer_lines (suc j) (i32s b (at + 4) k)) (integer_line (j + suc k) (i32 b (at + 4 * suc k)))
    ∙ ap (λ l. integer_line j (i32 b at) ++ l)
    (ap₂ (λ i n. integer_lines (suc j) (i32s b (at + 4) k) ++ integer_line i (i32 b n)) (let e : j + suc k ≡ suc j + k = omega arith in e)
    (let e : at + 4 * suc k ≡ at + 4 + 4 * k = omega arith in e)
    ∙ integers_last b (suc j) (at + 4) k)

pub integers_next : (b : List ℕ) (at k : ℕ) → integer_lines 0 (i32s b at k) ++ integer_line k (i32 b (at + 4 * k)) ≡ integer_lines 0 (i32s b at (k + 1))
integers_next b at k = rw (add-one k) (ap (λ i. integer_lines 0 (i32s b at k) ++ integer_line i (i32 b (at + 4 * k))) (let e : k ≡ 0 + k = omega arith in e) ∙ integers_last b 0 at k)

-- ---- a string's line

pub string_line_law : (k : ℕ) (b : List ℕ) (at count : ℕ)
    → 120 ∷ (decimal k ++ (((32 ∷ decimal count) ++ spaced (u32s b at count)) ++ (10 ∷ []))) ≡ string_line k (u32s b at count)
unfolding spaced
string_line_law k b at count = ap (λ n. 120 ∷ (decimal k ++ (((32 ∷ decimal n) ++ spaced (u32s b at count)) ++ (10 ∷ [])))) (sym (length_u32s b at count))

-- ---- the answer's records left

lines_none : (b : List ℕ) (k : ℕ) (ats : List ℕ) → ats ≡ [] → record_lines b k ats ≡ end_line
unfolding record_lines
lines_none b k ats e = ap (record_lines b k) e

module _ (b : List ℕ) (k at : ℕ) where
  -- by whether the record is whole and a string's
  abbrev by_record : Bool → Bool → List ℕ
  by_record w s = elim w as (λ _. List ℕ) [
    | false ↦ end_line
    | true ↦ elim s as (λ _. List ℕ) [
      | true ↦ string_line k (u32s b (at + 6) (size b at / 4)) ++ record_lines b (suc k) (records b (next b at))
      | false ↦ integer_lines 0 (i32s b (at + 6) (size b at / 4)) ++ end_line
    ]
  ]

  by_record_law : at + 6 ≤ length b → record_lines b k (records b at) ≡ by_record (whole b at) (eqb (kind b at) 9)
  unfolding record_lines
  by_record_law h = ap (record_lines b k) (records_more b at h)

  -- no whole record is left
  pub lines_end : length b < next b at → end_line ≡ record_lines b k (records b at)
  lines_end h = go (leb (at + 6) (length b)) refl
    where
      none : length b < at + 6 → end_line ≡ record_lines b k (records b at)
      none g = sym (lines_none b k (records b at) (records_none b at g))

      go : (t : Bool) → leb (at + 6) (length b) ≡ t → end_line ≡ record_lines b k (records b at)
      go true e = sym (by_record_law (leb-true _ _ e) ∙ ap (λ w. by_record w (eqb (kind b at) 9)) (lt-leb (next b at) (length b) h))
      go false e = none (leb-false _ _ e)

  module _ (kd m : ℕ) (w : (kd ≡ kind b at) × (m ≡ size b at) × (at + 6 + m ≤ length b)) where
    whole_record : record_lines b k (records b at) ≡ by_record true (eqb kd 9)
    whole_record = by_record_law (omega arith) ∙ ap₂ by_record (le-leb (next b at) (length b) (rw w.1 at w.2)) (ap (λ j. eqb j 9) (sym w.0))

    pub lines_string : kd ≡ 9 → string_line k (u32s b (at + 6) (m / 4)) ++ record_lines b (k + 1) (records b (at + 6 + m)) ≡ record_lines b k (records b at)
    lines_string e =
        ap₂ (λ j n. string_line k (u32s b (at + 6) (n / 4)) ++ record_lines b j (records b (at + 6 + n))) (add-one k) w.1
        ∙ sym (whole_record ∙ ap (by_record true) (eq-eqb kd 9 e))

    pub lines_integers : (kd ≡ 9 → ⊥) → integer_lines 0 (i32s b (at + 6) (m / 4)) ++ end_line ≡ record_lines b k (records b at)
    lines_integers e = ap (λ n. integer_lines 0 (i32s b (at + 6) (n / 4)) ++ end_line) w.1 ∙ sym (whole_record ∙ ap (by_record true) (ne_eqb kd 9 e))
