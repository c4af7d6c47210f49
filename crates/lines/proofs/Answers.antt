-- The lines of an answer, read from its bytes at the front of a buffer, are those of the strings and integers that it was written from.
use Prim.Native.Nat.{ℕ, zero, suc, ◌+◌, ◌*◌, ◌/◌, ◌≤◌, ◌<◌}
use native.Mathlib.Omega.{arith}
use mathlib.Core.Path.{◌≡◌, refl, sym, ◌∙◌, ap, ap₂}
use mathlib.Core.Bool.{true}
use native.Mathlib.Numerals.{add-one}
use mathlib.Core.List.{List, [], ◌∷◌, ◌++◌, append_assoc}
use lib.ListN.{length, get_or, get_or-append, length-append}
use lib.Dec.{eqb}
use borrow.Author.Tests.{leb-true, eqb-true}
use Rattle.lists.proofs.Tests.{and_both}
use Rattle.format.specs.Fields.{u16, u32, u32s, i32s, signed}
use Rattle.format.specs.Records.{size, kind, next, whole, records}
use Rattle.format.specs.Places.{text_at, texts, skip}
use Rattle.format.specs.Answer.{encode, record_is, string_form, answer_form, integers_at}
use Rattle.calculus.specs.Meaning.{Assignment}
use Rattle.format.specs.Checking.{Strings, verdict}
use Rattle.format.proofs.Judged.{judged_taken}
use Rattle.format.proofs.Demands.{demands}
use Rattle.lines.specs.Lines.{string_line, integer_lines, end_line, string_lines, answer_lines}
use Rattle.lines.specs.Buffers.{record_lines}
use Rattle.lines.proofs.Lines.{lines_string, lines_integers}

-- ---- fields before the end of the first part

module _ (s t : List ℕ) where
  byte : (i : ℕ) → i < length s → get_or (s ++ t) i 0 ≡ get_or s i 0
  byte i h = get_or-append s t 0 i h

  u16_kept : (at : ℕ) → at + 2 ≤ length s → u16 (s ++ t) at ≡ u16 s at
  u16_kept at h = ap₂ (λ a b. a + 256 * b) (byte at (omega arith)) (byte (at + 1) (omega arith))

  u32_kept : (at : ℕ) → at + 4 ≤ length s → u32 (s ++ t) at ≡ u32 s at
  unfolding u32
  u32_kept at h = omega (arith, byte at (omega arith), byte (at + 1) (omega arith), byte (at + 2) (omega arith), byte (at + 3) (omega arith))

  u32s_kept : (k at : ℕ) → at + 4 * k ≤ length s → u32s (s ++ t) at k ≡ u32s s at k
  unfolding u32s
  u32s_kept zero at h = refl
  u32s_kept (suc k) at h = ap₂ ◌∷◌ (u32_kept at (omega arith)) (u32s_kept k (at + 4) (omega arith))

  i32s_kept : (k at : ℕ) → at + 4 * k ≤ length s → i32s (s ++ t) at k ≡ i32s s at k
  unfolding i32s
  i32s_kept zero at h = refl
  i32s_kept (suc k) at h = ap₂ ◌∷◌ (ap signed (u32_kept at (omega arith))) (i32s_kept k (at + 4) (omega arith))

  -- a record of the first part stands in both
  module _ (at : ℕ) (h : next s at ≤ length s) where
    kind_kept : kind s at ≡ kind (s ++ t) at
    kind_kept = sym (u16_kept (at + 4) (omega arith))

    size_kept : size s at ≡ size (s ++ t) at
    size_kept = sym (u32_kept at (omega arith))

    longer : at + 6 + size s at ≤ length (s ++ t)
    longer = omega (arith, length-append s t)

  -- the lines of the records, whatever stands after the first part, are those of its strings and integers
  lines_read : (p q k at : ℕ) → answer_form s p q at ≡ true
      → record_lines (s ++ t) k (records (s ++ t) at) ≡ string_lines k (texts s p at) ++ (integer_lines 0 (integers_at s q (skip s p at)) ++ end_line)
  unfolding answer_form texts skip string_lines
  lines_read zero q k at e =
      let (there, f) = and_both (whole s at) _ (and_both (record_is s at 10 (4 * q)) _ e).0 in
      let (ten, sized) = and_both (eqb (kind s at) 10) _ f in
      let h : next s at ≤ length s = leb-true _ _ there in
      let is : kind s at ≡ 10 = eqb-true _ _ ten in
      let other : (kind s at ≡ 9 → ⊥) = λ z. omega arith in
      let many : size s at / 4 ≡ q = omega (arith, eqb-true (size s at) (4 * q) sized) in
      sym (lines_integers (s ++ t) k at (kind s at) (size s at) (kind_kept at h, size_kept at h, longer at h) other)
      ∙ ap (λ zs. integer_lines 0 zs ++ end_line) (i32s_kept (size s at / 4) (at + 6) (omega arith) ∙ ap (i32s s (at + 6)) many)
  lines_read (suc p) q k at e =
      let (here, later) = and_both (string_form s at) _ e in
      let (there, f) = and_both (whole s at) _ here in
      let h : next s at ≤ length s = leb-true _ _ there in
      let is : kind s at ≡ 9 = eqb-true _ _ (and_both (eqb (kind s at) 9) _ f).0 in
      sym (lines_string (s ++ t) k at (kind s at) (size s at) (kind_kept at h, size_kept at h, longer at h) is)
      ∙ ap₂ (λ cs l. string_line k cs ++ l) (u32s_kept (size s at / 4) (at + 6) (omega arith))
      (ap (λ j. record_lines (s ++ t) j (records (s ++ t) (next s at))) (add-one k) ∙ lines_read p q (suc k) (next s at) later)
      ∙ sym (append_assoc (string_line k (text_at s at)) (string_lines (suc k) (texts s p (next s at))) (integer_lines 0 (integers_at s q (skip s p (next s at))) ++ end_line))

-- ---- what judging reads from the bytes is what they were written from

pub answer_lines_law : (work answer : ℕ) (b : List ℕ) (a : Assignment) (t : List ℕ)
    → verdict work answer b ≡ Strings a
    → record_lines (encode a ++ t) 0 (records (encode a ++ t) 0) ≡ answer_lines a
answer_lines_law work answer b a t e =
    let (u, k) = demands.th_5 work answer b a e in
    let read = judged_taken b (encode a) u [] a k.read_back in
    lines_read (encode a) t u.p u.q 0 0 read.formed ∙ ap answer_lines (sym read.values_are)
