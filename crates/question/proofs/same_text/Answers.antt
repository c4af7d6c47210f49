use mathlib.Core.Path.{◌≡◌, refl, sym, ◌∙◌, ap, ap₂}
use mathlib.Core.Bool.{Bool}
use mathlib.Core.List.{List, ◌++◌}
use Prim.Native.Nat.{ℕ, ◌+◌, ◌*◌, ◌-◌, ◌≤◌, ◌<◌}
use native.Mathlib.Omega.{arith}
use lib.Dec.{eqb}
use lib.ListN.{length, take, drop}
use lib.Pointwise.{pointwise}
use Rattle.std.proofs.Math.Seq.{take-append_seam}
use Rattle.std.proofs.lemmas.Slice.Eq.{bytes_eq-Decides}
use borrow.Author.Tests.{ne_eqb}
use Rattle.lists.proofs.Lists.{get_d_all, eq_list_lengths}
use Rattle.lists.proofs.Tests.{equal_tests, →true, true→}
use Rattle.calculus.specs.Strings.{eq_string}
use Rattle.calculus.proofs.Words.{eq_string→, →eq_string}
use Rattle.format.specs.Fields.{u32s}
use Rattle.format.specs.Answer.{character_bytes}
use Rattle.format.specs.Demands.{Bytes}
use Rattle.format.proofs.Fields.{length_u32s}
use Rattle.format.proofs.Encoded.{length_characters}
use Rattle.format.proofs.BytesRead.{u32s_back}
use Rattle.format.proofs.BytesWritten.{u32s_written, u32s_held}
use Rattle.question.proofs.Loops.{same_differs, text_char}
use Rattle.question.proofs.same_text.Goals as goal

-- the bytes of the k characters at a position
abbrev part : List ℕ → ℕ → ℕ → List ℕ
part b at k = take (at + 4 * k - at) (drop at b)

module _ (b : List ℕ) (bytes : Bytes b) (at k : ℕ) (there : at + 4 * k ≤ length b) where
  count : length (character_bytes (u32s b at k)) ≡ 4 * k
  count = length_characters (u32s b at k) ∙ ap (λ n. 4 * n) (length_u32s b at k)

  -- they are those that the characters are written by
  written : part b at k ≡ character_bytes (u32s b at k)
  written =
      ap₂ take (let z : at + 4 * k - at ≡ 4 * k = omega arith in z ∙ sym count) (u32s_written b bytes at k there)
      ∙ take-append_seam (character_bytes (u32s b at k)) (drop (at + 4 * k) b)

-- equal texts have equal bytes, and the other way
module _ (a b : List ℕ) (below : Bytes a) (within : Bytes b) (x m y k : ℕ) (h : x + 4 * m ≤ length a) (g : y + 4 * k ≤ length b) where
  alike : part a x m ≡ part b y k → u32s a x m ≡ u32s b y k
  alike e =
      let s : List ℕ = u32s a x m in
      let same : character_bytes s ≡ character_bytes (u32s b y k) = sym (written a below x m h) ∙ e ∙ written b within y k g in
      let many : length s ≡ k = omega (arith, length_u32s a x m, ap length same, count a below x m h, count b within y k g) in
      sym (u32s_back b y s (drop (y + 4 * k) b) (u32s_held a below x m) (u32s_written b within y k g ∙ ap (λ t. t ++ drop (y + 4 * k) b) (sym same)))
      ∙ ap (u32s b y) many

  texts_compared : (r : Bool) → r ≡ pointwise eqb (part a x m) (part b y k) → r ≡ eq_string (u32s a x m) (u32s b y k)
  texts_compared r e =
      let (to, from) = bytes_eq-Decides (part a x m) (part b y k) in
      equal_tests r (eq_string (u32s a x m) (u32s b y k))
      (λ z. →eq_string (alike (to (sym e ∙ →true r z))))
      (λ z. true→ (e ∙ from (written a below x m h ∙ ap character_bytes (eq_string→ _ _ z) ∙ sym (written b within y k g))))

pub returns-then-m-k : goal.returns-then-m-k
returns-then-m-k c =
    let s = c.args in
    sym (eq_list_lengths eqb (u32s s.a.now s.x s.m) (u32s s.b.now s.y s.k)
    (λ e. c.if-m-k.true (sym (length_u32s s.a.now s.x s.m) ∙ e ∙ length_u32s s.b.now s.y s.k)))

pub returns-then-m-eq0 : goal.returns-then-m-eq0
unfolding u32s
returns-then-m-eq0 c =
    let none : c.args.k ≡ 0 = omega arith in
    rw (c.if-m-eq0.true, none) refl

pub returns-then-u32_at : goal.returns-then-u32_at
returns-then-u32_at c =
    let a = c.args in
    texts_compared a.a.now a.b.now (get_d_all (λ k. k < 256) a.a.now 0 (λ i _. omega (arith, c.type_inv.a i)))
    (get_d_all (λ k. k < 256) a.b.now 0 (λ i _. omega (arith, c.type_inv.b i)))
    a.x a.m a.y a.k c.requires.0 c.requires.1 c.eq.result c.eq.ensures

pub returns-else-u32_at : goal.returns-else-u32_at
returns-else-u32_at c =
    let s = c.args in
    let p = text_char s.a.now s.x s.m (s.m - 1) (omega arith) in
    let q = text_char s.b.now s.y s.k (s.m - 1) (omega arith) in
    ne_eqb _ _ c.if-u32_at.false
    ∙ sym (same_differs (u32s s.a.now s.x s.m) (u32s s.b.now s.y s.k) (s.m - 1)
    (λ e. c.if-u32_at.false (c.u32_at.ensures.0 ∙ sym p ∙ e ∙ q ∙ sym c.u32_at-2.ensures.0)))
