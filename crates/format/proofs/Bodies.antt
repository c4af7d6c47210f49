-- The bodies of a head and of a literal, and three fields, both ways: what is written in range is read without fault as what it says, and a body without fault is
-- written as what it says.
use Prim.Native.Nat.{ℕ, ◌+◌, ◌*◌, ◌/◌, ◌%◌, ◌<◌, ◌≤◌}
use native.Mathlib.Omega.{arith}
use mathlib.Core.Path.{◌≡◌, refl, sym, ◌∙◌, ap, ap₂}
use mathlib.Core.Bool.{Bool, true, false, not, ◌&&◌}
use mathlib.Core.List.{List, [], ◌∷◌, ◌++◌, append_assoc}
use lib.ListN.{length, get_or, drop, length-append}
use lib.Dec.{T_not, leb, eqb}
use borrow.Author.Tests.{leb-true, eqb-true, le-leb, eq-eqb}
use Rattle.lists.proofs.Lists.{In, all_map}
use Rattle.lists.proofs.Tests.{→true, true→, and_both, →and_both}
use Rattle.calculus.specs.Limits.{alphabet_limit, variable_limit, literal_limit, length_limit, column_limit}
use Rattle.calculus.specs.Alphabet.{all_characters}
use Rattle.calculus.proofs.Alphabet.{character_below}
use Rattle.calculus.specs.Facts.{Question, column_count}
use Rattle.calculus.specs.Strings.{given}
use Rattle.calculus.proofs.Words.{over→, →over, given→, →given}
use Rattle.format.specs.Fields.{bytes_of, u16, u32, u32s, u16s, IsU16}
use Rattle.format.specs.Records.{need}
use Rattle.format.specs.Answer.{character_bytes}
use Rattle.format.specs.Question.{head_range, head_fault, text_of, literal_length, literal_fault, three_fault}
use Rattle.format.specs.Written.{u16_bytes, LiteralInRange}
use Rattle.format.specs.Demands.{Bytes}
use Rattle.format.proofs.Faults.{none_applies, passed}
use Rattle.format.proofs.Encoded.{length_bytes, length_shorts, length_characters}
use Rattle.format.proofs.Fields.{length_u32s}
use Rattle.format.proofs.BytesRead.{behind, u32_back, u16s_back, u32s_back}
use Rattle.format.proofs.BytesWritten.{u32_written, u16s_written, u32s_written}

-- ---- a head

abbrev pub head_body : ℕ → ℕ → ℕ → List ℕ
head_body n p q = bytes_of 4 n ++ u16_bytes (p ∷ q ∷ [])

pub length_head : (n p q : ℕ) → length (head_body n p q) ≡ 8
length_head n p q = length-append (bytes_of 4 n) (u16_bytes (p ∷ q ∷ [])) ∙ ap₂ ◌+◌ (length_bytes 4 n) (length_shorts (p ∷ q ∷ []))

pub record HeadRead (b : List ℕ) (at n p q : ℕ) : Type 0 where
  pub n_is : u32 b at ≡ n
  pub p_is : u16 b (at + 4) ≡ p
  pub q_is : u16 b (at + 6) ≡ q

pub head_read : (b : List ℕ) (at n p q : ℕ) (rest : List ℕ) → n < 4294967296 → IsU16 p → IsU16 q → drop at b ≡ head_body n p q ++ rest → HeadRead b at n p q
unfolding u16s
head_read b at n p q rest ln lp lq e =
    let f : drop at b ≡ bytes_of 4 n ++ (u16_bytes (p ∷ q ∷ []) ++ rest) = e ∙ append_assoc (bytes_of 4 n) (u16_bytes (p ∷ q ∷ [])) rest in
    let two : u16s b (at + 4) 2 ≡ p ∷ q ∷ [] =
    u16s_back b (at + 4) (p ∷ q ∷ []) rest (lp, (lq, tt)) (behind b at 4 (bytes_of 4 n) (u16_bytes (p ∷ q ∷ []) ++ rest) (length_bytes 4 n) f) in
    record {
      n_is = u32_back b at n (u16_bytes (p ∷ q ∷ []) ++ rest) ln f;
      p_is = ap (λ l. get_or l 0 0) two;
      q_is = ap (u16 b) (let z : at + 6 ≡ at + 4 + 2 = omega arith in z) ∙ ap (λ l. get_or l 1 0) two;
    }

pub head_fine : (b : List ℕ) (at n p q : ℕ) → 1 ≤ n → n ≤ alphabet_limit → p ≤ variable_limit → q ≤ variable_limit → HeadRead b at n p q → head_fault b at 8 ≡ 0
head_fine b at n p q hn kn hp hq r =
    passed 6 (head_range b at) 0 (
    →and_both (leb 1 (u32 b at)) (leb (u32 b at) alphabet_limit && (leb (u16 b (at + 4)) variable_limit && leb (u16 b (at + 6)) variable_limit))
    (le-leb 1 (u32 b at) (omega (arith, r.n_is)))
    (→and_both (leb (u32 b at) alphabet_limit) (leb (u16 b (at + 4)) variable_limit && leb (u16 b (at + 6)) variable_limit)
    (le-leb (u32 b at) alphabet_limit (omega (arith, r.n_is)))
    (→and_both (leb (u16 b (at + 4)) variable_limit) (leb (u16 b (at + 6)) variable_limit)
    (le-leb (u16 b (at + 4)) variable_limit (omega (arith, r.p_is)))
    (le-leb (u16 b (at + 6)) variable_limit (omega (arith, r.q_is)))))
    )

pub head_written : (b : List ℕ) → Bytes b → (at : ℕ) → at + 8 ≤ length b
    → drop at b ≡ head_body (u32 b at) (u16 b (at + 4)) (u16 b (at + 6)) ++ drop (at + 8) b
unfolding u16s
head_written b bytes at l =
    let n : ℕ = u32 b at in
    let p : ℕ = u16 b (at + 4) in
    let two : u16s b (at + 4) 2 ≡ p ∷ u16 b (at + 6) ∷ [] =
    ap (λ i. p ∷ u16 b i ∷ []) (let z : at + 4 + 2 ≡ at + 6 = omega arith in z) in
    u32_written b bytes at (omega arith)
    ∙ ap (λ xs. bytes_of 4 n ++ xs) (
    u16s_written b bytes (at + 4) 2 (omega arith)
    ∙ ap₂ (λ vs i. u16_bytes vs ++ drop i b) two (let z : at + 4 + 2 * 2 ≡ at + 8 = omega arith in z)
    )
    ∙ sym (append_assoc (bytes_of 4 n) (u16_bytes (p ∷ u16 b (at + 6) ∷ [])) (drop (at + 8) b))

-- ---- a literal

module _ (b : List ℕ) (n at : ℕ) (s : List ℕ) where
  pub literal_read : (rest : List ℕ) → n ≤ alphabet_limit → LiteralInRange n s → drop at b ≡ character_bytes s ++ rest → text_of b at (length (character_bytes s)) ≡ s
  literal_read rest h r e =
      let many : length (character_bytes s) / 4 ≡ length s = omega (arith, length_characters s) in
      ap (u32s b at) many ∙ u32s_back b at s rest (all_map s (λ c k. omega (arith, character_below n c k)) r.below) e

  pub literal_fine : (ls : List (List ℕ)) (m : ℕ) → m ≡ length (character_bytes s) → LiteralInRange n s → text_of b at m ≡ s → (In s ls → ⊥)
      → literal_fault b n ls at m ≡ 0
  literal_fine ls m k r e new =
      let four : m ≡ 4 * length s = k ∙ length_characters s in
      passed 5 (literal_length m) (need 6 (all_characters n (text_of b at m)) (need 7 (not (given (text_of b at m) ls)) 0))
      (→and_both (leb 4 m) (leb m (4 * length_limit) && eqb (m % 4) 0) (le-leb 4 m (omega (arith, r.some_character)))
      (→and_both (leb m (4 * length_limit)) (eqb (m % 4) 0) (le-leb m (4 * length_limit) (omega (arith, r.few_characters))) (eq-eqb (m % 4) 0 (omega arith))))
      ∙ passed 6 (all_characters n (text_of b at m)) (need 7 (not (given (text_of b at m) ls)) 0)
      (ap (all_characters n) e ∙ →true (all_characters n s) (→over n s r.below))
      ∙ passed 7 (not (given (text_of b at m) ls)) 0 (ap (λ s. not (given s ls)) e ∙ fresh (given s ls) refl)
    where
      fresh : (x : Bool) → given s ls ≡ x → not x ≡ true
      fresh true g = absurd (new (given→ s ls (true→ g)))
      fresh false g = refl

-- what is left of a literal's body without fault
pub record LiteralWritten (b : List ℕ) (n : ℕ) (ls : List (List ℕ)) (at m : ℕ) : Type 0 where
  pub is_in_range : LiteralInRange n (text_of b at m)
  pub new : In (text_of b at m) ls → ⊥
  pub bytes : length (character_bytes (text_of b at m)) ≡ m
  pub stands : drop at b ≡ character_bytes (text_of b at m) ++ drop (at + m) b

pub literal_written : (b : List ℕ) → Bytes b → (n : ℕ) (ls : List (List ℕ)) (at m : ℕ) → at + m ≤ length b → literal_fault b n ls at m ≡ 0 → LiteralWritten b n ls at m
literal_written b bytes n ls at m l e =
    let s : List ℕ = text_of b at m in
    let a5 =
    none_applies 4 (literal_length m) (need 6 (all_characters n s) (need 7 (not (given s ls)) 0)) e in
    let a6 = none_applies 5 (all_characters n s) (need 7 (not (given s ls)) 0) a5.1 in
    let a7 = none_applies 6 (not (given s ls)) 0 a6.1 in
    let l1 = and_both (leb 4 m) _ a5.0 in
    let l2 = and_both _ (eqb (m % 4) 0) l1.1 in
    let least : 4 ≤ m = leb-true _ _ l1.0 in
    let most : m ≤ 4 * length_limit = omega (arith, leb-true m _ l2.0) in
    let fours : m % 4 ≡ 0 = eqb-true _ _ l2.1 in
    let many : length s ≡ m / 4 = length_u32s b at (m / 4) in
    let all : at + 4 * (m / 4) ≡ at + m = omega arith in
    record {
      is_in_range = record { some_character = omega arith; few_characters = omega arith; below = over→ n s (true→ a6.0) };
      new = λ i. T_not (given s ls) (true→ a7.0) (→given s ls i);
      bytes = omega (arith, length_characters s);
      stands =
          u32s_written b bytes at (m / 4) (omega arith)
          ∙ ap (λ i. character_bytes s ++ drop i b) all;
    }

-- ---- three fields

abbrev pub three_body : ℕ → ℕ → ℕ → List ℕ
three_body r x y = u16_bytes (r ∷ x ∷ y ∷ [])

pub record ThreeRead (b : List ℕ) (at r x y : ℕ) : Type 0 where
  pub first : u16 b at ≡ r
  pub second : u16 b (at + 2) ≡ x
  pub third : u16 b (at + 4) ≡ y

pub three_read : (b : List ℕ) (at r x y : ℕ) (rest : List ℕ) → IsU16 r → IsU16 x → IsU16 y → drop at b ≡ three_body r x y ++ rest → ThreeRead b at r x y
unfolding u16s
three_read b at r x y rest lr lx ly e =
    let three : u16s b at 3 ≡ r ∷ x ∷ y ∷ [] = u16s_back b at (r ∷ x ∷ y ∷ []) rest (lr, (lx, (ly, tt))) e in
    record {
      first = ap (λ l. get_or l 0 0) three;
      second = ap (λ l. get_or l 1 0) three;
      third = ap (u16 b) (let z : at + 4 ≡ at + 2 + 2 = omega arith in z) ∙ ap (λ l. get_or l 2 0) three;
    }

pub three_fine : (range : ℕ → ℕ → ℕ → Bool) (b : List ℕ) (at r x y : ℕ) → ThreeRead b at r x y → range r x y ≡ true → three_fault range b at 6 ≡ 0
three_fine range b at r x y t e = passed 6 (range (u16 b at) (u16 b (at + 2)) (u16 b (at + 4))) 0 (rw (t.first, t.second, t.third) e)

pub three_written : (b : List ℕ) → Bytes b → (at : ℕ) → at + 6 ≤ length b
    → drop at b ≡ three_body (u16 b at) (u16 b (at + 2)) (u16 b (at + 4)) ++ drop (at + 6) b
unfolding u16s
three_written b bytes at l =
    let three : u16s b at 3 ≡ u16 b at ∷ u16 b (at + 2) ∷ u16 b (at + 4) ∷ [] =
    ap (λ i. u16 b at ∷ u16 b (at + 2) ∷ u16 b i ∷ []) (let z : at + 2 + 2 ≡ at + 4 = omega arith in z) in
    u16s_written b bytes at 3 l ∙ ap (λ vs. u16_bytes vs ++ drop (at + 6) b) three

-- ---- how many there may be

-- the numbers that the ranges leave
pub record Counts (u : Question) : Type 0 where
  pub strings : u.p ≤ variable_limit
  pub integers : u.q ≤ variable_limit
  pub literals : length u.literals ≤ literal_limit

pub few_columns : (u : Question) → Counts u → column_count u ≤ column_limit
few_columns u c = omega (arith, c.strings, c.integers)
