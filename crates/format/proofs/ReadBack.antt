-- The answer is read back: its bytes have the answer's form, and judging reads from them the strings and integers that they were written from.
use Prim.Native.Nat.{ℕ, ◌+◌, ◌*◌, ◌/◌, ◌%◌, ◌≤◌}
use native.Mathlib.Omega.{arith}
use mathlib.Core.Path.{◌≡◌, refl, sym, ◌∙◌, ap, ap₂, subst}
use mathlib.Core.Bool.{true, ◌&&◌}
use mathlib.Core.Option.{Option, none, some}
use mathlib.Core.List.{List, [], ◌∷◌, ◌++◌, append_assoc, append-nil, flat_map}
use lib.ListN.{length, drop}
use lib.IntN.{ℤ}
use borrow.Author.Tests.{leb-true, le-leb, eq-eqb}
use Rattle.lists.specs.Lists.{All}
use Rattle.lists.proofs.Lists.{all_map, get_d_all}
use Rattle.calculus.specs.Limits.{Small, alphabet_limit, variable_limit, length_limit, value_limit}
use Rattle.calculus.specs.Alphabet.{Over}
use Rattle.calculus.proofs.Alphabet.{character_below}
use Rattle.calculus.specs.Facts.{Question}
use Rattle.calculus.specs.Meaning.{Assignment, IsAssignment}
use Rattle.calculus.specs.Extended.{Extended}
use Rattle.format.specs.Fields.{u32s, IsU32, IsI32}
use Rattle.format.specs.Records.{size, kind, next}
use Rattle.format.specs.Question.{judging_manner, judged_question, by_head}
use Rattle.format.specs.Places.{skip, text_at, texts}
use Rattle.format.specs.Answer.{record_bytes, character_bytes, integer_bytes, string_records, encode, answer_form, integers_at, assignment_of, outside}
use Rattle.format.specs.Judging.{Submission, Rejected, Submitted, by_form, judge_answer, judge_behind, submission}
use Rattle.format.specs.Demands.{AnswerHeld, Asks, Th3All}
use Rattle.format.proofs.Entries.{ReadInRange}
use Rattle.format.proofs.Encoded.{length_characters, length_integers}
use Rattle.format.proofs.Asked.{headed_by, read_in_range}
use Rattle.format.proofs.BytesRead.{u32s_back, i32s_back, all_held, RecordAt, record_read}
use Rattle.format.proofs.Outside.{FirstOutside, outside_unique, outside_found}

-- ---- the answer's form

-- the records of the integers and of the end
abbrev tail_bytes : List ℤ → List ℕ
tail_bytes zs = record_bytes 10 (integer_bytes zs) ++ record_bytes 8 []

module _ (b : List ℕ) (zs : List ℤ) (few : length zs ≤ variable_limit) where
  abbrev tail : List ℕ
  tail = tail_bytes zs

  integers_at_law : (at : ℕ) → drop at b ≡ tail → RecordAt b at 10 (integer_bytes zs) (record_bytes 8 [])
  integers_at_law at e = record_read b at 10 (integer_bytes zs) (record_bytes 8 []) (omega arith) (omega (arith, length_integers zs)) e

  string_at : (s : List ℕ) (ss : List (List ℕ)) (at : ℕ) → length s ≤ length_limit → drop at b ≡ string_records (s ∷ ss) ++ tail
      → RecordAt b at 9 (character_bytes s) (string_records ss ++ tail)
  unfolding string_records flat_map
  string_at s ss at h e =
      record_read b at 9 (character_bytes s) (string_records ss ++ tail) (omega arith) (omega (arith, length_characters s))
      (e ∙ append_assoc (record_bytes 9 (character_bytes s)) (string_records ss) tail)

  tail_form : (at : ℕ) → drop at b ≡ tail → answer_form b 0 (length zs) at ≡ true
  unfolding answer_form
  tail_form at e =
      let k = integers_at_law at e in
      let l = record_read b (next b at) 8 [] [] (omega arith) (omega arith) (k.rest_stands ∙ sym (append-nil (record_bytes 8 []))) in
      ap₂ ◌&&◌
      (ap₂ ◌&&◌ k.is_whole (ap₂ ◌&&◌ (eq-eqb (kind b at) 10 k.is_kind) (eq-eqb (size b at) (4 * length zs) (k.is_size ∙ length_integers zs))))
      (ap₂ ◌&&◌ (ap₂ ◌&&◌ l.is_whole (ap₂ ◌&&◌ (eq-eqb (kind b (next b at)) 8 l.is_kind) (eq-eqb (size b (next b at)) 0 l.is_size)))
      (eq-eqb (next b (next b at)) (length b) (omega (arith, l.ends))))

  -- whatever the characters and the integers are
  pub strings_form : (ss : List (List ℕ)) (at : ℕ) → All (λ s. length s ≤ length_limit) ss → drop at b ≡ string_records ss ++ tail
      → answer_form b (length ss) (length zs) at ≡ true
  unfolding answer_form string_records flat_map
  strings_form [] at h e = tail_form at e
  strings_form (s ∷ ss) at (h, hs) e =
      let k = string_at s ss at h e in
      let fours : size b at ≡ 4 * length s = k.is_size ∙ length_characters s in
      ap₂ ◌&&◌ (ap₂ ◌&&◌ k.is_whole (ap₂ ◌&&◌ (eq-eqb (kind b at) 9 k.is_kind) (ap₂ ◌&&◌ (eq-eqb (size b at % 4) 0 (omega arith))
      (le-leb (size b at) (4 * length_limit) (omega arith))))) (strings_form ss (next b at) hs k.rest_stands)

-- ---- the answer's values

-- the strings ss are read from a position on, and the integers zs after them
record Back (b : List ℕ) (ss : List (List ℕ)) (zs : List ℤ) (at : ℕ) : Type 0 where
  strings : texts b (length ss) at ≡ ss
  integers : integers_at b (length zs) (skip b (length ss) at) ≡ zs

strings_back : (b : List ℕ) (zs : List ℤ) → length zs ≤ variable_limit → All IsI32 zs
    → (ss : List (List ℕ)) (at : ℕ) → All (λ s. length s ≤ length_limit) ss → All (All IsU32) ss → drop at b ≡ string_records ss ++ tail_bytes zs → Back b ss zs at
unfolding texts skip string_records flat_map
strings_back b zs few values [] at h o e =
    record { strings = refl; integers = i32s_back b (at + 6) zs (record_bytes 8 []) values (integers_at_law b zs few at e).body_stands }
strings_back b zs few values (s ∷ ss) at (h, hs) (o, os) e =
    let k = string_at b zs few s ss at h e in
    let many : size b at / 4 ≡ length s = omega (arith, k.is_size, length_characters s) in
    let read : text_at b at ≡ s = ap (u32s b (at + 6)) many ∙ u32s_back b (at + 6) s (string_records ss ++ tail_bytes zs) o k.body_stands in
    let later = strings_back b zs few values ss (next b at) hs os k.rest_stands in
    record { strings = ap₂ ◌∷◌ read later.strings; integers = later.integers }

-- ---- judging

-- the bytes of strings of at most 64 characters and of few integers are of the answer's form
pub encode_form : (a : Assignment) → length a.ints ≤ variable_limit → All (λ s. length s ≤ length_limit) a.strs
    → answer_form (encode a) (length a.strs) (length a.ints) 0 ≡ true
unfolding encode
encode_form a few short = strings_form (encode a) a.ints few a.strs 0 short refl

-- from the bytes of what an answer holds judging reads just that
held_back : (u : Question) (a : Assignment) → u.q ≤ variable_limit → AnswerHeld u a → assignment_of (encode a) u ≡ a
unfolding encode
held_back u a few h =
    let k = strings_back (encode a) a.ints (omega (arith, h.integers)) h.values a.strs 0 h.short h.characters refl in
    ap₂ (λ p q. record { strs = texts (encode a) p 0; ints = integers_at (encode a) q (skip (encode a) p 0) }) (sym h.strings) (sym h.integers)
    ∙ ap₂ (λ ss zs. record { strs = ss; ints = zs }) k.strings k.integers

-- where a question is asked, it is in range and what is said is what judging says of the answer
pub asked_range : (b : List ℕ) (u : Question) (es : List Extended) → Asks b u es → ReadInRange u
asked_range b u es e =
    let h = headed_by (λ s. (s.question, s.extended)) (judged_question b) e in
    subst ReadInRange (ap (λ x. x.0) h.gives) (read_in_range judging_manner b h.ends (leb-true 1 h.progress.last h.has_head))

pub asked_judged : (b : List ℕ) (u : Question) (es : List Extended) → Asks b u es → (v : List ℕ) → submission b v ≡ judge_answer u es v
unfolding submission
asked_judged b u es e v =
    let h = headed_by (λ s. (s.question, s.extended)) (judged_question b) e in
    ap (λ g. judge_behind g v) h.ends
    ∙ ap (by_head Rejected (λ u es. judge_answer u es v) h.progress h.number) h.has_head
    ∙ ap (λ x. judge_answer x.0 x.1 v) h.gives

-- and names the first record out of its range, or submits the values where there is none
pub held_judged : (b : List ℕ) (u : Question) (es : List Extended) (a : Assignment) (o : Option ℕ) → Asks b u es → AnswerHeld u a
    → FirstOutside u.n a.strs a.ints o
    → submission b (encode a) ≡ elim o as (λ _. Submission) [ none ↦ Submitted u es a | some r ↦ Rejected 16 r ]
held_judged b u es a o e h first =
    let few : u.q ≤ variable_limit = (asked_range b u es e).head.integers in
    let read : assignment_of (encode a) u ≡ a = held_back u a few h in
    let form : answer_form (encode a) u.p u.q 0 ≡ true =
    ap₂ (λ p q. answer_form (encode a) p q 0) (sym h.strings) (sym h.integers) ∙ encode_form a (omega (arith, h.integers)) h.short in
    let found : outside (encode a) u u.p 0 0 ≡ o =
    outside_unique u.n a.strs a.ints (outside (encode a) u u.p 0 0) o
    (subst (λ (a' : Assignment). FirstOutside u.n a'.strs a'.ints (outside (encode a) u u.p 0 0)) read (outside_found (encode a) u)) first in
    asked_judged b u es e (encode a) ∙ ap₂ (by_form u es (encode a)) form found ∙ said o read
  where
    said : (o : Option ℕ) → assignment_of (encode a) u ≡ a → by_form u es (encode a) true o ≡ elim o as (λ _. Submission) [ none ↦ Submitted u es a | some r ↦ Rejected 16 r ]
    said none read = ap (Submitted u es) read
    said (some r) read = refl

-- an assignment of the question, in range, is held
in_range_held : (u : Question) (a : Assignment) → u.n ≤ alphabet_limit → IsAssignment u a → All (λ s. length s ≤ length_limit) a.strs
    → All (Small value_limit) a.ints
    → AnswerHeld u a × All (Over u.n) a.strs
in_range_held u a characters f short values =
    let over : All (Over u.n) a.strs = get_d_all (Over u.n) a.strs [] (λ x h. f.over x) in (
      record {
        strings = f.strings;
        short = short;
        characters = all_map a.strs (λ s h. all_map s (λ c k. omega (arith, character_below u.n c k)) h) over;
        integers = f.integers;
        values = all_held value_limit a.ints (omega arith) values;
      },
      over,
    )

pub answers_judged : Th3All
answers_judged b u es a e f short values =
    let (h, over) = in_range_held u a (asked_range b u es e).characters f short values in
    held_judged b u es a none e h (over, values)
