-- What judging takes for an answer, from bytes below 256, is written as these bytes: Th3's answers, 15 for what no strings and integers are written as, and 16
-- for those out of range.
use Prim.Native.Nat.{ℕ, zero, suc, ◌+◌, ◌*◌, ◌/◌, ◌%◌, ◌≤◌}
use native.Mathlib.Omega.{arith}
use mathlib.Core.Path.{◌≡◌, refl, sym, ◌∙◌, ap, ap₂, subst}
use mathlib.Core.Logic.{◌≢◌, inl, inr}
use mathlib.Core.Bool.{Bool, true, false, ◌&&◌}
use mathlib.Core.Option.{Option, none, some}
use mathlib.Core.List.{List, [], ◌++◌, append_assoc, append-nil, flat_map}
use lib.ListN.{length, drop, drop_of_length-le}
use lib.Dec.{leb, eqb}
use lib.IntN.{ℤ}
use borrow.Author.Tests.{leb-true, eqb-true}
use Rattle.lists.specs.Lists.{All}
use Rattle.lists.proofs.Tests.{and_both}
use Rattle.calculus.specs.Limits.{Small, variable_limit, length_limit, value_limit}
use Rattle.calculus.specs.Facts.{Question}
use Rattle.calculus.specs.Meaning.{Assignment}
use Rattle.format.specs.Fields.{IsU32}
use Rattle.format.specs.Records.{size, kind, next, whole}
use Rattle.format.specs.Places.{skip, text_at, texts}
use Rattle.format.specs.Answer.{record_bytes, character_bytes, integer_bytes, string_records, encode, record_is, string_form, answer_form, integers_at, assignment_of}
use Rattle.format.specs.Answer.{outside}
use Rattle.format.specs.Judging.{Submission, Rejected, Submitted, by_form, submission}
use Rattle.format.specs.Demands.{Bytes, AnswerInRange, Th3Answers, Th3Unformed, AnswerHeld, OutsideAt, character, integer, Th3Outside}
use Rattle.format.proofs.Faults.{clash}
use Rattle.format.proofs.Encoded.{length_characters, length_integers}
use Rattle.format.proofs.Fields.{length_u32s, length_i32s}
use Rattle.format.proofs.Places.{length_texts}
use Rattle.format.proofs.Outside.{FirstOutside, outside_found, all_inside}
use Rattle.format.proofs.BytesWritten.{u32s_held, i32s_held, u32s_written, i32s_written, body_written}
use Rattle.format.proofs.ReadBack.{encode_form, asked_range, asked_judged, held_judged, answers_judged}
use Rattle.format.proofs.Judged.{judged_taken, judging_is_theory}

-- ---- a record of an answer of its form

record Is (b : List ℕ) (at k m : ℕ) : Type 0 where
  there : next b at ≤ length b
  of_kind : kind b at ≡ k
  of_size : size b at ≡ m

record_is_law : (b : List ℕ) (at k m : ℕ) → record_is b at k m ≡ true → Is b at k m
record_is_law b at k m e =
    let (w, t) = and_both (whole b at) (eqb (kind b at) k && eqb (size b at) m) e in
    let (x, y) = and_both (eqb (kind b at) k) (eqb (size b at) m) t in
    record { there = leb-true (next b at) (length b) w; of_kind = eqb-true (kind b at) k x; of_size = eqb-true (size b at) m y }

-- the records from a position on
pub record AnswerWritten (b : List ℕ) (p q at : ℕ) : Type 0 where
  pub stands : drop at b ≡ string_records (texts b p at) ++ (record_bytes 10 (integer_bytes (integers_at b q (skip b p at))) ++ record_bytes 8 [])
  pub short : All (λ s. length s ≤ length_limit) (texts b p at)

module _ (b : List ℕ) (small : Bytes b) (q : ℕ) where
  tail_written : (at : ℕ) → answer_form b 0 q at ≡ true → AnswerWritten b 0 q at
  unfolding answer_form texts skip string_records flat_map
  tail_written at e =
      let (ints, rest) = and_both (record_is b at 10 (4 * q)) (record_is b (next b at) 8 0 && eqb (next b (next b at)) (length b)) e in
      let (end, last) = and_both (record_is b (next b at) 8 0) (eqb (next b (next b at)) (length b)) rest in
      let i = record_is_law b at 10 (4 * q) ints in
      let k = record_is_law b (next b at) 8 0 end in
      let all : next b (next b at) ≡ length b = eqb-true (next b (next b at)) (length b) last in
      let zs : List ℤ = integers_at b q at in
      let behind : drop (next b at) b ≡ record_bytes 8 [] ++ drop (next b (next b at)) b =
      body_written b small (next b at) 8 [] (drop (next b (next b at)) b) (omega (arith, k.there)) k.of_kind k.of_size
      (ap (λ n. drop n b) (let z : next b at + 6 ≡ next b (next b at) = omega (arith, k.of_size) in z)) in
      record {
        stands =
            body_written b small at 10 (integer_bytes zs) (drop (next b at) b) (omega (arith, i.there)) i.of_kind
            (i.of_size ∙ sym (length_integers zs ∙ ap (λ n. 4 * n) (length_i32s b (at + 6) q)))
            (i32s_written b small (at + 6) q (omega (arith, i.there, i.of_size))
            ∙ ap (λ n. integer_bytes zs ++ drop n b) (let z : at + 6 + 4 * q ≡ next b at = omega (arith, i.of_size) in z))
            ∙ ap (λ xs. record_bytes 10 (integer_bytes zs) ++ xs) (
            behind ∙ ap (λ xs. record_bytes 8 [] ++ xs) (drop_of_length-le b (let z : length b ≤ next b (next b at) = omega arith in z)) ∙ append-nil (record_bytes 8 [])
            );
        short = tt;
      }

  pub answer_written : (p at : ℕ) → answer_form b p q at ≡ true → AnswerWritten b p q at
  unfolding answer_form texts skip string_records flat_map
  answer_written zero at e = tail_written at e
  answer_written (suc p) at e =
      let (form, rest) = and_both (string_form b at) (answer_form b p q (next b at)) e in
      let (w, f) = and_both (whole b at) (eqb (kind b at) 9 && (eqb (size b at % 4) 0 && leb (size b at) (4 * length_limit))) form in
      let (k, g) = and_both (eqb (kind b at) 9) (eqb (size b at % 4) 0 && leb (size b at) (4 * length_limit)) f in
      let (r, h) = and_both (eqb (size b at % 4) 0) (leb (size b at) (4 * length_limit)) g in
      let there : next b at ≤ length b = leb-true (next b at) (length b) w in
      let fours : size b at % 4 ≡ 0 = eqb-true (size b at % 4) 0 r in
      let most : size b at ≤ 4 * length_limit = leb-true (size b at) (4 * length_limit) h in
      let s : List ℕ = text_at b at in
      let many : length s ≡ size b at / 4 = length_u32s b (at + 6) (size b at / 4) in
      let later = answer_written p (next b at) rest in
      let tail : List ℕ = record_bytes 10 (integer_bytes (integers_at b q (skip b p (next b at)))) ++ record_bytes 8 [] in
      record {
        stands =
            body_written b small at 9 (character_bytes s) (drop (next b at) b) (omega arith) (eqb-true (kind b at) 9 k) (omega (arith, length_characters s))
            (u32s_written b small (at + 6) (size b at / 4) (omega arith)
            ∙ ap (λ n. character_bytes s ++ drop n b) (let z : at + 6 + 4 * (size b at / 4) ≡ next b at = omega arith in z))
            ∙ ap (λ xs. record_bytes 9 (character_bytes s) ++ xs) later.stands
            ∙ sym (append_assoc (record_bytes 9 (character_bytes s)) (string_records (texts b p (next b at))) tail);
        short = (omega arith, later.short);
      }

-- an answer of its form is the bytes of the values that are read from it
pub form_written : (v : List ℕ) → Bytes v → (u : Question) → answer_form v u.p u.q 0 ≡ true → v ≡ encode (assignment_of v u)
unfolding encode
form_written v small u e = (answer_written v small u.q u.p 0 e).stands

-- and an answer can hold these values
texts_held : (v : List ℕ) → Bytes v → (p at : ℕ) → All (All IsU32) (texts v p at)
unfolding texts
texts_held v small zero at = tt
texts_held v small (suc p) at = (u32s_held v small (at + 6) (size v at / 4), texts_held v small p (next v at))

form_held : (v : List ℕ) → Bytes v → (u : Question) → answer_form v u.p u.q 0 ≡ true → AnswerHeld u (assignment_of v u)
form_held v small u e = record {
  strings = length_texts v u.p 0;
  short = (answer_written v small u.q u.p 0 e).short;
  characters = texts_held v small u.p 0;
  integers = length_i32s v (skip v u.p 0 + 6) u.q;
  values = i32s_held v small (skip v u.p 0 + 6) u.q;
}

-- ---- the theorems

pub answers_written : Th3Answers
answers_written b v u es a small asks = (from_bytes, to_bytes)
  where
    from_bytes : submission b v ≡ Submitted u es a → AnswerInRange u a × (v ≡ encode a)
    from_bytes e =
        let t = judged_taken b v u es a e in
        let w = answer_written v small u.q u.p 0 t.formed in
        let values : assignment_of v u ≡ a = sym t.values_are in (
          record {
            for_question = (judging_is_theory b v u es a e).for_question;
            short = subst (λ (a : Assignment). All (λ s. length s ≤ length_limit) a.strs) values w.short;
            small = subst (λ (a : Assignment). All (Small value_limit) a.ints) values (all_inside v u t.all_inside).1;
          },
          form_written v small u t.formed ∙ ap encode values,
        )

    to_bytes : AnswerInRange u a × (v ≡ encode a) → submission b v ≡ Submitted u es a
    to_bytes (r, e) = ap (submission b) e ∙ answers_judged b u es a asks r.for_question r.short r.small

pub answers_unformed : Th3Unformed
answers_unformed b v u es small asks = (from_bytes, to_bytes)
  where
    by_test : Bool → Submission
    by_test x = by_form u es v x (outside v u u.p 0 0)

    judged : submission b v ≡ by_test (answer_form v u.p u.q 0)
    judged = asked_judged b u es asks v

    formed_not : (o : Option ℕ) → by_form u es v true o ≢ Rejected 15 0
    formed_not none e = clash cc
    formed_not (some r) e = let z : ◌≡◌ {A = ℕ} 16 15 = cc in omega arith

    from_bytes : submission b v ≡ Rejected 15 0
        → (a : Assignment) → length a.strs ≡ u.p → length a.ints ≡ u.q → All (λ s. length s ≤ length_limit) a.strs → v ≢ encode a
    from_bytes e a strings integers short is =
        let few : length a.ints ≤ variable_limit = omega (arith, (asked_range b u es asks).head.integers) in
        let form : answer_form v u.p u.q 0 ≡ true =
        ap (λ v. answer_form v u.p u.q 0) is ∙ ap₂ (λ p q. answer_form (encode a) p q 0) (sym strings) (sym integers) ∙ encode_form a few short in
        formed_not (outside v u u.p 0 0) (sym (judged ∙ ap by_test form) ∙ e)

    to_bytes : ((a : Assignment) → length a.strs ≡ u.p → length a.ints ≡ u.q → All (λ s. length s ≤ length_limit) a.strs → v ≢ encode a)
        → submission b v ≡ Rejected 15 0
    to_bytes h = judged ∙ go (answer_form v u.p u.q 0) refl
      where
        go : (x : Bool) → answer_form v u.p u.q 0 ≡ x → by_test x ≡ Rejected 15 0
        go false e = refl
        go true e =
            let held = form_held v small u e in
            absurd (h (assignment_of v u) held.strings held.integers held.short (form_written v small u e))

pub answers_outside : Th3Outside
answers_outside b v u es r small asks = (from_bytes, to_bytes)
  where
    Outside : Type 0
    Outside = (a : Assignment) × AnswerHeld u a × (v ≡ encode a) × OutsideAt u a r

    at_record : (a : Assignment) → length a.strs ≡ u.p → FirstOutside u.n a.strs a.ints (some r) → OutsideAt u a r
    at_record a strings (inl (s, there, no-s, before)) = character s there no-s before
    at_record a strings (inr (l, over, no-z)) = integer (l ∙ strings) over no-z

    first : (a : Assignment) → length a.strs ≡ u.p → OutsideAt u a r → FirstOutside u.n a.strs a.ints (some r)
    first a strings (character s there no-s before) = inl (s, there, no-s, before)
    first a strings (integer e over no-z) = inr (e ∙ sym strings, over, no-z)

    from_bytes : submission b v ≡ Rejected 16 r → Outside
    from_bytes e = go (answer_form v u.p u.q 0) (outside v u u.p 0 0) refl refl (sym (asked_judged b u es asks v) ∙ e)
      where
        go : (x : Bool) (o : Option ℕ) → answer_form v u.p u.q 0 ≡ x → outside v u u.p 0 0 ≡ o → by_form u es v x o ≡ Rejected 16 r → Outside
        go false o f g e = absurd (let z : ◌≡◌ {A = ℕ} 15 16 = cc in omega arith)
        go true none f g e = clash cc
        go true (some k) f g e =
            let a : Assignment = assignment_of v u in
            let same : k ≡ r = cc in
            let found : FirstOutside u.n a.strs a.ints (some r) =
            subst (FirstOutside u.n a.strs a.ints) (g ∙ ap some same) (outside_found v u) in
            let held = form_held v small u f in
            (a, held, form_written v small u f, at_record a held.strings found)

    to_bytes : Outside → submission b v ≡ Rejected 16 r
    to_bytes (a, h, e, o) = ap (submission b) e ∙ held_judged b u es a (some r) asks h (first a h.strings o)
