-- The bytes of a question by their parts, and those of one with a literal, a constraint or an extended constraint more.
use Prim.Native.Nat.{ℕ, ◌+◌}
use native.Mathlib.Omega.{arith}
use mathlib.Core.Path.{◌≡◌, sym, ◌∙◌, ap}
use mathlib.Core.List.{List, [], ◌∷◌, ◌++◌, append_assoc, append-nil, flat_map}
use lib.ListN.{length, length-append}
use Rattle.lists.proofs.Lists.{flat_map_snoc}
use Rattle.calculus.specs.Facts.{Question, Fact}
use Rattle.calculus.specs.Extended.{Extended}
use Rattle.format.specs.Question.{with_fact}
use Rattle.format.specs.Written.{head_record, literal_record, constraint_record, extended_record, question_bytes}
use Rattle.format.proofs.QuestionRecords.{asking}

abbrev pub head_part : Question → List ℕ
head_part u = head_record u.n u.p u.q

abbrev pub literal_part : Question → List ℕ
literal_part u = flat_map literal_record u.literals

abbrev pub constraint_part : Question → List ℕ
constraint_part u = flat_map constraint_record u.constraints

abbrev pub extended_part : List Extended → List ℕ
extended_part es = flat_map extended_record es

module _ (u : Question) where
  abbrev heads : List ℕ
  heads = head_part u

  abbrev lits : List ℕ
  lits = literal_part u

  abbrev facts : List ℕ
  facts = constraint_part u

  pub plain_parts : (rest : List ℕ) → question_bytes u [] ++ rest ≡ heads ++ (lits ++ (facts ++ rest))
  unfolding question_bytes flat_map
  plain_parts rest =
      append_assoc heads (lits ++ (facts ++ [])) rest
      ∙ ap (λ xs. heads ++ xs) (append_assoc lits (facts ++ []) rest ∙ ap (λ xs. lits ++ (xs ++ rest)) (append-nil facts))

  pub length_plain : length (question_bytes u []) ≡ length heads + length lits + length facts
  unfolding question_bytes flat_map
  length_plain = omega (arith, length-append heads (lits ++ (facts ++ [])), length-append lits (facts ++ []), ap length (append-nil facts))

  module _ (es : List Extended) where
    abbrev extras : List ℕ
    extras = extended_part es

    pub parts : (rest : List ℕ) → question_bytes u es ++ rest ≡ question_bytes u [] ++ (extras ++ rest)
    unfolding question_bytes
    parts rest =
        append_assoc heads (lits ++ (facts ++ extras)) rest
        ∙ ap (λ xs. heads ++ xs) (append_assoc lits (facts ++ extras) rest ∙ ap (λ xs. lits ++ xs) (append_assoc facts extras rest))
        ∙ sym (plain_parts (extras ++ rest))

    pub length_question : length (question_bytes u es) ≡ length (question_bytes u []) + length extras
    length_question = ap length (sym (append-nil (question_bytes u es)) ∙ parts [] ∙ ap (λ xs. question_bytes u [] ++ xs) (append-nil extras))
        ∙ length-append (question_bytes u []) extras

-- one record more
pub literal_more : (n p q : ℕ) (ls : List (List ℕ)) (s rest : List ℕ)
    → question_bytes (asking n p q (ls ++ (s ∷ [])) []) [] ++ rest ≡ question_bytes (asking n p q ls []) [] ++ (literal_record s ++ rest)
unfolding flat_map
literal_more n p q ls s rest =
    plain_parts (asking n p q (ls ++ (s ∷ [])) []) rest
    ∙ ap (λ xs. head_record n p q ++ xs) (
    ap (λ xs. xs ++ rest) (flat_map_snoc literal_record ls s) ∙ append_assoc (flat_map literal_record ls) (literal_record s) rest
    )
    ∙ sym (plain_parts (asking n p q ls []) (literal_record s ++ rest))

pub constraint_more : (u : Question) (f : Fact) (rest : List ℕ) → question_bytes (with_fact u f) [] ++ rest ≡ question_bytes u [] ++ (constraint_record f ++ rest)
constraint_more u f rest =
    plain_parts (with_fact u f) rest
    ∙ ap (λ xs. head_part u ++ (literal_part u ++ xs)) (
    ap (λ xs. xs ++ rest) (flat_map_snoc constraint_record u.constraints f) ∙ append_assoc (constraint_part u) (constraint_record f) rest
    )
    ∙ sym (plain_parts u (constraint_record f ++ rest))

pub extended_more : (u : Question) (es : List Extended) (e : Extended) (rest : List ℕ)
    → question_bytes u (es ++ (e ∷ [])) ++ rest ≡ question_bytes u es ++ (extended_record e ++ rest)
extended_more u es e rest =
    parts u (es ++ (e ∷ [])) rest
    ∙ ap (λ xs. question_bytes u [] ++ xs) (
    ap (λ xs. xs ++ rest) (flat_map_snoc extended_record es e) ∙ append_assoc (extended_part es) (extended_record e) rest
    )
    ∙ sym (parts u es (extended_record e ++ rest))
