-- A question by position: one record more moves the numbers only.
use Prim.Native.Nat.{ℕ, zero, suc, ◌+◌, ◌-◌, ◌≤◌, ◌<◌}
use native.Mathlib.Omega.{arith}
use native.Mathlib.Numerals.{add-one}
use mathlib.Core.Path.{◌≡◌, refl, sym, ◌∙◌, ap, ap₂}
use mathlib.Core.Bool.{false}
use mathlib.Core.Option.{some}
use mathlib.Core.List.{List, [], ◌∷◌, ◌++◌, map}
use lib.ListN.{length, get_or, get_elem?, take}
use lib.Dec.{eqb}
use Rattle.lists.specs.Lists.{place_after}
use Rattle.lists.proofs.Lists.{place_after_suc, length_values_along, get_d_values_along, element_values_along, take_values_along, values_along_snoc, values_along_add}
use Rattle.lists.proofs.Lists.{map_values_along, down}
use Rattle.calculus.specs.Facts.{Question, Fact}
use Rattle.calculus.specs.Extended.{Extended, Constraint, basic, extended}
use Rattle.format.specs.Fields.{u16, u32}
use Rattle.format.specs.Records.{size, kind, next}
use Rattle.format.specs.Question.{head_rank, literal_rank, extended_rank, rank_of, by_rank, Progress, with_literal, with_fact, head_of, text_of}
use Rattle.format.specs.Question.{question_advanced}
use Rattle.format.specs.Places.{skip, text_at, fact_at, extended_at, constraint_at, texts, facts_at, extendeds_at, constraints_at, literals_from, Numbers, read_to}

-- ---- positions

pub skip_far : (b : List ℕ) (k at : ℕ) → at ≤ skip b k at
unfolding skip
skip_far b zero at = omega arith
skip_far b (suc k) at = omega (arith, skip_far b k (next b at))

pub skip_done : (b : List ℕ) (k at : ℕ) → k ≤ 0 → skip b k at ≡ at
unfolding skip
skip_done b zero at h = refl
skip_done b (suc k) at h = absurd (omega arith)

pub skip_one : (b : List ℕ) (k at : ℕ) → 0 < k → skip b k at ≡ skip b (k - 1) (next b at)
unfolding skip
skip_one b zero at h = absurd (omega arith)
skip_one b (suc k) at h = rw (down k)

pub skip_snoc : (b : List ℕ) (k at : ℕ) → skip b (suc k) at ≡ next b (skip b k at)
unfolding skip
skip_snoc b k at = place_after_suc (next b) at k

pub skip_add : (b : List ℕ) (j k at : ℕ) → skip b (j + k) at ≡ skip b k (skip b j at)
unfolding skip
skip_add b zero k at = ap (λ m. skip b m at) (let z : 0 + k ≡ k = omega arith in z)
skip_add b (suc j) k at = ap (λ m. skip b m at) (let z : suc j + k ≡ suc (j + k) = omega arith in z) ∙ skip_add b j k (next b at)

-- a record ends before those after it
pub skip_room : (b : List ℕ) (j k at : ℕ) → j < k → next b (skip b j at) ≤ skip b k at
unfolding skip
skip_room b j zero at h = absurd (omega arith)
skip_room b zero (suc k) at h = skip_far b k (next b at)
skip_room b (suc j) (suc k) at h = skip_room b j k (next b at) (omega arith)

pub skip_up : (b : List ℕ) (j k at : ℕ) → j ≤ k → skip b j at ≤ skip b k at
unfolding skip
skip_up b zero k at h = skip_far b k at
skip_up b (suc j) zero at h = absurd (omega arith)
skip_up b (suc j) (suc k) at h = skip_up b j k (next b at) (omega arith)

-- the next of k records ends within the bytes, as all do
pub skip_within : (b : List ℕ) (k at : ℕ) → 0 < k → skip b k at ≤ length b → next b at ≤ length b
skip_within b k at h g = omega (arith, skip_one b k at h, skip_far b (k - 1) (next b at))

-- ---- texts and constraints

pub length_texts : (b : List ℕ) (k at : ℕ) → length (texts b k at) ≡ k
unfolding texts
length_texts b k at = length_values_along (next b) (text_at b) at k

pub length_facts : (b : List ℕ) (k at : ℕ) → length (facts_at b k at) ≡ k
unfolding facts_at
length_facts b k at = length_values_along (next b) (fact_at b) at k

pub length_extended : (b : List ℕ) (k at : ℕ) → length (extendeds_at b k at) ≡ k
unfolding extendeds_at
length_extended b k at = length_values_along (next b) (extended_at b) at k

pub text_at_law : (b : List ℕ) (j k at : ℕ) → j < k → get_or (texts b k at) j [] ≡ text_at b (skip b j at)
unfolding texts skip
text_at_law b j k at h = get_d_values_along (next b) (text_at b) at k j [] h

pub constraint_at_law : (b : List ℕ) (j k at : ℕ) {c : Constraint} → get_elem? (constraints_at b k at) j ≡ some c → (j < k) × (constraint_at b (skip b j at) ≡ c)
unfolding constraints_at skip
constraint_at_law b j k at e = element_values_along (next b) (constraint_at b) at k j e

pub take_constraints : (b : List ℕ) (j k at : ℕ) → j ≤ k → take j (constraints_at b k at) ≡ constraints_at b j at
unfolding constraints_at
take_constraints b j k at h = take_values_along (next b) (constraint_at b) at j k h

pub length_constraints : (b : List ℕ) (k at : ℕ) → length (constraints_at b k at) ≡ k
unfolding constraints_at
length_constraints b k at = length_values_along (next b) (constraint_at b) at k

pub constraints_snoc : (b : List ℕ) (k at : ℕ) → constraints_at b (suc k) at ≡ constraints_at b k at ++ (constraint_at b (skip b k at) ∷ [])
unfolding constraints_at skip
constraints_snoc b k at = values_along_snoc (next b) (constraint_at b) at k

-- constraints of kinds 3 and 4, and extended ones after them, are those of all records
pub constraints_join : (b : List ℕ) (j k at : ℕ)
    → ((i : ℕ) → i < j → basic (fact_at b (skip b i at)) ≡ constraint_at b (skip b i at))
    → ((i : ℕ) → i < k → extended (extended_at b (skip b i (skip b j at))) ≡ constraint_at b (skip b i (skip b j at)))
    → map basic (facts_at b j at) ++ map extended (extendeds_at b k (skip b j at)) ≡ constraints_at b (j + k) at
unfolding facts_at extendeds_at constraints_at skip
constraints_join b j k at h g =
    ap₂ ◌++◌ (map_values_along (next b) (fact_at b) basic (constraint_at b) at j h)
    (map_values_along (next b) (extended_at b) extended (constraint_at b) (place_after (next b) at j) k g)
    ∙ values_along_add (next b) (constraint_at b) at j k

texts_snoc : (b : List ℕ) (k at : ℕ) → texts b (suc k) at ≡ texts b k at ++ (text_at b (skip b k at) ∷ [])
unfolding texts skip
texts_snoc b k at = values_along_snoc (next b) (text_at b) at k

facts_snoc : (b : List ℕ) (k at : ℕ) → facts_at b (suc k) at ≡ facts_at b k at ++ (fact_at b (skip b k at) ∷ [])
unfolding facts_at skip
facts_snoc b k at = values_along_snoc (next b) (fact_at b) at k

extended_snoc : (b : List ℕ) (k at : ℕ) → extendeds_at b (suc k) at ≡ extendeds_at b k at ++ (extended_at b (skip b k at) ∷ [])
unfolding extendeds_at skip
extended_snoc b k at = values_along_snoc (next b) (extended_at b) at k

-- ---- the head, a literal, a constraint and an extended one move the numbers only

-- the numbers after the record at a position
abbrev pub headed : List ℕ → ℕ → Numbers
headed b at = record { last = head_rank; n = u32 b (at + 6); p = u16 b (at + 6 + 4); q = u16 b (at + 6 + 6); literals = 0; constraints = 0; extended = 0 }

abbrev pub and_literal : Numbers → Numbers
and_literal s = record {
  last = literal_rank;
  n = s.n;
  p = s.p;
  q = s.q;
  literals = s.literals + 1;
  constraints = s.constraints;
  extended = s.extended;
}

abbrev pub and_constraint : Numbers → ℕ → Numbers
and_constraint s r = record {
  last = r;
  n = s.n;
  p = s.p;
  q = s.q;
  literals = s.literals;
  constraints = s.constraints + 1;
  extended = s.extended;
}

abbrev pub and_extended : Numbers → Numbers
and_extended s = record {
  last = extended_rank;
  n = s.n;
  p = s.p;
  q = s.q;
  literals = s.literals;
  constraints = s.constraints;
  extended = s.extended + 1;
}

-- what was read after the record at a position, by its rank
module _ (b : List ℕ) (s : Progress) (at : ℕ) where
  abbrev u : Question
  u = s.question

  abbrev pub behind : ℕ → Progress
  behind r = record {
    last = r;
    question = by_rank r (head_of b (at + 6)) (with_literal u (text_of b (at + 6) (size b at))) (with_fact u (fact_at b at)) u;
    extended = by_rank r [] s.extended s.extended (s.extended ++ (extended_at b at ∷ []));
  }

  pub by_rank_law : (r : ℕ) → rank_of (kind b at) ≡ r → behind r ≡ question_advanced b s at
  unfolding question_advanced
  by_rank_law r e = sym (ap behind e)

pub read_head : (b : List ℕ) (s : Progress) (at : ℕ) → rank_of (kind b at) ≡ head_rank → read_to b (headed b at) ≡ question_advanced b s at
unfolding texts facts_at extendeds_at
read_head b s at e = by_rank_law b s at head_rank e

module _ (b : List ℕ) (s : Numbers) (at : ℕ) where
  abbrev from : ℕ
  from = skip b s.literals literals_from

  -- what was read, with these literals and constraints
  abbrev keeping : ℕ → List (List ℕ) → List Fact → List Extended → Progress
  keeping r ts fs es = record { last = r; question = record { n = s.n; p = s.p; q = s.q; literals = ts; constraints = fs }; extended = es }

  -- no constraint stands yet
  pub read_literal : rank_of (kind b at) ≡ literal_rank → s.constraints ≡ 0 → s.extended ≡ 0 → at ≡ from
      → read_to b (and_literal s) ≡ question_advanced b (read_to b s) at
  unfolding facts_at extendeds_at
  read_literal e none none-extended g =
      let k : ℕ = s.literals in
      let no-facts : (i j : ℕ) → facts_at b s.constraints i ≡ facts_at b s.constraints j = λ i j. rw none in
      let no-extended : (i j : ℕ) → extendeds_at b s.extended i ≡ extendeds_at b s.extended j = λ i j. rw none-extended in
      let first : texts b (k + 1) literals_from ≡ texts b k literals_from ++ (text_at b at ∷ []) =
      ap (λ m. texts b m literals_from) (add-one k) ∙ (texts_snoc b k literals_from ∙ ap (λ z. texts b k literals_from ++ (text_at b z ∷ [])) (sym g)) in
      ap₂ (λ ts fs. keeping literal_rank ts fs (extendeds_at b s.extended (skip b s.constraints (skip b (k + 1) literals_from)))) first (no-facts _ _)
      ∙ ap (keeping literal_rank (texts b k literals_from ++ (text_at b at ∷ [])) (facts_at b s.constraints from)) (no-extended _ _)
      ∙ by_rank_law b (read_to b s) at literal_rank e

  -- nor an extended one
  pub read_constraint : eqb (rank_of (kind b at)) head_rank ≡ false
      → eqb (rank_of (kind b at)) literal_rank ≡ false
      → eqb (rank_of (kind b at)) extended_rank ≡ false
      → s.extended ≡ 0
      → at ≡ skip b s.constraints from
      → read_to b (and_constraint s (rank_of (kind b at))) ≡ question_advanced b (read_to b s) at
  unfolding extendeds_at
  read_constraint x y z none g =
      let r : ℕ = rank_of (kind b at) in
      let m : ℕ = s.constraints in
      let facts : List Fact = facts_at b m from ++ (fact_at b at ∷ []) in
      let no-extended : (i j : ℕ) → extendeds_at b s.extended i ≡ extendeds_at b s.extended j = λ i j. rw none in
      let last : facts_at b (m + 1) from ≡ facts =
      ap (λ j. facts_at b j from) (add-one m) ∙ (facts_snoc b m from ∙ ap (λ z. facts_at b m from ++ (fact_at b z ∷ [])) (sym g)) in
      let plain : behind b (read_to b s) at r ≡ keeping r (texts b s.literals literals_from) facts (read_to b s).extended = rw (x, y, z) in
      ap₂ (keeping r (texts b s.literals literals_from)) last (no-extended _ _) ∙ sym plain ∙ by_rank_law b (read_to b s) at r refl

  pub read_extended : rank_of (kind b at) ≡ extended_rank → at ≡ skip b s.extended (skip b s.constraints from)
      → read_to b (and_extended s) ≡ question_advanced b (read_to b s) at
  read_extended e g =
      let k : ℕ = s.extended in
      let start : ℕ = skip b s.constraints from in
      ap (λ es. record { last = extended_rank; question = (read_to b s).question; extended = es })
      (ap (λ j. extendeds_at b j start) (add-one k) ∙ (extended_snoc b k start ∙ ap (λ z. extendeds_at b k start ++ (extended_at b z ∷ [])) (sym g)))
      ∙ by_rank_law b (read_to b s) at extended_rank e
