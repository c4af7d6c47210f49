-- A record of a question that has no fault of its form: a head, a literal or a constraint, each of which leaves the question in range.
use Prim.Native.Nat.{ℕ, zero, suc, ◌+◌, ◌-◌, ◌/◌, ◌<◌, ◌≤◌}
use native.Mathlib.Omega.{arith}
use mathlib.Core.Path.{◌≡◌, refl, sym, ap, subst}
use mathlib.Core.Logic.{◌≢◌, inl, inr}
use mathlib.Core.Bool.{Bool, true, false, not, cond}
use mathlib.Core.List.{List, [], ◌∷◌, ◌++◌}
use lib.ListN.{length, length-append}
use lib.Dec.{T_not, eqb}
use borrow.Author.Tests.{leb-true, eqb-true, eqb-false}
use Rattle.lists.specs.Lists.{All, Distinct}
use Rattle.lists.proofs.Tests.{true→, and_both}
use Rattle.lists.proofs.Lists.{all_map, all_append, In, distinct_snoc}
use Rattle.calculus.specs.Limits.{alphabet_limit, literal_limit}
use Rattle.calculus.specs.Alphabet.{Over, all_characters}
use Rattle.calculus.specs.Facts.{Question, Fact, same, not_same, is_literal, arithmetic, column_count}
use Rattle.calculus.specs.Extended.{Extended}
use Rattle.calculus.specs.Strings.{given}
use Rattle.calculus.specs.InRange.{HeadInRange, FactInRange, FactsInRange}
use Rattle.calculus.proofs.Words.{over→, →given}
use Rattle.format.specs.Fields.{u16, u32s}
use Rattle.format.specs.Records.{size, kind, need}
use Rattle.format.specs.Question.{head_rank, literal_rank, extended_rank, rank_of, Progress, constraint_count}
use Rattle.format.specs.Question.{with_literal, with_fact, head_fault, head_of, text_of, extended_fault, extended_of}
use Rattle.format.specs.Question.{literal_length, literal_fault, string_fact, fact_fault, body_fact, rank_in_place, form_fault, question_advanced}
use Rattle.format.proofs.Faults.{none_applies}
use Rattle.format.proofs.Fields.{length_u32s, length_form}
use Rattle.format.proofs.RecordFaults.{passed, head_first, behind_head, head_formed, StringConstraint}
use Rattle.format.proofs.RecordFaults.{FactBody, on_strings, on_columns, fact_formed}

not_empty : (b : List ℕ) (at k : ℕ) → 1 ≤ k → [] ≢ u32s b at k
not_empty b at k h e = omega (arith, ap length e, length_u32s b at k)

-- ---- the question

-- what the numbers 4 to 7 leave of a question
pub record ReadInRange (u : Question) : Type 0 where
  pub head : HeadInRange u
  pub characters : u.n ≤ alphabet_limit
  pub constraints : FactsInRange u u.constraints
  pub literals_differ : Distinct ([] ∷ u.literals)
  pub literals_over : All (Over u.n) u.literals

head_in_range : (b : List ℕ) (at m : ℕ) → head_fault b at m ≡ 0 → ReadInRange (head_of b at)
head_in_range b at m e =
    let h = head_formed b at m e in
    record {
      head = record {
        alphabet = h.some_character;
        strings = h.few_strings;
        integers = h.few_integers;
        literals = omega arith;
      };
      characters = h.few_characters;
      constraints = tt;
      literals_differ = (tt, tt);
      literals_over = tt;
    }

-- a fact in range before a further literal is in range after it
still_in_range : (u : Question) (s : List ℕ) (f : Fact) → FactInRange u f → FactInRange (with_literal u s) f
still_in_range u s (same x y) h = h
still_in_range u s (not_same x y) h = h
still_in_range u s (is_literal x l) h = (h.0, omega (arith, length-append u.literals (s ∷ []), h.1))
still_in_range u s (arithmetic r e) h = h

literal_in_range : (b : List ℕ) (u : Question) (at m : ℕ)
    → ReadInRange u
    → length u.literals < literal_limit
    → literal_fault b u.n u.literals at m ≡ 0
    → ReadInRange (with_literal u (text_of b at m))
literal_in_range b u at m d few e =
    let s : List ℕ = text_of b at m in
    let a5 =
    none_applies 4 (literal_length m) (need 6 (all_characters u.n s) (need 7 (not (given s u.literals)) 0)) e in
    let a6 = none_applies 5 (all_characters u.n s) (need 7 (not (given s u.literals)) 0) a5.1 in
    let a7 = none_applies 6 (not (given s u.literals)) 0 a6.1 in
    let four : 4 ≤ m = leb-true _ _ (and_both _ _ a5.0).0 in
    let one : 1 ≤ m / 4 = omega arith in
    record {
      head = record {
        alphabet = d.head.alphabet;
        strings = d.head.strings;
        integers = d.head.integers;
        literals = omega (arith, length-append u.literals (text_of b at m ∷ []));
      };
      characters = d.characters;
      constraints = all_map u.constraints (still_in_range u (text_of b at m)) d.constraints;
      literals_differ = distinct_snoc s ([] ∷ u.literals) d.literals_differ (new one a7.0);
      literals_over = all_append (Over u.n) u.literals (text_of b at m ∷ []) d.literals_over (over→ u.n (text_of b at m) (true→ a6.0), tt);
    }
  where
    new : 1 ≤ m / 4 → not (given (text_of b at m) u.literals) ≡ true → In (text_of b at m) ([] ∷ u.literals) → ⊥
    new one t (inl e) = not_empty b at (m / 4) one (sym e)
    new one t (inr i) = T_not (given (text_of b at m) u.literals) (true→ t) (→given (text_of b at m) u.literals i)

-- a constraint more changes no range
same_range : (u : Question) (g f : Fact) → FactInRange u f → FactInRange (with_fact u g) f
same_range u g (same x y) h = h
same_range u g (not_same x y) h = h
same_range u g (is_literal x l) h = h
same_range u g (arithmetic r e) h = h

fact_in_range : (u : Question) (f : Fact) → ReadInRange u → FactInRange u f → ReadInRange (with_fact u f)
fact_in_range u f d h = record {
  head = record {
    alphabet = d.head.alphabet;
    strings = d.head.strings;
    integers = d.head.integers;
    literals = d.head.literals;
  };
  characters = d.characters;
  constraints =
      all_append (FactInRange (with_fact u f)) u.constraints (f ∷ []) (all_map u.constraints (same_range u f) d.constraints) (same_range u f f h, tt);
  literals_differ = d.literals_differ;
  literals_over = d.literals_over;
}

string_in_range : (u : Question) (m r x y : ℕ) → StringConstraint u.p (length u.literals) m r x y → FactInRange u (string_fact r x y)
string_in_range u m zero x y c = (c.first, c.second (λ e. omega arith))
string_in_range u m (suc zero) x y c = (c.first, c.second (λ e. omega arith))
string_in_range u m (suc (suc zero)) x y c = (c.first, c.literal refl)
string_in_range u m (suc (suc (suc r))) x y c = absurd (omega (arith, c.relation))

-- a constraint's body without fault
constraint_in_range : (b : List ℕ) (u : Question) (k at m : ℕ)
    → FactBody b u.p (length u.literals) (column_count u) k at m
    → FactInRange u (body_fact b k at m)
constraint_in_range b u k at m (on_strings e c i) = subst (FactInRange u) (sym i) (string_in_range u m (u16 b at) (u16 b (at + 2)) (u16 b (at + 4)) c)
constraint_in_range b u k at m (on_columns e c i) = subst (FactInRange u) (sym i) (length_form b (at + 2) (m / 6 - 1))

-- ---- one record

-- how many records after the head
abbrev pub record_count : Progress → ℕ
record_count s = length s.question.literals + constraint_count s

-- a record that t is read after, where s was read before it
pub data Entry (b : List ℕ) (s : Progress) (at : ℕ) (t : Progress) : Type 0 where
  head : rank_of (kind b at) ≡ head_rank
      → s.last ≡ 0
      → constraint_count t ≡ 0
      → record_count t ≡ 0
      → t.extended ≡ []
      → ReadInRange t.question
      → Entry b s at t
  literal : rank_of (kind b at) ≡ literal_rank
      → head_rank ≤ s.last
      → constraint_count t ≡ constraint_count s
      → record_count t ≡ suc (record_count s)
      → t.extended ≡ s.extended
      → (ReadInRange s.question → ReadInRange t.question)
      → Entry b s at t
  constraint : literal_rank < rank_of (kind b at)
      → rank_of (kind b at) ≢ extended_rank
      → head_rank ≤ s.last
      → constraint_count t ≡ suc (constraint_count s)
      → record_count t ≡ suc (record_count s)
      → t.extended ≡ s.extended
      → (ReadInRange s.question → ReadInRange t.question)
      → Entry b s at t
  extended : rank_of (kind b at) ≡ extended_rank
      → head_rank ≤ s.last
      → constraint_count t ≡ suc (constraint_count s)
      → record_count t ≡ suc (record_count s)
      → t.question ≡ s.question
      → Entry b s at t

module _ (greatest : ℕ) (b : List ℕ) (s : Progress) (at : ℕ) where
  abbrev u : Question
  u = s.question

  abbrev es : List Extended
  es = s.extended

  abbrev r : ℕ
  r = rank_of (kind b at)

  abbrev m : ℕ
  m = size b at

  abbrev fact : Fact
  fact = body_fact b (kind b at) (at + 6) m

  -- by the tests of the record's rank
  by_rank_law : (x y z : Bool) → eqb r head_rank ≡ x → eqb r literal_rank ≡ y → eqb r extended_rank ≡ z
      → rank_in_place greatest s.last (length u.literals) r ≡ true
      → cond x (head_fault b (at + 6) m)
      (cond y (literal_fault b u.n u.literals (at + 6) m)
      (cond z (extended_fault b u.p u.q (at + 6) m) (fact_fault b u.p (length u.literals) (column_count u) (kind b at) (at + 6) m)))
      ≡ 0
      → Entry b s at (record {
        last = r;
        question = cond x (head_of b (at + 6)) (cond y (with_literal u (text_of b (at + 6) m)) (cond z u (with_fact u fact)));
        extended = cond x [] (cond y es (cond z (es ++ (extended_of b (at + 6) ∷ [])) es));
      })
  by_rank_law true y z ex ey ez t e =
      head (eqb-true _ _ ex) (head_first greatest s.last (length u.literals) r t (eqb-true _ _ ex)) refl refl refl (head_in_range b (at + 6) m e)
  by_rank_law false true z ex ey ez t e =
      let w = behind_head greatest s.last (length u.literals) r t (eqb-false _ _ ex) in
      literal (eqb-true _ _ ey) w.head_read refl (omega (arith, length-append u.literals (text_of b (at + 6) m ∷ []))) refl
      (λ d. literal_in_range b u (at + 6) m d (w.few_literals (eqb-true _ _ ey)) e)
  by_rank_law false false true ex ey ez t e =
      let w = behind_head greatest s.last (length u.literals) r t (eqb-false _ _ ex) in
      let one = length-append es (extended_of b (at + 6) ∷ []) in
      extended (eqb-true _ _ ez) w.head_read (omega (arith, one)) (omega (arith, one)) refl
  by_rank_law false false false ex ey ez t e =
      let w = behind_head greatest s.last (length u.literals) r t (eqb-false _ _ ex) in
      let one = length-append u.constraints (fact ∷ []) in
      constraint (omega (arith, w.at_least, eqb-false r literal_rank ey)) (eqb-false _ _ ez) w.head_read
      (omega (arith, one)) (omega (arith, one)) refl
      (λ d. fact_in_range u fact d (constraint_in_range b u (kind b at) (at + 6) m (fact_formed b _ _ _ _ _ _ e)))

  pub entry : form_fault greatest b s at ≡ 0 → Entry b s at (question_advanced b s at)
  unfolding question_advanced
  entry e = let w = passed greatest b s at e in by_rank_law (eqb r head_rank) (eqb r literal_rank) (eqb r extended_rank) refl refl refl w.in_place_law w.body_formed
