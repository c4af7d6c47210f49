-- What is read as a question, from bytes below 256, is written as these bytes and in range: a record at a time, then all of them.
use Prim.Native.Nat.{ℕ, suc, ◌+◌, ◌<◌, ◌≤◌}
use native.Mathlib.Omega.{arith}
use mathlib.Core.Path.{◌≡◌, refl, sym, ◌∙◌, ap, ap₂, subst}
use mathlib.Core.Logic.{◌⊎◌, inl, inr}
use mathlib.Core.Bool.{Bool, true, false}
use mathlib.Core.List.{List, [], ◌∷◌, ◌++◌, append-nil, flat_map}
use lib.ListN.{length, drop, length-append}
use lib.Dec.{eqb}
use borrow.Author.Tests.{eqb-true}
use Rattle.lists.specs.Lists.{All}
use Rattle.lists.proofs.Lists.{all_map, all_append, distinct_snoc}
use Rattle.calculus.specs.Limits.{literal_limit}
use Rattle.calculus.specs.Facts.{Question, Fact, same, not_same, is_literal, arithmetic}
use Rattle.calculus.specs.Extended.{Extended, Names}
use Rattle.format.specs.Fields.{u16, u32}
use Rattle.format.specs.Records.{size, kind, next}
use Rattle.format.specs.Answer.{record_bytes, character_bytes}
use Rattle.format.specs.Question.{head_kind, literal_kind, string_kind, arithmetic_kind, extended_kind, head_rank, literal_rank, string_rank, arithmetic_rank}
use Rattle.format.specs.Question.{extended_rank, rank_of, Progress, unread, with_literal, with_fact, head_fault, head_of, text_of, literal_fault, body_fact}
use Rattle.format.specs.Question.{extended_fault, extended_of, rank_in_place, question_body_fault, form_fault, question_after, extended_after, question_advanced}
use Rattle.format.specs.Written.{question_bytes, literal_record, constraint_record, extended_record, LiteralInRange, ConstraintInRange}
use Rattle.format.specs.Written.{IsArithmetic, InOrderOfKind, QuestionInRange}
use Rattle.format.specs.Demands.{Bytes}
use Rattle.format.proofs.RecordFaults as records
use Rattle.format.proofs.RecordFaults.{Passed, Behind, behind_head, head_first}
use Rattle.format.proofs.BytesWritten.{body_written}
use Rattle.format.proofs.Bodies.{head_body, length_head, head_written, literal_written, Counts}
use Rattle.format.proofs.ConstraintBodies.{fact_kind, fact_body, constraint_bytes, fault_of, fact_written, extended_body, extended_bytes, extended_written}
use Rattle.format.proofs.QuestionRecords.{asking, reached, fact_rank, Known, known, known_string, known_arithmetic}
use Rattle.format.proofs.QuestionBytes.{literal_more, constraint_more, extended_more}
use Rattle.format.proofs.QuestionLists.{range_any}
use Rattle.format.proofs.QuestionsRead.{behind_question}

-- ---- what sort of record stands where one is in its place

pub data Sort (b : List ℕ) (k : ℕ) : Type 0 where
  a_head : k ≡ head_kind → Sort b k
  a_literal : k ≡ literal_kind → Sort b k
  a_constraint : (r : ℕ) → Known b k r → Sort b k
  an_extended : k ≡ extended_kind → Sort b k

rank_none : (k : ℕ) → eqb k head_kind ≡ false → eqb k literal_kind ≡ false → eqb k string_kind ≡ false → eqb k arithmetic_kind ≡ false → eqb k extended_kind ≡ false
    → rank_of k ≡ 0
unfolding rank_of
rank_none k e1 e2 e3 e4 e5 = rw (e1, e2, e3, e4, e5)

sort_of : (b : List ℕ) (greatest last literals k : ℕ) → rank_in_place greatest last literals (rank_of k) ≡ true → Sort b k
sort_of b greatest last literals k place =
    go (eqb k head_kind) (eqb k literal_kind) (eqb k string_kind) (eqb k arithmetic_kind) (eqb k extended_kind) refl refl refl refl refl
  where
    go : (v w x y z : Bool)
        → eqb k head_kind ≡ v → eqb k literal_kind ≡ w → eqb k string_kind ≡ x → eqb k arithmetic_kind ≡ y → eqb k extended_kind ≡ z → Sort b k
    go true w x y z e1 e2 e3 e4 e5 = a_head (eqb-true k head_kind e1)
    go false true x y z e1 e2 e3 e4 e5 = a_literal (eqb-true k literal_kind e2)
    go false false true y z e1 e2 e3 e4 e5 = a_constraint string_rank (subst (λ k. Known b k string_rank) (sym (eqb-true k string_kind e3)) (known_string b))
    go false false false true z e1 e2 e3 e4 e5 =
        a_constraint arithmetic_rank (subst (λ k. Known b k arithmetic_rank) (sym (eqb-true k arithmetic_kind e4)) (known_arithmetic b))
    go false false false false true e1 e2 e3 e4 e5 = an_extended (eqb-true k extended_kind e5)
    go false false false false false e1 e2 e3 e4 e5 =
        let none = rank_none k e1 e2 e3 e4 e5 in
        absurd (omega (arith, none, (behind_head greatest last literals (rank_of k) place (λ z. omega arith)).at_least))

-- what is read after a record of kind k
advanced_is : (b : List ℕ) (s : Progress) (at k : ℕ) → kind b at ≡ k
    → question_advanced b s at ≡ reached (rank_of k) (question_after b s.question k (at + 6) (size b at)) (extended_after b s.extended k (at + 6))
unfolding question_advanced
advanced_is b s at k e =
    ap (λ k. reached (rank_of k) (question_after b s.question k (at + 6) (size b at)) (extended_after b s.extended k (at + 6))) e

-- ---- what holds after a record

-- up to a position the bytes are those of what was read, which is in range; r is the number of the next record
pub record WrittenTo (b : List ℕ) (s : Progress) (r at : ℕ) : Type 0 where
  pub has_head : head_rank ≤ s.last
  pub is_in_range : QuestionInRange s.question
  pub named : All (Names s.question) s.extended
  pub bytes : b ≡ question_bytes s.question s.extended ++ drop at b
  pub number : r ≡ behind_question s.question s.extended
  -- "They stand in order of kind"
  pub literals_first : s.last ≤ literal_rank → s.question.constraints ≡ []
  pub strings_first : s.last ≤ string_rank → All (λ f. IsArithmetic f → ⊥) s.question.constraints
  pub facts_first : s.last ≤ arithmetic_rank → s.extended ≡ []

counts_of : (u : Question) → QuestionInRange u → Counts u
counts_of u r = record { strings = r.few_strings; integers = r.few_integers; literals = r.few_literals }

-- a whole record whose body is known
stands_by : (b : List ℕ) → Bytes b → (at k : ℕ) (body : List ℕ) → next b at ≤ length b → kind b at ≡ k → length body ≡ size b at
    → drop (at + 6) b ≡ body ++ drop (next b at) b
    → drop at b ≡ record_bytes k body ++ drop (next b at) b
stands_by b bytes at k body l is_kind is_size e = body_written b bytes at k body (drop (next b at) b) (omega arith) is_kind (sym is_size) e

-- ---- the order of constraints with one more

order_arithmetic : (fs : List Fact) (g : Fact) → InOrderOfKind fs → IsArithmetic g → InOrderOfKind (fs ++ (g ∷ []))
unfolding InOrderOfKind
order_arithmetic [] g h k = ((λ _. tt), tt)
order_arithmetic (f ∷ fs) g h k = ((λ a. all_append IsArithmetic fs (g ∷ []) (h.0 a) (k, tt)), order_arithmetic fs g h.1 k)

order_strings : (fs : List Fact) (g : Fact) → All (λ f. IsArithmetic f → ⊥) fs → InOrderOfKind (fs ++ (g ∷ []))
unfolding InOrderOfKind
order_strings [] g h = ((λ _. tt), tt)
order_strings (f ∷ fs) g h = ((λ a. absurd (h.0 a)), order_strings fs g h.1)

order_more : (fs : List Fact) (g : Fact) → InOrderOfKind fs → (fact_rank g ≤ string_rank → All (λ f. IsArithmetic f → ⊥) fs) → InOrderOfKind (fs ++ (g ∷ []))
order_more fs (same x y) h k = order_strings fs (same x y) (k (omega arith))
order_more fs (not_same x y) h k = order_strings fs (not_same x y) (k (omega arith))
order_more fs (is_literal x l) h k = order_strings fs (is_literal x l) (k (omega arith))
order_more fs (arithmetic r e) h k = order_arithmetic fs (arithmetic r e) h tt

on_strings : (g : Fact) → fact_rank g ≤ string_rank → IsArithmetic g → ⊥
on_strings (same x y) h a = a
on_strings (not_same x y) h a = a
on_strings (is_literal x l) h a = a
on_strings (arithmetic r e) h a = omega arith

-- ---- each sort of record

module _ (b : List ℕ) (small : Bytes b) where
  head_behind : kind b 0 ≡ head_kind → next b 0 ≤ length b → head_fault b 6 (size b 0) ≡ 0 → WrittenTo b (reached head_rank (head_of b 6) []) 1 (next b 0)
  unfolding question_bytes InOrderOfKind flat_map
  head_behind k l f =
      let h = records.head_formed b 6 (size b 0) f in
      let n : ℕ = u32 b 6 in
      let body : List ℕ = head_body n (u16 b 10) (u16 b 12) in
      let stands : drop 0 b ≡ record_bytes 1 body ++ drop (next b 0) b =
      stands_by b small 0 1 body l k (length_head n (u16 b 10) (u16 b 12) ∙ sym h.eight)
      (head_written b small 6 (omega (arith, h.eight)) ∙ ap (λ m. body ++ drop m b) (let z : 6 + 8 ≡ next b 0 = omega (arith, h.eight) in z)) in
      record {
        has_head = omega arith;
        is_in_range = record {
          some_character = h.some_character;
          few_characters = h.few_characters;
          few_strings = h.few_strings;
          few_integers = h.few_integers;
          few_literals = omega arith;
          literals = tt;
          different_literals = tt;
          constraints = tt;
          in_order = tt;
        };
        named = tt;
        bytes = stands ∙ ap (λ xs. xs ++ drop (next b 0) b) (sym (append-nil (record_bytes 1 body)));
        number = refl;
        literals_first = λ _. refl;
        strings_first = λ _. tt;
        facts_first = λ _. refl;
      }

  -- a literal, where there are no constraints yet
  literal_behind : (n p q : ℕ) (ls : List (List ℕ)) (last r at : ℕ) → WrittenTo b (reached last (asking n p q ls []) []) r at
      → length ls < literal_limit → kind b at ≡ literal_kind → next b at ≤ length b → literal_fault b n ls (at + 6) (size b at) ≡ 0
      → WrittenTo b (reached literal_rank (asking n p q (ls ++ (text_of b (at + 6) (size b at) ∷ [])) []) []) (suc r) (next b at)
  unfolding InOrderOfKind
  literal_behind n p q ls last r at w few k l f =
      let s : List ℕ = text_of b (at + 6) (size b at) in
      let t = literal_written b small n ls (at + 6) (size b at) (omega arith) f in
      let i = w.is_in_range in
      let stands : drop at b ≡ literal_record s ++ drop (next b at) b = stands_by b small at 2 (character_bytes s) l k t.bytes t.stands in
      record {
        has_head = omega arith;
        is_in_range = record {
          some_character = i.some_character;
          few_characters = i.few_characters;
          few_strings = i.few_strings;
          few_integers = i.few_integers;
          few_literals = omega (arith, length-append ls (s ∷ []));
          literals = all_append (LiteralInRange n) ls (s ∷ []) i.literals (t.is_in_range, tt);
          different_literals = distinct_snoc s ls i.different_literals t.new;
          constraints = tt;
          in_order = tt;
        };
        named = tt;
        bytes = w.bytes ∙ ap (λ xs. question_bytes (asking n p q ls []) [] ++ xs) stands ∙ sym (literal_more n p q ls s (drop (next b at) b));
        number = omega (arith, w.number, length-append ls (s ∷ []));
        literals_first = λ _. refl;
        strings_first = λ _. tt;
        facts_first = λ _. refl;
      }

  -- a constraint, where there is no extended one yet
  constraint_behind : (u : Question) (last r at k rank : ℕ) → WrittenTo b (reached last u []) r at
      → Known b k rank → last ≤ rank → kind b at ≡ k → next b at ≤ length b → fault_of b u k (at + 6) (size b at) ≡ 0
      → WrittenTo b (reached rank (with_fact u (body_fact b k (at + 6) (size b at))) []) (suc r) (next b at)
  constraint_behind u last r at k rank w known-kind l is whole f =
      let g : Fact = body_fact b k (at + 6) (size b at) in
      let t = fact_written b small u k (at + 6) (size b at) (counts_of u w.is_in_range) (omega arith) f in
      let i = w.is_in_range in
      let same_rank : fact_rank g ≡ rank = sym (known b g).rank ∙ ap rank_of t.of_kind ∙ known-kind.rank in
      let stands : drop at b ≡ constraint_record g ++ drop (next b at) b =
      stands_by b small at (fact_kind g) (fact_body g) whole (is ∙ sym t.of_kind) t.bytes t.stands
      ∙ ap (λ xs. xs ++ drop (next b at) b) (sym (constraint_bytes g)) in
      let any : (h : Fact) → ConstraintInRange u h → ConstraintInRange (with_fact u g) h =
      range_any u.n u.p u.q u.literals u.constraints (u.constraints ++ (g ∷ [])) in
      let before : fact_rank g ≤ string_rank → All (λ f. IsArithmetic f → ⊥) u.constraints = λ h. w.strings_first (omega arith) in
      record {
        has_head = omega (arith, known-kind.constraint);
        is_in_range = record {
          some_character = i.some_character;
          few_characters = i.few_characters;
          few_strings = i.few_strings;
          few_integers = i.few_integers;
          few_literals = i.few_literals;
          literals = i.literals;
          different_literals = i.different_literals;
          constraints =
              all_append (ConstraintInRange (with_fact u g)) u.constraints (g ∷ []) (all_map u.constraints any i.constraints) (any g t.is_in_range, tt);
          in_order = order_more u.constraints g i.in_order before;
        };
        named = tt;
        bytes = w.bytes ∙ ap (λ xs. question_bytes u [] ++ xs) stands ∙ sym (constraint_more u g (drop (next b at) b));
        number = omega (arith, w.number, length-append u.constraints (g ∷ []));
        literals_first = λ h. absurd (omega (arith, known-kind.constraint));
        strings_first =
            λ h. all_append (λ f. IsArithmetic f → ⊥) u.constraints (g ∷ []) (before (omega arith)) (on_strings g (omega arith), tt);
        facts_first = λ _. refl;
      }

  -- an extended constraint
  extended_behind : (u : Question) (es : List Extended) (last r at : ℕ) → WrittenTo b (reached last u es) r at
      → kind b at ≡ extended_kind → next b at ≤ length b → extended_fault b u.p u.q (at + 6) (size b at) ≡ 0
      → WrittenTo b (reached extended_rank u (es ++ (extended_of b (at + 6) ∷ []))) (suc r) (next b at)
  extended_behind u es last r at w k l f =
      let e : Extended = extended_of b (at + 6) in
      let t = extended_written b small u (at + 6) (size b at) (omega arith) f in
      let stands : drop at b ≡ extended_record e ++ drop (next b at) b =
      stands_by b small at extended_kind (extended_body e) l k t.bytes t.stands ∙ ap (λ xs. xs ++ drop (next b at) b) (sym (extended_bytes e)) in
      record {
        has_head = omega arith;
        is_in_range = w.is_in_range;
        named = all_append (Names u) es (e ∷ []) w.named (t.named, tt);
        bytes = w.bytes ∙ ap (λ xs. question_bytes u es ++ xs) stands ∙ sym (extended_more u es e (drop (next b at) b));
        number = omega (arith, w.number, length-append es (e ∷ []));
        literals_first = λ h. absurd (omega arith);
        strings_first = λ h. absurd (omega arith);
        facts_first = λ h. absurd (omega arith);
      }

  -- ---- any record

  -- nothing was read yet, or what was read is written up to here
  abbrev pub Begun : Progress → ℕ → ℕ → Type 0
  Begun s r at = ((s ≡ unread) × (r ≡ 0) × (at ≡ 0)) ⊎ WrittenTo b s r at

  -- a literal and a constraint, whatever stands in the lists that are empty
  literal_next : (s : Progress) (r at : ℕ) → WrittenTo b s r at → s.last ≤ literal_rank → length s.question.literals < literal_limit → kind b at ≡ literal_kind
      → next b at ≤ length b → literal_fault b s.question.n s.question.literals (at + 6) (size b at) ≡ 0
      → WrittenTo b (reached literal_rank (with_literal s.question (text_of b (at + 6) (size b at))) s.extended) (suc r) (next b at)
  literal_next s r at w l few k all f =
      let u : Question = s.question in
      let t : List (List ℕ) = u.literals ++ (text_of b (at + 6) (size b at) ∷ []) in
      let no_constraint = w.literals_first l in
      let no-extended = w.facts_first (omega arith) in
      let before : WrittenTo b (reached s.last (asking u.n u.p u.q u.literals []) []) r at =
      subst (λ es. WrittenTo b (reached s.last (asking u.n u.p u.q u.literals []) es) r at) no-extended
      (subst (λ cs. WrittenTo b (reached s.last (asking u.n u.p u.q u.literals cs) s.extended) r at) no_constraint w) in
      subst (λ cs. WrittenTo b (reached literal_rank (asking u.n u.p u.q t cs) s.extended) (suc r) (next b at)) (sym no_constraint)
      (subst (λ es. WrittenTo b (reached literal_rank (asking u.n u.p u.q t []) es) (suc r) (next b at)) (sym no-extended)
      (literal_behind u.n u.p u.q u.literals s.last r at before few k all f))

  constraint_next : (s : Progress) (r at k rank : ℕ) → WrittenTo b s r at → Known b k rank → s.last ≤ rank → kind b at ≡ k → next b at ≤ length b
      → fault_of b s.question k (at + 6) (size b at) ≡ 0
      → WrittenTo b (reached rank (with_fact s.question (body_fact b k (at + 6) (size b at))) s.extended) (suc r) (next b at)
  constraint_next s r at k rank w known-kind l is all f =
      let g : Question = with_fact s.question (body_fact b k (at + 6) (size b at)) in
      let no-extended = w.facts_first (omega (arith, known-kind.at_most)) in
      subst (λ es. WrittenTo b (reached rank g es) (suc r) (next b at)) (sym no-extended)
      (constraint_behind s.question s.last r at k rank (subst (λ es. WrittenTo b (reached s.last s.question es) r at) no-extended w)
      known-kind l is all f)

  -- a record without fault of its form after what was read
  module _ (greatest : ℕ) (s : Progress) (r at : ℕ) (f : form_fault greatest b s at ≡ 0) where
    abbrev Next : Type 0
    Next = WrittenTo b (question_advanced b s at) (suc r) (next b at)

    abbrev literals : ℕ
    literals = length s.question.literals

    place : Passed greatest b s at
    place = records.passed greatest b s at f

    -- by its kind
    body : (k : ℕ) → kind b at ≡ k → question_body_fault b s.question k (at + 6) (size b at) ≡ 0
    body k e = subst (λ k. question_body_fault b s.question k (at + 6) (size b at) ≡ 0) e place.body_formed

    after : (k : ℕ) → kind b at ≡ k
        → WrittenTo b (reached (rank_of k) (question_after b s.question k (at + 6) (size b at)) (extended_after b s.extended k (at + 6))) (suc r) (next b at)
        → Next
    after k e w = subst (λ t. WrittenTo b t (suc r) (next b at)) (sym (advanced_is b s at k e)) w

    -- by its rank
    first_there : (k : ℕ) → kind b at ≡ k → rank_of k ≡ head_rank → s.last ≡ 0
    first_there k e h = head_first greatest s.last literals (rank_of (kind b at)) place.in_place_law (ap rank_of e ∙ h)

    behind_there : (k rank : ℕ) → kind b at ≡ k → rank_of k ≡ rank → head_rank < rank → Behind greatest s.last literals rank
    behind_there k rank e h l =
        let same_rank : rank_of (kind b at) ≡ rank = ap rank_of e ∙ h in
        subst (Behind greatest s.last literals) same_rank
        (behind_head greatest s.last literals (rank_of (kind b at)) place.in_place_law (λ z. omega arith))

    pub order_there : (rank : ℕ) → Known b (kind b at) rank → s.last ≤ rank
    order_there rank k = (behind_there (kind b at) rank refl k.rank (omega (arith, k.constraint))).no_earlier

    pub constraint_there : WrittenTo b s r at → (rank : ℕ) → Known b (kind b at) rank
        → WrittenTo b (reached rank (with_fact s.question (body_fact b (kind b at) (at + 6) (size b at))) s.extended) (suc r) (next b at)
    constraint_there w rank k =
        constraint_next s r at (kind b at) rank w k (order_there rank k) refl place.all_there
        (sym (k.body s.question (at + 6) (size b at)) ∙ body (kind b at) refl)

    pub sort_there : Sort b (kind b at)
    sort_there = sort_of b greatest s.last literals (kind b at) place.in_place_law

    begun_next : s.last ≡ 0 → r ≡ 0 → at ≡ 0 → Sort b (kind b at) → Next
    unfolding rank_of
    begun_next fresh none start (a_head e) =
        after head_kind e (subst (λ r. WrittenTo b (reached head_rank (head_of b (at + 6)) []) (suc r) (next b at)) (sym none)
        (subst (λ at. WrittenTo b (reached head_rank (head_of b (at + 6)) []) 1 (next b at)) (sym start)
        (head_behind (subst (λ at. kind b at ≡ head_kind) start e) (subst (λ at. next b at ≤ length b) start place.all_there)
        (subst (λ at. head_fault b (at + 6) (size b at) ≡ 0) start (body head_kind e)))))
    begun_next fresh none start (a_literal e) = absurd (omega (arith, fresh, (behind_there literal_kind literal_rank e refl (omega arith)).head_read))
    begun_next fresh none start (a_constraint rank k) =
        absurd (omega (arith, fresh, (behind_there (kind b at) rank refl k.rank (omega (arith, k.constraint))).head_read))
    begun_next fresh none start (an_extended e) = absurd (omega (arith, fresh, (behind_there extended_kind extended_rank e refl (omega arith)).head_read))

    behind_next : WrittenTo b s r at → Sort b (kind b at) → Next
    unfolding rank_of
    behind_next w (a_head e) = absurd (omega (arith, w.has_head, first_there head_kind e refl))
    behind_next w (a_literal e) =
        let p = behind_there literal_kind literal_rank e refl (omega arith) in
        after literal_kind e (literal_next s r at w p.no_earlier (p.few_literals refl) e place.all_there (body literal_kind e))
    behind_next w (a_constraint rank k) =
        after (kind b at) refl (
        subst (λ t. WrittenTo b t (suc r) (next b at))
        (sym (ap₂ (λ r (t : Question × List Extended). reached r t.0 t.1) k.rank
        (ap₂ (λ (u : Question) (es : List Extended). (u, es)) (k.after s.question (at + 6) (size b at)) (k.extended s.extended (at + 6)))))
        (constraint_there w rank k)
        )
    behind_next w (an_extended e) =
        after extended_kind e (extended_behind s.question s.extended s.last r at w e place.all_there (body extended_kind e))

    pub written_behind : Begun s r at → Next
    written_behind (inl (fresh, none, start)) =
        begun_next (ap (λ (t : Progress). t.last) fresh) none start sort_there
    written_behind (inr w) = behind_next w sort_there
