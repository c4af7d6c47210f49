-- A question as bytes, both ways, in each manner of reading: what is read, and where, is what the bytes begin with, and 10 is a constraint more than 128.
use Prim.Native.Nat.{ℕ, zero, suc, ◌+◌, ◌<◌, ◌≤◌}
use native.Mathlib.Omega.{arith}
use mathlib.Core.Path.{◌≡◌, refl, sym, ◌∙◌, ap, subst}
use mathlib.Core.Logic.{◌⊎◌, inl, inr}
use mathlib.Core.Bool.{Bool, true, false, true≢false, not, ◌||◌}
use mathlib.Core.Option.{some}
use mathlib.Core.List.{List, [], ◌++◌}
use lib.ListN.{length, drop, length-append, length-drop}
use lib.Dec.{T, ltb, eqb}
use borrow.Author.Tests.{leb-true, le-leb, eqb-true, ltb-true, ltb-false}
use Rattle.lists.proofs.Tests.{true→, or→, →true}
use Rattle.calculus.specs.Limits.{ticket_bytes, fact_limit}
use Rattle.calculus.specs.Facts.{Question, Fact}
use Rattle.calculus.specs.Extended.{Extended, constraints_of}
use Rattle.format.specs.Records.{size, kind, next}
use Rattle.format.specs.Question.{head_rank, literal_rank, extended_rank, rank_of, is_constraint, Progress, unread, constraint_count, with_fact, Manner}
use Rattle.format.specs.Question.{judging_manner, form_manner, body_fact, form_fault, room_for, finds_room, or_crowded, question_fault, question_advanced, Reading, Stopped, Ended, ending}
use Rattle.format.specs.Question.{read_in, judged_question, question_form, question_in, judged_in, question_of}
use Rattle.format.specs.Written.{question_bytes, constraint_record, QuestionInRange}
use Rattle.format.specs.Demands.{Bytes, PutsQuestion, ThPut, ThAsked, Asks}
use Rattle.format.proofs.Faults.{clash}
use Rattle.format.proofs.RecordFaults.{uncrowded, rank_extended, not_extended}
use Rattle.format.proofs.Turns.{Comes, ends, stops, lacks, comes}
use Rattle.format.proofs.Entries.{entry}
use Rattle.format.proofs.Asked.{Ready, advanced_ready, entry_few, headed_in_law, headed_by, read_plain}
use Rattle.format.proofs.Standing.{question_short}
use Rattle.format.proofs.Refusals.{form_number}
use Rattle.format.proofs.BytesWritten.{leading_written}
use Rattle.format.proofs.QuestionsRead.{behind_question, question_read, form_in, extended_in}
use Rattle.format.proofs.QuestionsWritten.{Sort, a_head, a_literal, a_constraint, an_extended, WrittenTo, Begun, order_there, constraint_there, sort_there}
use Rattle.format.proofs.QuestionsWritten.{written_behind}
use Rattle.format.proofs.QuestionRecords.{reached, Known}
use Rattle.format.proofs.QuestionBytes.{constraint_more}
use Rattle.calculus.proofs.Extended.{length_constraints_of}

-- ---- what every record keeps

module _ (m : Manner) (b : List ℕ) (small : Bytes b) where
  record Kept (s : Progress) (r at : ℕ) : Type 0 where
    begun : Begun b small s r at
    ready : Ready s
    room : m.limited ≡ true → constraint_count s ≤ fact_limit

  kept : (s : Progress) (r at : ℕ) → Kept s r at → at + 6 ≤ length b → question_fault m b s at ≡ 0 → Kept (question_advanced b s at) (suc r) (next b at)
  kept s r at i six f =
      let (fine, found) = uncrowded m b s at f in
      record {
        begun = inr (written_behind b small m.greatest s r at fine i.begun);
        ready = advanced_ready m b s at f i.ready;
        room =
            λ e. entry_few b s i.ready at (question_advanced b s at) (entry m.greatest b s at fine)
            (subst (λ l. room_for l (rank_of (kind b at)) (constraint_count s) ≡ true) e found) (i.room e);
      }

  nothing_yet : Kept unread 0 0
  nothing_yet = record { begun = inl (refl, refl, refl); ready = inl refl; room = λ _. omega arith }

  all_kept : length b ≤ ticket_bytes → Comes (question_fault m) b Kept (read_in m b)
  all_kept l = comes (question_fault m) b Kept kept nothing_yet l

-- ---- a question that was read

-- the bytes begin with it, up to the position and the record where reading ended
pub record QuestionWritten (m : Manner) (b : List ℕ) (u : Question) (es : List Extended) (at r : ℕ) : Type 0 where
  pub begins : PutsQuestion b u es
  pub room : m.limited ≡ true → length u.constraints + length es ≤ fact_limit
  pub position : at ≡ length (question_bytes u es)
  pub number : r ≡ behind_question u es

delimiter : (k : ℕ) → ending k ≡ true → (k ≡ 5) ⊎ (k ≡ 8)
delimiter k e = go (or→ (eqb k 5) (eqb k 8) (true→ e))
  where
    go : T (eqb k 5) ⊎ T (eqb k 8) → (k ≡ 5) ⊎ (k ≡ 8)
    go (inl h) = inl (eqb-true k 5 (→true (eqb k 5) h))
    go (inr h) = inr (eqb-true k 8 (→true (eqb k 8) h))

module _ (m : Manner) (b : List ℕ) (small : Bytes b) where
  written_whole : (s : Progress) (at r : ℕ) → WrittenTo b s r at → length b ≤ ticket_bytes → (m.limited ≡ true → constraint_count s ≤ fact_limit)
      → at + 6 ≤ length b → ending (kind b at) ≡ true → QuestionWritten m b s.question s.extended at r
  written_whole s at r w few room six e = record {
    begins = record {
      is_in_range = w.is_in_range;
      named = w.named;
      rest = drop at b;
      bytes = w.bytes;
      delimited = record {
        size = size b at;
        of_kind = kind b at;
        more = drop (at + 6) b;
        claim_or_end = delimiter (kind b at) e;
        leading = leading_written b small at six;
      };
      few = few;
    };
    room = room;
    position =
        omega (arith, ap length w.bytes, length-append (question_bytes s.question s.extended) (drop at b), length-drop at b);
    number = w.number;
  }

  pub question_written : {s : Progress} {at r : ℕ} → read_in m b ≡ Ended s at r → head_rank ≤ s.last → QuestionWritten m b s.question s.extended at r
  question_written {s} {at} {r} e h =
      let few = question_short m b s at r e in go few (subst (Comes (question_fault m) b (Kept m b small)) e (all_kept m b small few))
    where
      go : length b ≤ ticket_bytes → Comes (question_fault m) b (Kept m b small) (Ended s at r) → QuestionWritten m b s.question s.extended at r
      go few (ends i six k) = by_begun i.begun i.room six k
        where
          by_begun : Begun b small s r at → (m.limited ≡ true → constraint_count s ≤ fact_limit) → at + 6 ≤ length b → ending (kind b at) ≡ true
              → QuestionWritten m b s.question s.extended at r
          by_begun (inl (fresh, none, start)) room six k = absurd (omega (arith, ap (λ (t : Progress). t.last) fresh))
          by_begun (inr w) room six k = written_whole s at r w few room six k

  -- ---- 10

  -- where kind 11 is not taken, what stands after 128 constraints is one more, in range
  pub record Crowded (r : ℕ) : Type 0 where
    pub looked_for : m.limited ≡ true
    pub question : Question
    pub constraint : Fact
    pub rest : List ℕ
    pub bytes : b ≡ question_bytes question [] ++ (constraint_record constraint ++ rest)
    pub few : length b ≤ ticket_bytes
    pub is_in_range : QuestionInRange (with_fact question constraint)
    pub full : length question.constraints ≡ fact_limit
    pub number : r ≡ 1 + length question.literals + fact_limit

  -- the form has no fault, and there is no room
  ten : (s : Progress) (at : ℕ) → question_fault m b s at ≡ 10 → (form_fault m.greatest b s at ≡ 0) × (finds_room m s (kind b at) ≡ false)
  unfolding question_fault
  ten s at e = go (form_fault m.greatest b s at) (finds_room m s (kind b at)) e (form_number (λ c. c ≤ 7) (λ c l h. h) b m.greatest s at)
    where
      go : (f : ℕ) (room : Bool) → or_crowded f room ≡ 10 → (1 ≤ f → f ≤ 7) → (f ≡ 0) × (room ≡ false)
      go zero true e h = absurd (omega arith)
      go zero false e h = (refl, refl)
      go (suc f) true e h = absurd (omega (arith, h (omega arith)))
      go (suc f) false e h = absurd (omega (arith, h (omega arith)))

  no_room : (limited : Bool) (r count : ℕ) → room_for limited r count ≡ false → (limited ≡ true) × (literal_rank < r) × (fact_limit ≤ count)
  no_room false r count e = absurd (true≢false e)
  no_room true r count e = go (is_constraint r) (ltb count fact_limit) refl refl e
    where
      go : (x y : Bool) → is_constraint r ≡ x → ltb count fact_limit ≡ y → (not x || y) ≡ false → (true ≡ true) × (literal_rank < r) × (fact_limit ≤ count)
      go false y ex ey z = absurd (true≢false z)
      go true true ex ey z = absurd (true≢false z)
      go true false ex ey z = (refl, ltb-true literal_rank r ex, ltb-false count fact_limit ey)

  module _ (plain : m.greatest < extended_rank) (few : length b ≤ ticket_bytes) where
    -- a constraint without fault of its form, after as many as there may be
    constraint_crowds : (s : Progress) (r at rank : ℕ) → WrittenTo b s r at → form_fault m.greatest b s at ≡ 0 → Known b (kind b at) rank
        → m.limited ≡ true → constraint_count s ≤ fact_limit → fact_limit ≤ constraint_count s → Crowded r
    constraint_crowds s r at rank w fine k limited most full =
        let u : Question = s.question in
        let f : Fact = body_fact b (kind b at) (at + 6) (size b at) in
        let none : s.extended ≡ [] = w.facts_first (omega (arith, order_there b small m.greatest s r at fine rank k, k.at_most)) in
        let after = constraint_there b small m.greatest s r at fine w rank k in
        let no_more : length s.extended ≡ 0 = ap length none in
        record {
          looked_for = limited;
          question = u;
          constraint = f;
          rest = drop (next b at) b;
          bytes = after.bytes ∙ ap (λ es. question_bytes (with_fact u f) es ++ drop (next b at) b) none ∙ constraint_more u f (drop (next b at) b);
          few = few;
          is_in_range = after.is_in_range;
          full = omega arith;
          number = omega (arith, w.number);
        }

    crowds : (s : Progress) (r at : ℕ) → Kept m b small s r at → question_fault m b s at ≡ 10 → Crowded r
    unfolding rank_of
    crowds s r at i e =
        let (fine, none) = ten s at e in
        let (limited, rank, full) = no_room m.limited (rank_of (kind b at)) (constraint_count s) none in
        go i.begun (sort_there b small m.greatest s r at fine) fine limited rank (i.room limited) full
      where
        go : Begun b small s r at → Sort b (kind b at) → form_fault m.greatest b s at ≡ 0 → m.limited ≡ true → literal_rank < rank_of (kind b at)
            → constraint_count s ≤ fact_limit → fact_limit ≤ constraint_count s → Crowded r
        go (inl (fresh, none, start)) sort fine limited rank most full = absurd (omega (arith, ap constraint_count fresh))
        go (inr w) (a_head k) fine limited rank most full = absurd (omega (arith, ap rank_of k))
        go (inr w) (a_literal k) fine limited rank most full = absurd (omega (arith, ap rank_of k))
        go (inr w) (a_constraint rank k) fine limited above most full = constraint_crowds s r at rank w fine k limited most full
        go (inr w) (an_extended k) fine limited rank most full =
            absurd (not_extended m.greatest b s at plain fine (ap rank_of k ∙ rank_extended))

    pub crowded_written : (r : ℕ) → read_in m b ≡ Stopped 10 r → Crowded r
    crowded_written r e = go (all_kept m b small few) e
      where
        go : {g : Reading} → Comes (question_fault m) b (Kept m b small) g → g ≡ Stopped 10 r → Crowded r
        go (ends i six k) e = clash cc
        go (stops {s = s} {r = q} {at = at} {c = c} i six k f) e =
            let number : suc c ≡ 10 = cc in
            let here : q ≡ r = cc in
            subst Crowded here (crowds s q at i (f ∙ number))
        go (lacks i short) e = absurd (let z : ◌≡◌ {A = ℕ} 3 10 = cc in omega arith)

-- ---- the theorems

pub questions_put : ThPut
questions_put b small u = (from_bytes, to_bytes)
  where
    from_bytes : question_of b ≡ some u → PutsQuestion b u []
    from_bytes e =
        let h = headed_by (λ s. s.question) (question_form b) e in
        let w = question_written form_manner b small h.ends (leb-true head_rank h.progress.last h.has_head) in
        subst (λ u. PutsQuestion b u []) h.gives
        (subst (PutsQuestion b h.progress.question) (read_plain form_manner (omega arith) b h.ends) w.begins)

    to_bytes : PutsQuestion b u [] → question_of b ≡ some u
    to_bytes h =
        let r = question_read form_manner b u [] h (form_in u) in
        ap question_in r.ends
        ∙ headed_in_law (λ s. s.question) (reached r.last u []) (length (question_bytes u [])) (behind_question u []) (le-leb head_rank r.last r.has_head)

pub questions_asked : ThAsked
questions_asked b small u es = (from_bytes, to_bytes)
  where
    from_bytes : Asks b u es → PutsQuestion b u es × (length (constraints_of u es) ≤ fact_limit)
    from_bytes e =
        let h = headed_by (λ s. (s.question, s.extended)) (judged_question b) e in
        let w = question_written judging_manner b small h.ends (leb-true head_rank h.progress.last h.has_head) in
        subst (λ (t : Question × List Extended). PutsQuestion b t.0 t.1 × (length (constraints_of t.0 t.1) ≤ fact_limit)) h.gives
        (w.begins, omega (arith, w.room refl, length_constraints_of h.progress.question h.progress.extended))

    to_bytes : PutsQuestion b u es × (length (constraints_of u es) ≤ fact_limit) → Asks b u es
    to_bytes (h, few) =
        let r = question_read judging_manner b u es h (extended_in judging_manner u es (omega arith) (λ _. omega (arith, length_constraints_of u es))) in
        ap judged_in r.ends
        ∙ headed_in_law (λ s. (s.question, s.extended)) (reached r.last u es) (length (question_bytes u es)) (behind_question u es)
        (le-leb head_rank r.last r.has_head)

-- bytes begin with one question only
pub begins_one : (b : List ℕ) (u v : Question) (es ds : List Extended) → PutsQuestion b u es → PutsQuestion b v ds → (u ≡ v) × (es ≡ ds)
begins_one b u v es ds h k =
    let m : Manner = record { limited = false; greatest = extended_rank } in
    let none : m.limited ≡ true → ⊥ = λ e. true≢false (sym e) in
    let r = question_read m b u es h (extended_in m u es (omega arith) (λ e. absurd (none e))) in
    let q = question_read m b v ds k (extended_in m v ds (omega arith) (λ e. absurd (none e))) in
    let one : reached r.last u es ≡ reached q.last v ds = ended_one (sym r.ends ∙ q.ends) in
    (ap (λ (s : Progress). s.question) one, ap (λ (s : Progress). s.extended) one)
  where
    ended_one : {s t : Progress} {i j k l : ℕ} → Ended s i k ≡ Ended t j l → s ≡ t
    ended_one e = cc
