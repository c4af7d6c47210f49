-- ThL3: a question without kind 11 is read alike by checking and by judging, and one with it is refused by checking and by what a ticket will need.
use Prim.Native.Nat.{ℕ, zero, suc, ◌+◌, ◌≤◌}
use native.Mathlib.Omega.{arith}
use native.Mathlib.Decide.{ℕ_discrete, dec_le}
use mathlib.Core.Path.{◌≡◌, refl, sym, ◌∙◌, ap, ap₂, subst}
use mathlib.Core.Logic.{◌≢◌, ◌⊎◌, inl, inr}
use mathlib.Core.Bool.{Bool, true, false, not, cond, ◌&&◌, ◌||◌}
use mathlib.Core.Option.{some}
use mathlib.Core.List.{List, [], ◌∷◌}
use lib.ListN.{length, get_elem?}
use lib.Dec.{leb, ltb, eqb}
use borrow.Author.Tests.{leb-true, le-leb, lt-leb, ne_eqb}
use Rattle.lists.proofs.Options.{none_some, some_injective}
use Rattle.calculus.specs.Rules.{children}
use Rattle.calculus.specs.Limits.{literal_limit, ticket_bytes}
use Rattle.calculus.specs.Facts.{Question}
use Rattle.calculus.specs.Extended.{Extended}
use Rattle.format.specs.Records.{size, kind, next, whole, records, need}
use Rattle.format.specs.Question.{extended_kind, head_rank, literal_rank, arithmetic_rank, extended_rank, rank_of, Progress, unread}
use Rattle.format.specs.Question.{Manner, checking_manner, judging_manner, rank_in_place, question_body_fault, form_fault}
use Rattle.format.specs.Question.{finds_room, or_crowded, question_fault, question_advanced, Reading, Stopped, Ended, ending, read_from, read_by, read_in}
use Rattle.format.specs.Question.{question, judged_question, question_form, question_in, judged_in, question_of}
use Rattle.format.specs.Checking.{outcome_of, checker}
use Rattle.format.proofs.Sizes.{sized}
use Rattle.format.specs.Reading.{read_behind}
use Rattle.format.specs.Needs.{need_by, report_of, needed}
use Rattle.format.specs.ProperForm.{by_shape}
use Rattle.format.specs.Demands.{WholeExtended, ThL3, ThL3Refused}
use Rattle.format.proofs.Faults.{clash}
use Rattle.format.proofs.RecordFaults as place
use Rattle.format.proofs.RecordFaults.{cut_short, uncrowded, →uncrowded, passed, rank_most, rank_extended, not_extended, extended_kind_law}
use Rattle.format.proofs.Turns.{read_begin}
use Rattle.format.proofs.Entries.{record_count, Entry, head, literal, constraint, extended, entry}
use Rattle.format.proofs.Asked as asked
use Rattle.format.proofs.Asked.{Ready, before_head, advanced_ready, Reads, ended, further, whole→, →whole, headed_in_law, headed_by, read_plain}
use Rattle.format.proofs.Asked.{question→form}

abbrev taking : Bool → ℕ → Manner
taking limited greatest = record { limited = limited; greatest = greatest }

-- ---- one record

no_place : (last literals r : ℕ) → r ≡ extended_rank → rank_in_place arithmetic_rank last literals r ≡ false
no_place last literals r k =
    rw (ne_eqb r head_rank (λ z. omega arith), lt-leb r arithmetic_rank (omega arith)) (out (leb head_rank last) (leb literal_rank r) (leb last r))
  where
    out : (x y z : Bool) → (x && (y && (z && false))) ≡ false
    out true true true = refl
    out true true false = refl
    out true false z = refl
    out false y z = refl

-- the greatest rank that is taken matters to kinds beyond it alone
alike : (b : List ℕ) (s : Progress) (at g h : ℕ) → leb (rank_of (kind b at)) g ≡ leb (rank_of (kind b at)) h → form_fault g b s at ≡ form_fault h b s at
unfolding form_fault
alike b s at g h e =
    let k : ℕ = kind b at in
    let r : ℕ = rank_of k in
    let few : Bool = not (eqb r literal_rank) || ltb (length s.question.literals) literal_limit in
    ap (λ t. need 3 (whole b at) (need 4
    (cond (eqb r head_rank) (eqb s.last 0) (leb head_rank s.last && (leb literal_rank r && (leb s.last r && (t && few)))))
    (question_body_fault b s.question k (at + 6) (size b at)))) e

module _ (b : List ℕ) (s : Progress) (at : ℕ) where
  abbrev rank : ℕ
  rank = rank_of (kind b at)

  -- a record of another kind has the same fault with kind 11 taken and without
  other_kind : rank ≢ extended_rank → form_fault arithmetic_rank b s at ≡ form_fault extended_rank b s at
  other_kind x =
      alike b s at arithmetic_rank extended_rank
      (le-leb rank arithmetic_rank (omega (arith, rank_most (kind b at), x)) ∙ sym (le-leb rank extended_rank (omega (arith, rank_most (kind b at)))))

  -- a whole one of kind 11 is 4 where it is not taken, whatever its body
  kind_four : (limited : Bool) → rank ≡ extended_rank → next b at ≤ length b → question_fault (taking limited arithmetic_rank) b s at ≡ 4
  kind_four limited k w =
      sym (place.out_of_place (taking limited arithmetic_rank) b s at (kind b at) (size b at) refl refl w
      (no_place s.last (length s.question.literals) rank k))

-- ---- all records

-- what is read without kind 11 is read with it
reads_wider : {b : List ℕ} {s t : Progress} {r to q : ℕ} {ats : List ℕ}
    → Reads (taking true arithmetic_rank) b s r ats t to q
    → Reads (taking true extended_rank) b s r ats t to q
reads_wider (ended k) = ended k
reads_wider {b} (further {s = s} {at = at} k c g) =
    let (f, room) = uncrowded (taking true arithmetic_rank) b s at c in
    let other = not_extended arithmetic_rank b s at (omega arith) f in
    further k (→uncrowded (taking true extended_rank) b s at (sym (other_kind b s at other) ∙ f) room) (reads_wider g)

-- after a record, the extended constraints before it are none where none stand after it, and the record is none itself
plain_before : {b : List ℕ} {s t : Progress} {at : ℕ} → Ready s → Entry b s at t → t.extended ≡ [] → (s.extended ≡ []) × (rank_of (kind b at) ≢ extended_rank)
plain_before {s = s} h (head k l n c x q) e = (ap (λ (s : Progress). s.extended) (before_head s h l), λ z. omega arith)
plain_before h (literal k l n c x q) e = (sym x ∙ e, λ z. omega arith)
plain_before h (constraint k o l n c x q) e = (sym x ∙ e, o)
plain_before h (extended k l n c q) e = absurd (omega (arith, n, ap length e, ap (λ (u : Question). length u.constraints) q))

-- what is read with kind 11 and has no extended constraint is read without
reads_narrower : {b : List ℕ} {s t : Progress} {r to q : ℕ} {ats : List ℕ}
    → Reads (taking true extended_rank) b s r ats t to q
    → Ready s
    → t.extended ≡ []
    → (s.extended ≡ []) × Reads (taking true arithmetic_rank) b s r ats t to q
reads_narrower (ended k) h e = (e, ended k)
reads_narrower {b} (further {s = s} {at = at} k c g) h e =
    let (f, room) = uncrowded (taking true extended_rank) b s at c in
    let (plain, later) = reads_narrower g (advanced_ready (taking true extended_rank) b s at c h) e in
    let (before, other) = plain_before h (entry extended_rank b s at f) plain in
    (before, further k (→uncrowded (taking true arithmetic_rank) b s at (other_kind b s at other ∙ f) room) later)

-- ---- the first record of kind 11

-- so many records were read
pub record Counted (s : Progress) (r : ℕ) : Type 0 where
  pub nothing_yet : s.last ≡ 0 → r ≡ 0
  pub behind_head : head_rank ≤ s.last → r ≡ suc (record_count s)

counted_more : (b : List ℕ) (s : Progress) (at r : ℕ) → Counted s r → form_fault extended_rank b s at ≡ 0 → Counted (question_advanced b s at) (suc r)
unfolding question_advanced
counted_more b s at r i f = go (entry extended_rank b s at f)
  where
    go : Entry b s at (question_advanced b s at) → Counted (question_advanced b s at) (suc r)
    go (head k l n c x q) = record { nothing_yet = λ z. absurd (omega arith); behind_head = λ _. omega (arith, i.nothing_yet l, c) }
    go (literal k l n c x q) = record { nothing_yet = λ z. absurd (omega arith); behind_head = λ _. omega (arith, i.behind_head l, c) }
    go (constraint k o l n c x q) = record { nothing_yet = λ z. absurd (omega arith); behind_head = λ _. omega (arith, i.behind_head l, c) }
    go (extended k l n c q) = record { nothing_yet = λ z. absurd (omega arith); behind_head = λ _. omega (arith, i.behind_head l, c) }

reads_counted : {b : List ℕ} {s t : Progress} {r to q : ℕ} {ats : List ℕ} → Reads judging_manner b s r ats t to q → Counted s r → Counted t q
reads_counted (ended k) c = c
reads_counted {b} (further {s = s} {r = r} {at = at} k f g) c = reads_counted g (counted_more b s at r c (uncrowded judging_manner b s at f).0)

-- nothing was read yet
counted_none : Counted unread 0
counted_none = record { nothing_yet = λ _. refl; behind_head = λ h. absurd (omega arith) }

pub judged_counted : (b : List ℕ) {s : Progress} {at r : ℕ} → judged_question b ≡ Ended s at r → Counted s r
judged_counted b e = reads_counted (whole→ judging_manner b e).1 counted_none

-- after kind 11 only kind 11 follows
reads_behind : {b : List ℕ} {s t : Progress} {r to q : ℕ} {ats : List ℕ} → Reads judging_manner b s r ats t to q → s.last ≡ extended_rank → t.question ≡ s.question
unfolding question_advanced
reads_behind (ended k) e = refl
reads_behind {b} {t = t} (further {s = s} {at = at} k c g) e = go (entry extended_rank b s at f) (reads_behind g)
  where
    f : form_fault extended_rank b s at ≡ 0
    f = (uncrowded judging_manner b s at c).0

    order : rank_of (kind b at) ≢ head_rank → extended_rank ≤ rank_of (kind b at)
    order x =
        subst (λ l. l ≤ rank_of (kind b at)) e
        (place.behind_head extended_rank s.last (length s.question.literals) (rank_of (kind b at)) (passed extended_rank b s at f).in_place_law x).no_earlier

    go : Entry b s at (question_advanced b s at)
        → ((question_advanced b s at).last ≡ extended_rank → t.question ≡ (question_advanced b s at).question)
        → t.question ≡ s.question
    go (head k l n c x q) later = absurd (omega arith)
    go (literal k l n c x q) later = absurd (omega (arith, order (λ z. omega arith)))
    go (constraint k o l n c x q) later = absurd (omega (arith, o, rank_most (kind b at), order (λ z. omega arith)))
    go (extended k l n c q) later = later k ∙ q

module _ (limited : Bool) (b : List ℕ) where
  abbrev m : Manner
  m = taking limited arithmetic_rank

  -- another record has no fault
  other_record : (s : Progress) (at : ℕ) → question_fault judging_manner b s at ≡ 0 → rank_of (kind b at) ≢ extended_rank → question_fault m b s at ≡ 0
  other_record s at c o =
      let (f, found) = uncrowded judging_manner b s at c in
      →uncrowded m b s at (other_kind b s at o ∙ f) (room limited found)
    where
      room : (l : Bool) → finds_room judging_manner s (kind b at) ≡ true → finds_room (taking l arithmetic_rank) s (kind b at) ≡ true
      room true e = e
      room false e = refl

  -- the first of kind 11 is refused, after the other records of the question
  first_refused : {s t : Progress} {r to q : ℕ} {ats : List ℕ} {e : Extended} {es : List Extended}
      → Reads judging_manner b s r ats t to q
      → Counted s r
      → s.extended ≡ []
      → t.extended ≡ (e ∷ es)
      → read_from (question_fault m) b s r ats ≡ Stopped 4 (1 + length t.question.literals + length t.question.constraints)
  unfolding read_from question_advanced
  first_refused (ended k) n x y = clash cc
  first_refused {t = t} {e = e} {es = es} (further {s = s} {r = r} {at = at} {ats = ats} k c g) n x y =
      go (entry extended_rank b s at f) (first_refused g (counted_more b s at r n f))
    where
      f : form_fault extended_rank b s at ≡ 0
      f = (uncrowded judging_manner b s at c).0

      Result : Type 0
      Result = read_from (question_fault m) b s r (at ∷ ats) ≡ Stopped 4 (1 + length t.question.literals + length t.question.constraints)

      Later : Type 0
      Later =
          read_from (question_fault m) b (question_advanced b s at) (suc r) ats ≡ Stopped 4 (1 + length t.question.literals + length t.question.constraints)

      on : rank_of (kind b at) ≢ extended_rank → Later → Result
      on o later = ap₂ (asked.turn m b s r at ats) k (other_record s at c o) ∙ later

      go : Entry b s at (question_advanced b s at) → ((question_advanced b s at).extended ≡ [] → t.extended ≡ (e ∷ es) → Later) → Result
      go (head z l i j w q) later = on (λ u. omega arith) (later w y)
      go (literal z l i j w q) later = on (λ u. omega arith) (later (w ∙ x) y)
      go (constraint z o l i j w q) later = on o (later (w ∙ x) y)
      go (extended z l i j q) later =
          let same : t.question ≡ s.question = reads_behind g z ∙ q in
          let here : r ≡ 1 + length t.question.literals + length t.question.constraints =
          omega (
            arith,
            n.behind_head l,
            ap length x,
            ap (λ (u : Question). length u.literals) same,
            ap (λ (u : Question). length u.constraints) same,
          ) in
          ap₂ (asked.turn m b s r at ats) k (kind_four b s at limited z (passed extended_rank b s at f).all_there) ∙ ap (Stopped 4) here

-- ---- the whole question

question→judged : (b : List ℕ) {s : Progress} {at r : ℕ} → question b ≡ Ended s at r → judged_question b ≡ Ended s at r
question→judged b e = let (l, h) = whole→ checking_manner b e in →whole judging_manner b l (reads_wider h)

judged→question : (b : List ℕ) {s : Progress} {at r : ℕ} → judged_question b ≡ Ended s at r → s.extended ≡ [] → question b ≡ Ended s at r
judged→question b e x = let (l, h) = whole→ judging_manner b e in →whole checking_manner b l (reads_narrower h (inl refl) x).1

-- what checking reads, judging reads without extended constraints
pub plain_judged : (b : List ℕ) {u : Question} → question_in (question b) ≡ some u → judged_in (judged_question b) ≡ some (u, [])
plain_judged b e =
    let h = headed_by (λ s. s.question) (question b) e in
    ap judged_in (question→judged b h.ends)
    ∙ headed_in_law (λ s. (s.question, s.extended)) h.progress h.position h.number h.has_head
    ∙ ap₂ (λ u es. some (u, es)) h.gives (read_plain checking_manner (omega arith) b h.ends)

pub judged_put : (b : List ℕ) {u : Question} → judged_in (judged_question b) ≡ some (u, []) → question_of b ≡ some u
judged_put b e =
    let h = headed_by (λ s. (s.question, s.extended)) (judged_question b) e in
    ap question_in (question→form b (judged→question b h.ends (ap (λ x. x.1) h.gives)))
    ∙ headed_in_law (λ s. s.question) h.progress h.position h.number h.has_head
    ∙ ap some (ap (λ x. x.0) h.gives)

-- ---- refusals

-- the positions left are those of the records from r on
abbrev Left : List ℕ → ℕ → List ℕ → Type 0
Left b r ats = (k : ℕ) → get_elem? (records b 0) (r + k) ≡ get_elem? ats k

left_more : (b : List ℕ) (r at : ℕ) (ats : List ℕ) → Left b r (at ∷ ats) → Left b (suc r) ats
left_more b r at ats l k = ap (get_elem? (records b 0)) (let z : suc r + k ≡ r + suc k = omega arith in z) ∙ l (suc k)

left_first : (b : List ℕ) (r : ℕ) (ats : List ℕ) → Left b r ats → get_elem? (records b 0) r ≡ get_elem? ats 0
left_first b r ats l = ap (get_elem? (records b 0)) (let z : r ≡ r + 0 = omega arith in z) ∙ l 0

-- whole or cut, a record of kind 11 is refused alike, or it is whole
module _ (b : List ℕ) where
  abbrev checks : List ℕ → Progress → ℕ → ℕ
  checks = question_fault checking_manner

  abbrev judges : List ℕ → Progress → ℕ → ℕ
  judges = question_fault judging_manner

  same_fault : (s : Progress) (at : ℕ) → Dec (rank_of (kind b at) ≡ extended_rank)
      → (checks b s at ≡ judges b s at) ⊎ ((kind b at ≡ extended_kind) × (next b at ≤ length b))
  unfolding question_fault
  same_fault s at (no o) = inl (ap (λ f. or_crowded f (finds_room checking_manner s (kind b at))) (other_kind b s at o))
  same_fault s at (yes k) = go (dec_le (next b at) (length b))
    where
      go : Dec (next b at ≤ length b) → (checks b s at ≡ judges b s at) ⊎ ((kind b at ≡ extended_kind) × (next b at ≤ length b))
      go (yes w) = inr (extended_kind_law (kind b at) k, w)
      go (no w) = inl (cut_short checking_manner b s at (omega arith) ∙ sym (cut_short judging_manner b s at (omega arith)))

  refused_alike : (s : Progress) (r : ℕ) (ats : List ℕ) → Left b r ats → (c q : ℕ) → read_from checks b s r ats ≡ Stopped c q
      → (read_from judges b s r ats ≡ Stopped c q) ⊎ ((c ≡ 4) × WholeExtended b q)
  unfolding read_from
  refused_alike s r [] l c q e = inl e
  refused_alike s r (at ∷ ats) l c q e =
      go (ending (kind b at)) (checks b s at) refl (same_fault s at (ℕ_discrete (rank_of (kind b at)) extended_rank)) e
      (refused_alike (question_advanced b s at) (suc r) ats (left_more b r at ats l) c q)
    where
      go : (x : Bool) (f : ℕ) → checks b s at ≡ f
          → (checks b s at ≡ judges b s at) ⊎ ((kind b at ≡ extended_kind) × (next b at ≤ length b))
          → asked.turn checking_manner b s r at ats x f ≡ Stopped c q
          → (read_from checks b (question_advanced b s at) (suc r) ats ≡ Stopped c q
          → (read_from judges b (question_advanced b s at) (suc r) ats ≡ Stopped c q) ⊎ ((c ≡ 4) × WholeExtended b q))
          → (asked.turn judging_manner b s r at ats x (judges b s at) ≡ Stopped c q) ⊎ ((c ≡ 4) × WholeExtended b q)
      go true f ef d e later = clash cc
      go false zero ef (inl d) e later = either_more (later e)
        where
          either_more : (read_from judges b (question_advanced b s at) (suc r) ats ≡ Stopped c q) ⊎ ((c ≡ 4) × WholeExtended b q)
              → (asked.turn judging_manner b s r at ats false (judges b s at) ≡ Stopped c q) ⊎ ((c ≡ 4) × WholeExtended b q)
          either_more (inl h) = inl (ap (asked.turn judging_manner b s r at ats false) (sym d ∙ ef) ∙ h)
          either_more (inr h) = inr h
      go false (suc f) ef (inl d) e later = inl (ap (asked.turn judging_manner b s r at ats false) (sym d ∙ ef) ∙ e)
      go false zero ef (inr (k, w)) e later = absurd (omega (arith, ef, kind_four b s at true (ap rank_of k ∙ rank_extended) w))
      go false (suc f) ef (inr (k, w)) e later =
          let here : r ≡ q = cc in
          let number : suc f ≡ c = cc in
          inr (
            sym number ∙ sym ef ∙ kind_four b s at true (ap rank_of k ∙ rank_extended) w,
            (at, subst (λ z. get_elem? (records b 0) z ≡ some at) here (left_first b r (at ∷ ats) l), k, w),
          )

  -- and a whole one is 4, with 10 looked for and without
  module _ (limited : Bool) where
    abbrev manner : Manner
    manner = taking limited arithmetic_rank

    refused_four : (s : Progress) (r : ℕ) (ats : List ℕ) → Left b r ats → (c q : ℕ) → read_from (question_fault manner) b s r ats ≡ Stopped c q
        → WholeExtended b q → c ≡ 4
    unfolding read_from
    refused_four s r [] l c q e (i, there, k, w) =
        let here : r ≡ q = cc in
        absurd (none_some (sym (left_first b r [] l) ∙ ap (get_elem? (records b 0)) here ∙ there))
    refused_four s r (at ∷ ats) l c q e h =
        go (ending (kind b at)) (question_fault manner b s at) refl e
        (λ g. refused_four (question_advanced b s at) (suc r) ats (left_more b r at ats l) c q g h)
      where
        go : (x : Bool) (f : ℕ) → question_fault manner b s at ≡ f → asked.turn manner b s r at ats x f ≡ Stopped c q
            → (read_from (question_fault manner) b (question_advanced b s at) (suc r) ats ≡ Stopped c q → c ≡ 4)
            → c ≡ 4
        go true f ef e later = clash cc
        go false zero ef e later = later e
        go false (suc f) ef e later =
            let (i, there, k, w) = h in
            let here : r ≡ q = cc in
            let number : suc f ≡ c = cc in
            let same : at ≡ i = some_injective (sym (left_first b r (at ∷ ats) l) ∙ ap (get_elem? (records b 0)) here ∙ there) in
            sym number ∙ sym ef
            ∙ kind_four b s at limited (ap (λ j. rank_of (kind b j)) same ∙ ap rank_of k ∙ rank_extended) (subst (λ j. next b j ≤ length b) (sym same) w)

-- ---- the theorems

left_all : (b : List ℕ) → Left b 0 (records b 0)
left_all b k = ap (get_elem? (records b 0)) (let z : 0 + k ≡ k = omega arith in z)

module _ (b : List ℕ) where
  -- by whether the bytes are not too long
  abbrev by_size : Manner → Bool → Reading
  by_size m x = asked.by_size m b x

  alike_refused : (c r : ℕ) → question b ≡ Stopped c r → (judged_question b ≡ Stopped c r) ⊎ ((c ≡ 4) × WholeExtended b r)
  unfolding read_by
  alike_refused c r e = go (leb (length b) ticket_bytes) e
    where
      go : (x : Bool) → by_size checking_manner x ≡ Stopped c r → (by_size judging_manner x ≡ Stopped c r) ⊎ ((c ≡ 4) × WholeExtended b r)
      go false e = inl e
      go true e = refused_alike b unread 0 (records b 0) (left_all b) c r e

  four_refused : (limited : Bool) (c r : ℕ) → read_in (taking limited arithmetic_rank) b ≡ Stopped c r → length b ≤ ticket_bytes → WholeExtended b r → c ≡ 4
  four_refused limited c r e l h =
      refused_four b limited unread 0 (records b 0) (left_all b) c r (sym (read_begin (question_fault (taking limited arithmetic_rank)) b l) ∙ e) h

pub reads_alike : ThL3
reads_alike b = record {
  taken = λ s at r. ((λ e. (question→judged b e, read_plain checking_manner (omega arith) b e)), (λ h. judged→question b h.0 h.1));
  refused = alike_refused b;
  four = four;
}
  where
    four : (c r : ℕ) → (question b ≡ Stopped c r) ⊎ (question_form b ≡ Stopped c r) → length b ≤ ticket_bytes → WholeExtended b r → c ≡ 4
    four c r (inl e) = four_refused b true c r e
    four c r (inr e) = four_refused b false c r e

pub extended_refused : ThL3Refused
unfolding needed
extended_refused work answer t u e es large asks = (
  sized children work answer t large ∙ ap (λ g. outcome_of (read_behind checker t g)) (stops true),
  ap (λ g. need_by (report_of t) (read_behind by_shape t g)) (stops false),
)
  where
    stops : (limited : Bool) → read_in (taking limited arithmetic_rank) t ≡ Stopped 4 (1 + length u.literals + length u.constraints)
    stops limited =
        let h = headed_by (λ s. (s.question, s.extended)) (judged_question t) asks in
        let (l, reads) = whole→ judging_manner t h.ends in
        read_begin (question_fault (taking limited arithmetic_rank)) t (leb-true (length t) ticket_bytes l)
        ∙ first_refused limited t reads counted_none refl (ap (λ x. x.1) h.gives)
        ∙ ap (λ (v : Question). Stopped 4 (1 + length v.literals + length v.constraints)) (ap (λ x. x.0) h.gives)
