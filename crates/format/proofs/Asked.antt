-- What holds of a question that was read, and that checking reads the question that the bytes put.
use Prim.Native.Nat.{ℕ, zero, suc, ◌<◌, ◌≤◌}
use native.Mathlib.Omega.{arith}
use mathlib.Core.Path.{◌≡◌, refl, sym, ◌∙◌, ap, ap₂, subst}
use mathlib.Core.Logic.{◌⊎◌, inl, inr}
use mathlib.Core.Bool.{Bool, true, false, not, cond, ◌||◌}
use mathlib.Core.Option.{Option, none, some}
use mathlib.Core.List.{List, [], ◌∷◌}
use lib.ListN.{length}
use lib.Dec.{ltb, leb}
use borrow.Author.Tests.{ltb-true, lt-ltb, le-ltb}
use Rattle.lists.proofs.Options.{none_some, some_injective}
use Rattle.calculus.specs.Limits.{ticket_bytes, fact_limit}
use Rattle.format.specs.Records.{kind, records}
use Rattle.format.specs.Question.{head_rank, literal_rank, extended_rank, rank_of, is_constraint, Progress, unread, constraint_count, Manner, form_fault}
use Rattle.format.specs.Question.{checking_manner, form_manner, room_for, question_fault, question_advanced, Reading}
use Rattle.format.specs.Question.{Stopped, Ended, ending, read_from, read_by, read_in, question, question_form, headed_in}
use Rattle.format.proofs.RecordFaults.{uncrowded, →uncrowded, not_extended}
use Rattle.format.proofs.Entries.{ReadInRange, Entry, head, literal, constraint, extended, entry}

-- nothing was read yet, or a head and what is in range after it
abbrev pub Ready : Progress → Type 0
Ready s = (s ≡ unread) ⊎ ((1 ≤ s.last) × ReadInRange s.question)

pub before_head : (s : Progress) → Ready s → s.last ≡ 0 → s ≡ unread
before_head s (inl e) h = e
before_head s (inr (l, d)) h = absurd (omega arith)

behind_head : (s : Progress) → Ready s → 1 ≤ s.last → ReadInRange s.question
behind_head s (inl e) h = absurd (let z : s.last ≡ 0 = ap (λ (t : Progress). t.last) e in omega arith)
behind_head s (inr (l, d)) h = d

-- ---- one record

module _ (b : List ℕ) (s : Progress) (h : Ready s) (at : ℕ) (t : Progress) where
  entry_ready : t.last ≡ rank_of (kind b at) → Entry b s at t → Ready t
  entry_ready e (head k l n c x q) = inr (omega arith, q)
  entry_ready e (literal k l n c x q) = inr (omega arith, q (behind_head s h l))
  entry_ready e (constraint k o l n c x q) = inr (omega arith, q (behind_head s h l))
  entry_ready e (extended k l n c q) = inr (omega arith, subst ReadInRange (sym q) (behind_head s h l))

  abbrev r : ℕ
  r = rank_of (kind b at)

  abbrev count : ℕ
  count = constraint_count s

  -- what is no constraint finds room
  no_constraint : r ≤ literal_rank → room_for true r count ≡ true
  no_constraint l = ap (λ x. not x || ltb count fact_limit) (le-ltb literal_rank r l)

  -- a record finds room after fewer than 128
  room_behind : count < fact_limit → room_for true r count ≡ true
  room_behind l = room (is_constraint r)
    where
      room : (x : Bool) → (not x || ltb count fact_limit) ≡ true
      room true = lt-ltb count fact_limit l
      room false = refl

  -- a constraint that finds room stands after fewer than 128
  room_left : literal_rank < r → room_for true r count ≡ true → count < fact_limit
  room_left k e = ltb-true count fact_limit (ap (λ x. not x || ltb count fact_limit) (sym (lt-ltb literal_rank r k)) ∙ e)

  -- the constraints do not become fewer, and a record finds room where they stay within 128
  entry_room : (limit : ℕ) → Entry b s at t → constraint_count t ≤ limit → limit ≤ fact_limit → (count ≤ limit) × (room_for true r count ≡ true)
  entry_room limit (head k l n c x q) g m = let z : count ≡ 0 = ap constraint_count (before_head s h l) in (omega arith, no_constraint (omega arith))
  entry_room limit (literal k l n c x q) g m = (omega arith, no_constraint (omega arith))
  entry_room limit (constraint k o l n c x q) g m = (omega arith, room_behind (omega arith))
  entry_room limit (extended k l n c q) g m = (omega arith, room_behind (omega arith))

  pub entry_few : Entry b s at t → room_for true r count ≡ true → count ≤ fact_limit → constraint_count t ≤ fact_limit
  entry_few (head k l n c x q) e m = omega arith
  entry_few (literal k l n c x q) e m = omega arith
  entry_few (constraint k o l n c x q) e m = omega (arith, room_left k e)
  entry_few (extended k l n c q) e m = omega (arith, room_left (omega arith) e)

pub advanced_ready : (m : Manner) (b : List ℕ) (s : Progress) (at : ℕ) → question_fault m b s at ≡ 0 → Ready s → Ready (question_advanced b s at)
unfolding question_advanced
advanced_ready m b s at e h = entry_ready b s h at (question_advanced b s at) refl (entry m.greatest b s at (uncrowded m b s at e).0)

-- ---- all records

-- reading in a manner comes from s at record r to t at position to and record q
pub data Reads (m : Manner) (b : List ℕ) : Progress → ℕ → List ℕ → Progress → ℕ → ℕ → Type 0 where
  ended : {s : Progress} {r at : ℕ} {ats : List ℕ} → ending (kind b at) ≡ true → Reads m b s r (at ∷ ats) s at r
  further : {s t : Progress} {r at to q : ℕ} {ats : List ℕ}
      → ending (kind b at) ≡ false
      → question_fault m b s at ≡ 0
      → Reads m b (question_advanced b s at) (suc r) ats t to q
      → Reads m b s r (at ∷ ats) t to q

module _ (m : Manner) (b : List ℕ) where
  -- one turn, by the record's kind and its fault
  abbrev pub turn : Progress → ℕ → ℕ → List ℕ → Bool → ℕ → Reading
  turn s r at ats x f =
      elim x as (λ _. Reading) [
        | true ↦ Ended s at r
        | false ↦ elim f as (λ _. Reading) [ zero ↦ read_from (question_fault m) b (question_advanced b s at) (suc r) ats | suc c ↦ Stopped (suc c) r ]
      ]

  reads→ : (s : Progress) (r : ℕ) (ats : List ℕ) {t : Progress} {to q : ℕ} → read_from (question_fault m) b s r ats ≡ Ended t to q → Reads m b s r ats t to q
  unfolding read_from
  reads→ s r [] e = absurd (let z : ◌≡◌ {A = ℕ} 0 1 = cc in omega arith)
  reads→ s r (at ∷ ats) {t} {to} {q} e = go (ending (kind b at)) (question_fault m b s at) refl refl e (λ p. reads→ (question_advanced b s at) (suc r) ats p)
    where
      go : (x : Bool) (f : ℕ) → ending (kind b at) ≡ x → question_fault m b s at ≡ f → turn s r at ats x f ≡ Ended t to q
          → (read_from (question_fault m) b (question_advanced b s at) (suc r) ats ≡ Ended t to q → Reads m b (question_advanced b s at) (suc r) ats t to q)
          → Reads m b s r (at ∷ ats) t to q
      go true f k c p ih =
          let z : s ≡ t = cc in
          let w : at ≡ to = cc in
          let y : r ≡ q = cc in
          subst (λ t. Reads m b s r (at ∷ ats) t to q) z (subst (λ to. Reads m b s r (at ∷ ats) s to q) w (subst (Reads m b s r (at ∷ ats) s at) y (ended k)))
      go false zero k c p ih = further k c (ih p)
      go false (suc f) k c p ih = absurd (let z : ◌≡◌ {A = ℕ} 0 1 = cc in omega arith)

  →reads : {s t : Progress} {r to q : ℕ} {ats : List ℕ} → Reads m b s r ats t to q → read_from (question_fault m) b s r ats ≡ Ended t to q
  unfolding read_from
  →reads (ended {s = s} {r = r} {at = at} {ats = ats} k) = ap (λ x. turn s r at ats x (question_fault m b s at)) k
  →reads (further {s = s} {r = r} {at = at} {ats = ats} k c h) = ap₂ (turn s r at ats) k c ∙ →reads h

module _ {m : Manner} {b : List ℕ} where
  reads_ready : {s t : Progress} {r to q : ℕ} {ats : List ℕ} → Reads m b s r ats t to q → Ready s → Ready t
  reads_ready (ended k) h = h
  reads_ready (further {s = s} {at = at} k c g) h = reads_ready g (advanced_ready m b s at c h)

  -- what is read with 10 has no more than 128 constraints
  reads_few : m.limited ≡ true
      → {s t : Progress} {r to q : ℕ} {ats : List ℕ}
      → Reads m b s r ats t to q
      → Ready s
      → constraint_count s ≤ fact_limit
      → constraint_count t ≤ fact_limit
  reads_few e (ended k) h l = l
  reads_few e (further {s = s} {at = at} k c g) h l =
      let (f, r) = uncrowded m b s at c in
      reads_few e g (advanced_ready m b s at c h) (entry_few b s h at (question_advanced b s at) (entry m.greatest b s at f) (rw e at r) l)

-- no extended constraint is read where its rank is not taken
module _ (m : Manner) (l : m.greatest < extended_rank) (b : List ℕ) where
  plain_record : (s : Progress) (at : ℕ) → form_fault m.greatest b s at ≡ 0 → s.extended ≡ [] → (question_advanced b s at).extended ≡ []
  plain_record s at f e = go (entry m.greatest b s at f)
    where
      go : Entry b s at (question_advanced b s at) → (question_advanced b s at).extended ≡ []
      go (head k h n c x q) = x
      go (literal k h n c x q) = x ∙ e
      go (constraint k o h n c x q) = x ∙ e
      go (extended k h n c q) = absurd (not_extended m.greatest b s at l f k)

  reads_plain : {s t : Progress} {r to q : ℕ} {ats : List ℕ} → Reads m b s r ats t to q → s.extended ≡ [] → t.extended ≡ []
  reads_plain (ended k) e = e
  reads_plain (further {s = s} {at = at} k c g) e = reads_plain g (plain_record s at (uncrowded m b s at c).0 e)

-- with 10 and without, the same ranks taken
module _ (greatest : ℕ) where
  abbrev limited : Manner
  limited = record { limited = true; greatest = greatest }

  abbrev unlimited : Manner
  unlimited = record { limited = false; greatest = greatest }

  -- what is read with 10 is read without
  reads_without : {b : List ℕ} {s t : Progress} {r to q : ℕ} {ats : List ℕ} → Reads limited b s r ats t to q → Reads unlimited b s r ats t to q
  reads_without (ended k) = ended k
  reads_without {b} (further {s = s} {at = at} k c g) = further k (→uncrowded unlimited b s at (uncrowded limited b s at c).0 refl) (reads_without g)

  -- what is read without 10 and has no more constraints is read with it
  reads_room : {b : List ℕ} {s t : Progress} {r to q : ℕ} {ats : List ℕ}
      → Reads unlimited b s r ats t to q
      → Ready s
      → constraint_count t ≤ fact_limit
      → (constraint_count s ≤ constraint_count t) × Reads limited b s r ats t to q
  reads_room (ended k) h l = (omega arith, ended k)
  reads_room {b} {t = t} (further {s = s} {at = at} k c g) h l =
      let f = (uncrowded unlimited b s at c).0 in
      let (grows, later) = reads_room g (advanced_ready unlimited b s at c h) l in
      let (less, room) = entry_room b s h at (question_advanced b s at) (constraint_count t) (entry greatest b s at f) grows l in
      (less, further k (→uncrowded limited b s at f room) later)

-- ---- the whole question

abbrev pub by_size : Manner → List ℕ → Bool → Reading
by_size m b x = elim x as (λ _. Reading) [ false ↦ Stopped 2 0 | true ↦ read_from (question_fault m) b unread 0 (records b 0) ]

pub whole→ : (m : Manner) (b : List ℕ) {s : Progress} {at r : ℕ}
    → read_in m b ≡ Ended s at r
    → (leb (length b) ticket_bytes ≡ true) × Reads m b unread 0 (records b 0) s at r
unfolding read_by
whole→ m b {s} {at} {r} e = go (leb (length b) ticket_bytes) e
  where
    go : (x : Bool) → by_size m b x ≡ Ended s at r → (x ≡ true) × Reads m b unread 0 (records b 0) s at r
    go false e = absurd (let z : ◌≡◌ {A = ℕ} 0 1 = cc in omega arith)
    go true e = (refl, reads→ m b unread 0 (records b 0) e)

pub →whole : (m : Manner) (b : List ℕ) {s : Progress} {at r : ℕ}
    → leb (length b) ticket_bytes ≡ true
    → Reads m b unread 0 (records b 0) s at r
    → read_in m b ≡ Ended s at r
unfolding read_by
→whole m b l h = ap (by_size m b) l ∙ →reads m b h

-- after the head, the question that is read is in range
pub read_in_range : (m : Manner) (b : List ℕ) {s : Progress} {at r : ℕ} → read_in m b ≡ Ended s at r → head_rank ≤ s.last → ReadInRange s.question
read_in_range m b {s} e h = behind_head s (reads_ready (whole→ m b e).1 (inl refl)) h

-- with 10 it has no more than 128 constraints
pub read_few : (m : Manner)
    → m.limited ≡ true
    → (b : List ℕ) {s : Progress} {at r : ℕ}
    → read_in m b ≡ Ended s at r
    → constraint_count s ≤ fact_limit
read_few m l b e = reads_few l (whole→ m b e).1 (inl refl) (omega arith)

pub asked_in_range : (b : List ℕ) {s : Progress} {at r : ℕ} → question_form b ≡ Ended s at r → 1 ≤ s.last → ReadInRange s.question
asked_in_range b e h = read_in_range form_manner b e h

-- what reads no kind 11 reads no extended constraint
pub read_plain : (m : Manner) → m.greatest < extended_rank → (b : List ℕ) {s : Progress} {at r : ℕ} → read_in m b ≡ Ended s at r → s.extended ≡ []
read_plain m l b e = reads_plain m l b (whole→ m b e).1 refl

pub question→form : (b : List ℕ) {s : Progress} {at r : ℕ} → question b ≡ Ended s at r → question_form b ≡ Ended s at r
question→form b e = let (l, h) = whole→ checking_manner b e in →whole form_manner b l (reads_without _ h)

pub form→question : (b : List ℕ) {s : Progress} {at r : ℕ}
    → question_form b ≡ Ended s at r
    → length s.question.constraints ≤ fact_limit
    → question b ≡ Ended s at r
form→question b {s} e few =
    let (l, h) = whole→ form_manner b e in
    let none : length s.extended ≡ 0 = ap length (read_plain form_manner (omega arith) b e) in
    →whole checking_manner b l (reads_room _ h (inl refl) (omega arith)).1

pub question_few : (b : List ℕ) {s : Progress} {at r : ℕ} → question b ≡ Ended s at r → length s.question.constraints ≤ fact_limit
question_few b e = omega (arith, read_few checking_manner refl b e)

-- what is read after a head
pub headed_in_law : {A : Type 0} (f : Progress → A) (s : Progress) (at r : ℕ) → leb head_rank s.last ≡ true → headed_in f (Ended s at r) ≡ some (f s)
headed_in_law f s at r e = rw e

pub record HeadedBy {A : Type 0} (f : Progress → A) (g : Reading) (y : A) : Type 0 where
  pub progress : Progress
  pub position : ℕ
  pub number : ℕ
  pub ends : g ≡ Ended progress position number
  pub has_head : leb head_rank progress.last ≡ true
  pub gives : f progress ≡ y

pub headed_by : {A : Type 0} (f : Progress → A) (g : Reading) {y : A} → headed_in f g ≡ some y → HeadedBy f g y
headed_by f (Stopped c r) e = absurd (none_some e)
headed_by {A} f (Ended s at r) {y} e = go (leb head_rank s.last) refl e
  where
    go : (x : Bool) → leb head_rank s.last ≡ x → ◌≡◌ {A = Option A} (cond x (some (f s)) none) (some y) → HeadedBy f (Ended s at r) y
    go false h e = absurd (none_some e)
    go true h e = record { progress = s; position = at; number = r; ends = refl; has_head = h; gives = some_injective e }
