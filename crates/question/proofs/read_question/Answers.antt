use mathlib.Core.Path.{◌≡◌, refl, ◌∙◌, sym, ap}
use mathlib.Core.Bool.{true, false, true≢false}
use mathlib.Core.List.{List}
use Prim.Native.Nat.{ℕ, zero, suc, ◌+◌, ◌≤◌}
use native.Mathlib.Omega.{arith}
use native.Mathlib.Numerals.{add-one}
use lib.ListN.{length}
use Rattle.std.specs.Prelude.{Ok, Err}
use Rattle.calculus.specs.Limits.{ticket_bytes}
use Rattle.format.specs.Records.{kind, size}
use Rattle.format.specs.Question as format
use Rattle.format.specs.Question.{question_fault, question_advanced, unread, ending, read_on, read_by}
use Rattle.format.proofs.Turns.{read_none, read_ended, read_stopped, read_more, read_long, read_begin}
use Rattle.records.specs.Found.{found_at, WholeRecord}
use Rattle.records.specs.declared.Found.{Found}
use Rattle.records.specs.declared.Found.TheVariants.{Whole, Cut, Nothing}
use Rattle.records.proofs.Finding.{found_nothing, found_cut, found_whole}
use Rattle.question.specs.declared.Manner.{Manner}
use Rattle.question.specs.declared.Progress.{Progress}
use Rattle.faults.specs.Numbers.{number}
use Rattle.faults.specs.declared.Fault.{Fault}
use Rattle.faults.specs.declared.Fault.TheVariants.{CutShort}
use Rattle.faults.specs.declared.Refusal.{Refusal}
use Rattle.question.proofs.Refusals.{numbered}
use Rattle.question.specs.Progress.{manner_of, numbers_of, progress_of, ends_at, reading_of}
use Rattle.question.specs.Standing.{StandsTo}
use Rattle.format.proofs.RecordFaults.{cut_short}
use Rattle.format.proofs.Standing.{begun_fresh, begun_stands, next_at, advanced_stands}
use Rattle.question.proofs.read_question.Goals as goal
use Rattle.question.proofs.read_question.Goals.{In-Whole}
use Rattle.question.proofs.read_question.Invariants.{Left}

-- the outcome where reading stands
module _ (m : Manner) (b : List ℕ) (s : Progress) (r at : ℕ) (short : length b ≤ ticket_bytes) (left : Left m b s r at) where
  abbrev test : List ℕ → format.Progress → ℕ → ℕ
  test = question_fault (manner_of m)

  outcome : (x : format.Reading) → read_on test b (progress_of b s) r at ≡ x → x ≡ read_by test b
  outcome x e = sym e ∙ left ∙ sym (read_begin test b short)

  at-ending : (f : Found) → f ≡ found_at b at → ends_at f ≡ true → reading_of b (Ok (record { numbers = s; at = at; «record» = r })) ≡ read_by test b
  unfolding reading_of
  at-ending f e g = outcome (format.Ended (progress_of b s) at r) (go f (sym e) g)
    where
      go : (f : Found) → found_at b at ≡ f → ends_at f ≡ true → read_on test b (progress_of b s) r at ≡ format.Ended (progress_of b s) at r
      go (Whole k n) e g = let w = found_whole b at k n e in read_ended test b (progress_of b s) r at (omega (arith, w.2)) (rw w.0 at g)
      go (Cut k) e g = let w = found_cut b at k e in read_ended test b (progress_of b s) r at w.1 (rw w.0 at g)
      go Nothing e g = absurd (true≢false (sym g))

  stopped : (k c : ℕ)
      → k ≡ kind b at
      → at + 6 ≤ length b
      → ending k ≡ false
      → c ≡ test b (progress_of b s) at
      → (c ≡ 0 → ⊥)
      → format.Stopped c r ≡ read_by test b
  stopped k zero e h g ec z = absurd (z refl)
  stopped k (suc c) e h g ec z = outcome (format.Stopped (suc c) r) (read_stopped test b (progress_of b s) r at c h (rw e at g) (sym ec))

  at-fault : (k : ℕ) (x : Fault) (f : Refusal)
      → (f.fault ≡ x) × (f.record ≡ r)
      → k ≡ kind b at
      → at + 6 ≤ length b
      → ending k ≡ false
      → number x ≡ test b (progress_of b s) at
      → reading_of b (Err f) ≡ read_by test b
  unfolding reading_of
  at-fault k x f (ef, er) e h g ec = rw (ef, er) (stopped k (number x) e h g ec (numbered x))

  -- the bytes stop before a record is complete
  at-stop : (f : Found) (x : Refusal)
      → (x.fault ≡ CutShort) × (x.record ≡ r)
      → f ≡ found_at b at
      → ends_at f ≡ false
      → ((k n : ℕ) → f ≡ Whole k n → ⊥)
      → reading_of b (Err x) ≡ read_by test b
  unfolding reading_of
  at-stop f x (ef, er) e g other = rw (ef, er) (go f (sym e) g other)
    where
      go : (f : Found) → found_at b at ≡ f → ends_at f ≡ false → ((k n : ℕ) → f ≡ Whole k n → ⊥) → format.Stopped 3 r ≡ read_by test b
      go (Whole k n) e g other = absurd (other k n refl)
      go (Cut k) e g other =
          let w = found_cut b at k e in stopped k 3 w.0 w.1 g (sym (cut_short (manner_of m) b (progress_of b s) at w.2)) (λ z. omega arith)
      go Nothing e g other = outcome (format.Stopped 3 r) (read_none test b (progress_of b s) r at (found_nothing b at e))

  goes_on : (k n : ℕ) (t : Progress) → (k ≡ kind b at) × (n ≡ size b at) × (at + 6 + n ≤ length b) → ending k ≡ false → test b (progress_of b s) at ≡ 0
      → progress_of b t ≡ question_advanced b (progress_of b s) at
      → StandsTo b s at
      → StandsTo b t (at + 6 + n) × Left m b t (r + 1) (at + 6 + n)
  goes_on k n t w g ef e h =
      rw w.1 (
        advanced_stands b (numbers_of s) at (next_at (manner_of m) h ef) (numbers_of t) e,
        rw (add-one r, e) (sym (read_more test b (progress_of b s) r at (omega (arith, w.2)) (rw w.0 at g) ef) ∙ left),
      )

pub returns-then-b-gt-TICKET_BYTES : goal.returns-then-b-gt-TICKET_BYTES
unfolding reading_of
returns-then-b-gt-TICKET_BYTES c =
    rw (c.at.ensures.0, c.at.ensures.1) (sym (read_long (question_fault (manner_of c.args.m)) _ c.if-b-gt-TICKET_BYTES.true))

pub loop-m-init : goal.loop-m-init
loop-m-init c =
    let a = c.args in
    (omega arith, begun_stands _, ap (λ (u : format.Progress). read_on (question_fault (manner_of a.m)) a.b.now u 0 0) (begun_fresh a.b.now))

pub returns-then-ends_question : goal.returns-then-ends_question
returns-then-ends_question c =
    let a = c.args in
    let l = c.loop-m in
    at-ending a.m a.b.now l.numbers l.record l.at c.if-b-gt-TICKET_BYTES.false l.invariant.2 _ c.read_at-found.ensures
    (sym c.ends_question.ensures ∙ c.if-ends_question.true)

pub returns-in_default : goal.returns-in_default
returns-in_default c =
    let a = c.args in
    let l = c.loop-m in
    at-stop a.m a.b.now l.numbers l.record l.at c.if-b-gt-TICKET_BYTES.false l.invariant.2 _ _ c.at-in_default.ensures c.read_at-found.ensures
    (sym c.ends_question.ensures ∙ c.if-ends_question.false) c.in_default.not-Whole

-- a whole record, which does not end the question
at_whole : (c : In-Whole) → WholeRecord c.args.b.now c.loop-m.at c.in-Whole.kind c.in-Whole.size × (ending c.in-Whole.kind ≡ false)
at_whole c = (
  found_whole c.args.b.now c.loop-m.at _ _ (sym c.read_at-found.ensures ∙ c.in-Whole.is),
  ap ends_at (sym c.in-Whole.is) ∙ sym c.ends_question.ensures ∙ c.if-ends_question.false,
)

pub record_fault-requires : goal.record_fault-requires
record_fault-requires c =
    record { stands_to = c.loop-m.invariant.1; kind_value = (at_whole (goal.at.record_fault-requires c).In-Whole).0 }

pub returns-in-Err : goal.returns-in-Err
returns-in-Err c =
    let a = c.args in
    let l = c.loop-m in
    let (w, g) = at_whole (goal.at.returns-in-Err c).In-Whole in
    at-fault a.m a.b.now l.numbers l.record l.at c.if-b-gt-TICKET_BYTES.false l.invariant.2 _ _ _ c.at-in-Err.ensures w.0 (omega (arith, w.2)) g c.in-Err.ensures

pub advance-numbers-requires : goal.advance-numbers-requires
advance-numbers-requires c =
    (next_at (manner_of c.args.m) c.loop-m.invariant.1 (sym c.in_default-record_fault.ensures), (at_whole (goal.at.advance-numbers-requires c).In-Whole).0.0)

pub overflow_add-at : goal.overflow_add-at
overflow_add-at c = omega (arith, (at_whole (goal.at.overflow_add-at c).In-Whole).0.2)

pub overflow_add-at-in-loop-m : goal.overflow_add-at-in-loop-m
overflow_add-at-in-loop-m c = omega (arith, (at_whole (goal.at.overflow_add-at-in-loop-m c).In-Whole).0.2)

pub overflow_add-record : goal.overflow_add-record
overflow_add-record c = omega (arith, c.loop-m.invariant.1.within)

pub loop-m-smaller : goal.loop-m-smaller
loop-m-smaller c = omega (arith, (at_whole (goal.at.loop-m-smaller c).In-Whole).0.2)

pub loop-m-preserved : goal.loop-m-preserved
loop-m-preserved c =
    let a = c.args in
    let l = c.loop-m in
    let (w, g) = at_whole (goal.at.loop-m-preserved c).In-Whole in
    let to : l.at + 6 + c.in-Whole.size ≡ l.at + (6 + c.in-Whole.size) = omega arith in
    let on =
    goes_on a.m a.b.now l.numbers l.record l.at c.if-b-gt-TICKET_BYTES.false l.invariant.2 _ _ _ w g
    (sym c.in_default-record_fault.ensures) c.advance-numbers.ensures l.invariant.1 in
    rw (sym to) (omega arith, on.0, on.1)
