-- The numbers of refusals: what holds of 3 to 7, of 2 where the bytes are too many, of 10 where it is looked for, and of what the method finds, holds of every
-- number that reading gives.
use Prim.Native.Nat.{ℕ, zero, suc, ◌+◌, ◌*◌, ◌-◌, ◌/◌, ◌%◌, ◌<◌, ◌≤◌}
use native.Mathlib.Omega.{arith}
use mathlib.Core.Path.{◌≡◌, refl, subst}
use mathlib.Core.Bool.{Bool, true, false, cond, not, ◌&&◌, ◌||◌}
use mathlib.Core.List.{List, [], ◌∷◌}
use lib.ListN.{length}
use lib.Dec.{leb, ltb, eqb}
use lib.IntN.{ℤ}
use borrow.Author.Tests.{leb-true, leb-false}
use Rattle.lists.proofs.Tests.{and_both}
use Rattle.calculus.specs.Limits.{ticket_bytes, column_limit, value_limit, fact_limit}
use Rattle.calculus.specs.Alphabet.{all_characters}
use Rattle.calculus.specs.Strings.{given}
use Rattle.calculus.specs.Facts.{Question, column_count}
use Rattle.calculus.specs.Steps.{Step}
use Rattle.calculus.specs.Walk.{Waiting, working, closed}
use Rattle.format.specs.Fields.{u16, all_within}
use Rattle.format.specs.Records.{kind, size, next, whole, records, need}
use Rattle.format.specs.Question.{string_kind, arithmetic_kind, head_rank, literal_rank, extended_rank, rank_of, is_constraint, head_range, text_of, literal_length, string_range, form_range}
use Rattle.format.specs.Question.{fact_fault, extended_range, in_place, Progress, unread, constraint_count, head_read, Manner, form_fault, or_crowded, question_fault}
use Rattle.format.specs.Question.{question_advanced, Reading, Stopped, Ended, ending, read_from, read_by, read_in}
use Rattle.format.specs.StepForms.{rule, child_field, length_fits, operands_in_range, step_at, child_in_range}
use Rattle.format.specs.Reading.{State, proving, taking, modelled, Method, step_fault, model_at, body_fault, fault, advanced}
use Rattle.format.specs.Reading.{Ticket, Faulty, Done, read_steps, claim_at, claim_fault, begin, read_behind}
use Rattle.format.proofs.StepTurns.{at_claim}
use Rattle.format.proofs.Asked as asked
use Rattle.format.proofs.Behind as behind

-- a property of numbers
module _ (P : ℕ → Type 0) where
  -- of the number that applies; 0 is for none
  abbrev pub Holds : ℕ → Type 0
  Holds c = 1 ≤ c → P c

  pub none : Holds 0
  none h = absurd (omega arith)

  pub unless : (c : ℕ) (t : Bool) {later : ℕ} → P c → Holds later → Holds (need c t later)
  unless c true p q = q
  unless c false p q = λ _. p

  either : (t : Bool) {c d : ℕ} → Holds c → Holds d → Holds (cond t c d)
  either true p q = p
  either false p q = q

  -- of the number that reading the question, or the ticket, gives
  abbrev pub InQuestion : Reading → Type 0
  InQuestion (Stopped c r) = P c
  InQuestion (Ended s at r) = Unit {0}

  abbrev pub InTicket : {B C : Type 0} → Ticket B C → Type 0
  InTicket (Faulty c r) = P c
  InTicket (Done u s r) = Unit {0}

  -- of the numbers that a method finds
  pub record Finds {B C : Type 0} (w : Method B C) : Type 0 where
    pub split : (br : B) (ss : List (Waiting B C)) (st : Step) → Holds (w.split_fault br ss st)
    pub taken : (br : B) (st : Step) (c : ℕ) → Holds (w.taken_fault br st c)
    pub leaf : (br : B) (m : List ℤ) → Holds (w.leaf_fault br m)

-- and it holds of 3 to 7
module _ (P : ℕ → Type 0) (formal : (c : ℕ) → 3 ≤ c → c ≤ 7 → P c) (b : List ℕ) where
  -- a number of 3 to 7, and then others
  form : (c : ℕ) (t : Bool) {later : ℕ} → (leb 3 c && leb c 7) ≡ true → Holds P later → Holds P (need c t later)
  form c t e q = let (g, l) = and_both (leb 3 c) (leb c 7) e in unless P c t (formal c (leb-true 3 c g) (leb-true c 7 l)) q

  -- 5 and 6, the numbers of a body, and then others
  body : (t s : Bool) {later : ℕ} → Holds P later → Holds P (need 5 t (need 6 s later))
  body t s q = form 5 t refl (form 6 s refl q)

  four : Holds P 4
  four _ = formal 4 (omega arith) (omega arith)

  -- ---- the question

  constraint_number : (p l c k at m : ℕ) → Holds P (fact_fault b p l c k at m)
  unfolding fact_fault
  constraint_number p l c k at m =
      either P (eqb k string_kind) (body (eqb m 6) (string_range p l (u16 b at) (u16 b (at + 2)) (u16 b (at + 4))) (none P))
      (either P (eqb k arithmetic_kind)
      (body (leb 6 m && (eqb (m % 6) 0 && leb (m / 6) (suc column_limit))) (leb (u16 b at) 2 && form_range b c (at + 2) (m / 6 - 1)) (none P)) four)

  pub form_number : (greatest : ℕ) (s : Progress) (at : ℕ) → Holds P (form_fault greatest b s at)
  unfolding form_fault
  form_number greatest s at =
      let u : Question = s.question in
      let m : ℕ = size b at in
      form 3 (whole b at) refl
      (form 4 (in_place greatest s (kind b at)) refl
      (either P (eqb (rank_of (kind b at)) head_rank) (body (eqb m 8) (head_range b (at + 6)) (none P))
      (either P (eqb (rank_of (kind b at)) literal_rank)
      (body (literal_length m) (all_characters u.n (text_of b (at + 6) m))
      (form 7 (not (given (text_of b (at + 6) m) u.literals)) refl (none P)))
      (either P (eqb (rank_of (kind b at)) extended_rank)
      (body (eqb m 6) (extended_range u.p u.q (u16 b (at + 6)) (u16 b (at + 6 + 2)) (u16 b (at + 6 + 4))) (none P))
      (constraint_number u.p (length u.literals) (column_count u) (kind b at) (at + 6) m)))))

  crowded_number : (limited room : Bool) (f : ℕ) → (limited ≡ true → P 10) → Holds P f → Holds P (or_crowded f (not limited || room))
  crowded_number true room zero ten p = unless P 10 room (ten refl) (none P)
  crowded_number false room zero ten p = p
  crowded_number limited room (suc f) ten p = p

  module _ (m : Manner) (ten : m.limited ≡ true → P 10) (two : ticket_bytes < length b → P 2) where
    number : (s : Progress) (at : ℕ) → Holds P (question_fault m b s at)
    unfolding question_fault
    number s at =
        crowded_number m.limited (not (is_constraint (rank_of (kind b at))) || ltb (constraint_count s) fact_limit)
        (form_fault m.greatest b s at) ten (form_number m.greatest s at)

    from_number : (s : Progress) (r : ℕ) (ats : List ℕ) → InQuestion P (read_from (question_fault m) b s r ats)
    unfolding read_from
    from_number s r [] = formal 3 (omega arith) (omega arith)
    from_number s r (at ∷ ats) = go (ending (kind b at)) (question_fault m b s at) (number s at) (from_number (question_advanced b s at) (suc r) ats)
      where
        go : (x : Bool) (f : ℕ)
            → Holds P f
            → InQuestion P (read_from (question_fault m) b (question_advanced b s at) (suc r) ats)
            → InQuestion P (asked.turn m b s r at ats x f)
        go true f p q = tt
        go false zero p q = q
        go false (suc c) p q = p (omega arith)

    pub question_number : InQuestion P (read_in m b)
    unfolding read_by
    question_number = go (leb (length b) ticket_bytes) refl
      where
        go : (x : Bool) → leb (length b) ticket_bytes ≡ x → InQuestion P (asked.by_size m b x)
        go false e = two (leb-false (length b) ticket_bytes e)
        go true e = from_number unread 0 (records b 0)

  -- ---- after it

  module _ {B C : Type 0} (w : Method B C) (finds : Finds P w) (u : Question) where
    step_number : (child_ok : Bool) (at m : ℕ) {later : ℕ} → Holds P later → Holds P (step_fault b u child_ok later at m)
    step_number child_ok at m q = body (length_fits b at m) (operands_in_range b u.p (column_count u) (rule b at) at m && child_ok) q

    body_number : (s : State B C) (k at m : ℕ) → Holds P (body_fault w b u s k at m)
    body_number (proving (working br ss)) k at m =
        form 4 (eqb k 6) refl (step_number (eqb (child_field b at) 0) at m (finds.split br ss (step_at b at m)))
    body_number (proving closed) k at m = four
    body_number (taking br) k at m =
        either P (eqb k 6)
        (step_number (child_in_range u.n (step_at b at m) (child_field b at)) at m (finds.taken br (step_at b at m) (child_field b at)))
        (form 4 (eqb k 7) refl (body (eqb m (4 * column_count u)) (all_within value_limit (model_at b u at)) (finds.leaf br (model_at b u at))))
    body_number (modelled br v) k at m = four

    fault_number : (s : State B C) (at : ℕ) → Holds P (fault w b u s at)
    unfolding fault
    fault_number s at =
        form 3 (whole b at) refl
        (either P (eqb (kind b at) 8) (form 4 (eqb (next b at) (length b)) refl (form 5 (eqb (size b at) 0) refl (none P)))
        (body_number s (kind b at) (at + 6) (size b at)))

    steps_number : (s : State B C) (r : ℕ) (ats : List ℕ) → InTicket P (read_steps w b u s r ats)
    unfolding read_steps
    steps_number s r [] = formal 3 (omega arith) (omega arith)
    steps_number s r (at ∷ ats) = go (fault w b u s at) (eqb (kind b at) 8) (fault_number s at) (steps_number (advanced w b u s at) (suc r) ats)
      where
        go : (f : ℕ) (x : Bool)
            → Holds P f
            → InTicket P (read_steps w b u (advanced w b u s at) (suc r) ats)
            → InTicket P (behind.turn w b u s r at ats f x)
        go (suc c) x p q = p (omega arith)
        go zero true p q = tt
        go zero false p q = q

  behind_number : {B C : Type 0} (method : Question → Method B C) → ((u : Question) → Finds P (method u)) → (g : Reading)
      → InQuestion P g → InTicket P (read_behind method b g)
  behind_number method finds (Stopped c r) p = p
  behind_number method finds (Ended s at r) p =
      go (claim_fault b s at)
      (form 3 (whole b at) refl
      (form 4 (head_read s && eqb (kind b at) 5) refl (body (eqb (size b at) 2) (leb 1 (claim_at b at) && leb (claim_at b at) 2) (none P))))
    where
      go : (f : ℕ) → Holds P f → InTicket P (at_claim method b s at r f)
      go (suc c) p = p (omega arith)
      go zero p = steps_number (method s.question) (finds s.question) s.question (begin (method s.question) (claim_at b at)) (suc r) (records b (next b at))

  pub ticket_number : {B C : Type 0} (method : Question → Method B C) → ((u : Question) → Finds P (method u)) → (m : Manner) → (m.limited ≡ true → P 10)
      → (ticket_bytes < length b → P 2) → InTicket P (read_behind method b (read_in m b))
  ticket_number method finds m ten two = behind_number method finds (read_in m b) (question_number m ten two)

-- the question's are up to 10
pub refusal_up_to : (m : Manner) (b : List ℕ) {c q : ℕ} → read_in m b ≡ Stopped c q → c ≤ 10
refusal_up_to m b e = subst (InQuestion (λ c. c ≤ 10)) e (question_number (λ c. c ≤ 10) (λ c h g. omega arith) b m (λ _. omega arith) (λ _. omega arith))
