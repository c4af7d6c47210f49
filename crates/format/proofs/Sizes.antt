-- 1 and 2 in words: they are for the lent buffers and for the ticket's bytes alone, whatever the rules.
use Prim.Native.Nat.{ℕ, suc, ◌<◌, ◌≤◌}
use native.Mathlib.Omega.{arith}
use native.Mathlib.Decide.{dec_le}
use mathlib.Core.Path.{◌≡◌, refl, sym, ◌∙◌, ap, subst}
use mathlib.Core.Bool.{Bool, true, false, ◌&&◌}
use mathlib.Core.Option.{Option}
use mathlib.Core.List.{List}
use lib.ListN.{length}
use lib.Dec.{leb}
use borrow.Author.Tests.{le-leb, lt-leb, leb-true}
use Rattle.lists.proofs.Tests.{and_both}
use Rattle.calculus.specs.Limits.{work_numbers, answer_bytes, ticket_bytes}
use Rattle.calculus.specs.Rules.{RuleSet, children}
use Rattle.calculus.specs.SettledTest.{settled}
use Rattle.calculus.specs.Facts.{Question, Fact, Branch}
use Rattle.calculus.specs.Walk.{working, closed}
use Rattle.format.specs.Records.{need}
use Rattle.format.specs.Question.{checking_manner, question, read_by}
use Rattle.format.specs.Reading.{proving, taking, modelled, Ticket, Faulty, Done, read_behind}
use Rattle.format.specs.Checking.{Outcome, Refused, NoSolution, Strings, checker_by, outcome_of, fits, or_none, facts_within, children_within, room, room_for_all}
use Rattle.format.specs.Checking.{room_to_pend, keeps, short_lengths, child_in, large_enough, verdict_by, verdict}
use Rattle.format.specs.Demands.{LargeEnough, Th1Small, Th1Long}
use Rattle.format.proofs.Asked as asked
use Rattle.format.proofs.Refusals.{Holds, none, unless, InTicket, Finds, ticket_number}

-- a number that reading gives, of bytes b
module _ (b : List ℕ) where
  pub record ByReading (c : ℕ) : Type 0 where
    pub not_one : c ≡ 1 → ⊥
    pub too_long : c ≡ 2 → ticket_bytes < length b

  behind : (c : ℕ) → 3 ≤ c → ByReading c
  behind c h = record { not_one = λ e. omega arith; too_long = λ e. absurd (omega arith) }

  -- 8 to 10, and 12 to 14
  three : (c : ℕ) (x y z : Bool) → 3 ≤ c → Holds ByReading (need c x (need (suc c) y (need (suc (suc c)) z 0)))
  three c x y z h =
      unless ByReading c x (behind c h)
      (unless ByReading (suc c) y (behind (suc c) (omega arith))
      (unless ByReading (suc (suc c)) z (behind (suc (suc c)) (omega arith)) (none ByReading)))

  checker_finds : (rules : RuleSet) (u : Question) → Finds ByReading (checker_by rules u)
  checker_finds rules u = record {
    split =
        λ br ss st.
        let cs : List (List Fact) = or_none (rules u br st) in
        three 8 (fits (rules u br st)) (children_within cs) (room_for_all (length br) cs && room_to_pend (length ss) cs) (omega arith);
    taken =
        λ br st c.
        let o : Option (List Fact) = child_in (rules u br st) c in
        three 8 (fits o) (facts_within (or_none o)) (room (length br) (or_none o)) (omega arith);
    leaf = λ br m. three 12 (keeps m br) (settled u br m) (short_lengths u m) (omega arith);
  }

  abbrev InOutcome : Outcome → Type 0
  InOutcome (Refused c r) = ByReading c
  InOutcome NoSolution = Unit {0}
  InOutcome (Strings a) = Unit {0}

  in_outcome : (t : Ticket Branch (List Fact)) → InTicket ByReading t → InOutcome (outcome_of t)
  in_outcome (Faulty c r) p = p
  in_outcome (Done v (proving (working br ss)) r) p = behind 11 (omega arith)
  in_outcome (Done v (proving closed) r) p = tt
  in_outcome (Done v (taking br) r) p = behind 11 (omega arith)
  in_outcome (Done v (modelled br m) r) p = tt

  abbrev whole : RuleSet → Outcome
  whole rules = outcome_of (read_behind (checker_by rules) b (question b))

  reading_gives : (rules : RuleSet) → InOutcome (whole rules)
  reading_gives rules =
      in_outcome (read_behind (checker_by rules) b (question b))
      (ticket_number ByReading (λ c h g. behind c h) b (checker_by rules) (checker_finds rules) checking_manner (λ limited. behind 10 (omega arith))
      (λ long. record { not_one = λ e. omega arith; too_long = λ e. long }))

abbrev pub OtherThanOne : Outcome → Type 0
OtherThanOne (Refused c r) = c ≡ 1 → ⊥
OtherThanOne NoSolution = Unit {0}
OtherThanOne (Strings a) = Unit {0}

pub never_one : (rules : RuleSet) (b : List ℕ) → OtherThanOne (outcome_of (read_behind (checker_by rules) b (question b)))
never_one rules b = go (whole b rules) (reading_gives b rules)
  where
    go : (o : Outcome) → InOutcome b o → OtherThanOne o
    go (Refused c r) p = p.not_one
    go NoSolution p = tt
    go (Strings a) p = tt

-- ---- the sizes of the lent buffers

large : (work answer : ℕ) → LargeEnough work answer → large_enough work answer ≡ true
large work answer (w, a) = ap (λ x. x && leb answer_bytes answer) (le-leb work_numbers work w) ∙ le-leb answer_bytes answer a

→large : (work answer : ℕ) → large_enough work answer ≡ true → LargeEnough work answer
→large work answer e = let (w, a) = and_both (leb work_numbers work) (leb answer_bytes answer) e in (leb-true work_numbers work w, leb-true answer_bytes answer a)

module _ (rules : RuleSet) (work answer : ℕ) (b : List ℕ) where
  abbrev by_size : Bool → Outcome
  by_size x = elim x as (λ _. Outcome) [ false ↦ Refused 1 0 | true ↦ whole b rules ]

  -- on buffers that are large enough the outcome is what reading comes to
  pub sized : LargeEnough work answer → verdict_by rules work answer b ≡ whole b rules
  unfolding verdict_by
  sized h = ap by_size (large work answer h)

  unsized : (LargeEnough work answer → ⊥) → verdict_by rules work answer b ≡ Refused 1 0
  unfolding verdict_by
  unsized h = go (large_enough work answer) refl
    where
      go : (x : Bool) → large_enough work answer ≡ x → by_size x ≡ Refused 1 0
      go false e = refl
      go true e = absurd (h (→large work answer e))

  -- and any outcome but 1 says that they are
  pub large_enough_law : {o : Outcome} → ((r : ℕ) → Refused 1 r ≡ o → ⊥) → verdict_by rules work answer b ≡ o → LargeEnough work answer
  unfolding verdict_by
  large_enough_law {o = o} never e = go (large_enough work answer) refl e
    where
      go : (x : Bool) → large_enough work answer ≡ x → by_size x ≡ o → LargeEnough work answer
      go false f e = absurd (never 0 e)
      go true f e = →large work answer f

pub small_buffers : Th1Small
small_buffers work answer t r = (
  λ e. (λ h. subst OtherThanOne (sym (sized children work answer t h) ∙ e) (never_one children t) refl, go e (dec_le work_numbers work) (dec_le answer_bytes answer)),
  λ (short, z). unsized children work answer t short ∙ ap (Refused 1) (sym z),
)
  where
    zero_there : (LargeEnough work answer → ⊥) → verdict work answer t ≡ Refused 1 r → r ≡ 0
    zero_there short e = let f : Refused 1 0 ≡ Refused 1 r = sym (unsized children work answer t short) ∙ e in cc

    go : verdict work answer t ≡ Refused 1 r → Dec (work_numbers ≤ work) → Dec (answer_bytes ≤ answer) → r ≡ 0
    go e (yes w) (yes a) = absurd (subst OtherThanOne (sym (sized children work answer t (w, a)) ∙ e) (never_one children t) refl)
    go e (yes w) (no a) = zero_there (λ h. a h.1) e
    go e (no w) d = zero_there (λ h. w h.0) e

pub long_tickets : Th1Long
unfolding read_by
long_tickets work answer t r h = (
  λ e. let long = read_long (sym (sized children work answer t h) ∙ e) in (long, let f : Refused 2 0 ≡ Refused 2 r = sym (refused long) ∙ e in cc),
  λ (long, z). refused long ∙ ap (Refused 2) (sym z),
)
  where
    read_long : whole t children ≡ Refused 2 r → ticket_bytes < length t
    read_long e = (subst (InOutcome t) e (reading_gives t children)).too_long refl

    refused : ticket_bytes < length t → verdict work answer t ≡ Refused 2 0
    refused long = sized children work answer t h ∙ ap (λ x. outcome_of (read_behind (checker_by children) t (asked.by_size checking_manner t x))) (lt-leb (length t) ticket_bytes long)
