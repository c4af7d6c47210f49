-- One turn of reading after the claim, by position: the laws that a loop over its records needs.
use Prim.Native.Nat.{ℕ, zero, suc, ◌+◌, ◌≤◌, ◌<◌}
use native.Mathlib.Omega.{arith}
use mathlib.Core.Path.{◌≡◌, refl, sym, ◌∙◌, ap, ap₂}
use mathlib.Core.Bool.{Bool, true, false, cond}
use mathlib.Core.List.{List}
use lib.ListN.{length}
use lib.Dec.{leb, eqb}
use borrow.Author.Tests.{leb-true, leb-false, lt-leb}
use Rattle.calculus.specs.Facts.{Question}
use Rattle.format.specs.Records.{kind, next}
use Rattle.format.specs.Question.{Progress}
use Rattle.format.specs.Reading.{State, proving, taking, modelled, Method, stepped, step_with_child, model_at, fault, advanced}
use Rattle.format.specs.Reading.{Ticket, Faulty, Done, read_steps, claim_at, claim_fault, begin, read_claim, steps_on}
use Rattle.format.proofs.Records.{records_none, records_more}

-- a number that is not 0 is a refusal
pub nonzero : {B C : Type 0} {t : Ticket B C} {f r : ℕ}
    → ((k : ℕ) → f ≡ suc k → t ≡ Faulty (suc k) r)
    → (c : ℕ)
    → c ≡ f
    → (c ≡ 0 → ⊥)
    → t ≡ Faulty c r
nonzero law zero e n = absurd (n refl)
nonzero law (suc c) e n = law c (sym e)

module _ {B C : Type 0} (w : Method B C) (b : List ℕ) (u : Question) where
  -- the outcome of a turn, by the record's number and by whether it is an end
  abbrev turn : State B C → ℕ → ℕ → ℕ → Bool → Ticket B C
  turn s r at f x = elim f as (λ _. Ticket B C) [
    | suc c ↦ Faulty (suc c) r
    | zero ↦ elim x as (λ _. Ticket B C) [ true ↦ Done u s r | false ↦ steps_on w b u (advanced w b u s at) (suc r) (next b at) ]
  ]

  steps_turn : (s : State B C) (r at : ℕ) → at + 6 ≤ length b → steps_on w b u s r at ≡ turn s r at (fault w b u s at) (eqb (kind b at) 8)
  unfolding read_steps
  steps_turn s r at h = ap (read_steps w b u s r) (records_more b at h)

  pub steps_none : (s : State B C) (r at : ℕ) → length b < at + 6 → steps_on w b u s r at ≡ Faulty 3 r
  unfolding read_steps
  steps_none s r at h = ap (read_steps w b u s r) (records_none b at h)

  pub steps_faulty : (s : State B C) (r at c : ℕ) → at + 6 ≤ length b → fault w b u s at ≡ suc c → steps_on w b u s r at ≡ Faulty (suc c) r
  steps_faulty s r at c h f = steps_turn s r at h ∙ ap (λ f. turn s r at f (eqb (kind b at) 8)) f

  pub steps_done : (s : State B C) (r at : ℕ) → at + 6 ≤ length b → fault w b u s at ≡ 0 → eqb (kind b at) 8 ≡ true → steps_on w b u s r at ≡ Done u s r
  steps_done s r at h f e = steps_turn s r at h ∙ ap₂ (turn s r at) f e

  pub steps_more : (s : State B C) (r at : ℕ)
      → at + 6 ≤ length b
      → fault w b u s at ≡ 0
      → eqb (kind b at) 8 ≡ false
      → steps_on w b u s r at ≡ steps_on w b u (advanced w b u s at) (suc r) (next b at)
  steps_more s r at h f e = steps_turn s r at h ∙ ap₂ (turn s r at) f e

  -- no whole record
  pub turn_none : (s : State B C) (r at : ℕ) → length b < next b at → steps_on w b u s r at ≡ Faulty 3 r
  unfolding fault
  turn_none s r at h = go (leb (at + 6) (length b)) refl
    where
      go : (t : Bool) → leb (at + 6) (length b) ≡ t → steps_on w b u s r at ≡ Faulty 3 r
      go false e = steps_none s r at (leb-false _ _ e)
      go true e = steps_faulty s r at 2 (leb-true _ _ e) (rw (lt-leb (next b at) (length b) h))

  module _ (s : State B C) (r at : ℕ) (h : next b at ≤ length b) where
    headed : at + 6 ≤ length b
    headed = omega arith

    -- a whole one that is refused
    pub turn_faulty : (f : ℕ) → f ≡ fault w b u s at → (f ≡ 0 → ⊥) → steps_on w b u s r at ≡ Faulty f r
    turn_faulty f e n = nonzero (λ c g. steps_faulty s r at c headed g) f e n

    -- a step that is taken
    pub turn_stepped : kind b at ≡ 6 → fault w b u s at ≡ 0 → steps_on w b u s r at ≡ steps_on w b u (stepped w s (step_with_child b at)) (suc r) (next b at)
    unfolding advanced
    turn_stepped k f =
        steps_more s r at headed f (ap (λ j. eqb j 8) k) ∙ ap (λ (t : State B C). steps_on w b u t (suc r) (next b at)) (taken_on s)
      where
        taken_on : (s : State B C) → advanced w b u s at ≡ stepped w s (step_with_child b at)
        taken_on (proving x) = refl
        taken_on (taking br) = ap (λ j. cond (eqb j 6) (stepped w (taking br) (step_with_child b at)) (modelled br (model_at b u (at + 6)))) k
        taken_on (modelled br m) = refl

module _ {B C : Type 0} (method : Question → Method B C) (b : List ℕ) (s : Progress) where
  -- the outcome at the claim, by its number
  abbrev pub at_claim : ℕ → ℕ → ℕ → Ticket B C
  at_claim at r f = elim f as (λ _. Ticket B C) [
    | suc c ↦ Faulty (suc c) r
    | zero ↦ steps_on (method s.question) b s.question (begin (method s.question) (claim_at b at)) (suc r) (next b at)
  ]

  pub claim_faulty : (at r c : ℕ) → claim_fault b s at ≡ suc c → read_claim method b s at r ≡ Faulty (suc c) r
  claim_faulty at r c f = ap (at_claim at r) f

  pub claim_clean : (at r : ℕ) → claim_fault b s at ≡ 0
      → read_claim method b s at r ≡ steps_on (method s.question) b s.question (begin (method s.question) (claim_at b at)) (suc r) (next b at)
  claim_clean at r f = ap (at_claim at r) f
