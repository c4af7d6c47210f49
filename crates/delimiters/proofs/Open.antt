-- The numbers of a record where a branch is open.
use Prim.Native.Nat.{ℕ, ◌+◌, ◌≤◌}
use native.Mathlib.Omega.{arith}
use mathlib.Core.Path.{◌≡◌, refl, sym, ◌∙◌, ap}
use mathlib.Core.Logic.{◌⊎◌, inl, inr}
use mathlib.Core.Bool.{Bool, true, false, cond}
use mathlib.Core.List.{List}
use lib.ListN.{length}
use lib.Dec.{eqb}
use borrow.Author.Tests.{eqb-true, le-leb}
use Rattle.calculus.specs.Facts.{Question}
use Rattle.format.specs.Records.{size, kind, next, whole, need}
use Rattle.format.specs.Reading.{State, Method, body_fault, last_fault, fault, Faulty, Done, steps_on}
use Rattle.format.proofs.StepTurns.{steps_done, turn_faulty}
use Rattle.delimiters.specs.Numbers.{end_form, open_fault}

-- a number at a record stands whatever is asked of a step after it
pub open_form : (x y : Bool) (f last step later : ℕ)
    → f ≡ cond x last (need 4 y step)
    → (f ≡ step → f ≡ later)
    → f ≡ cond x last (need 4 y later)
open_form true y f last step later e h = e
open_form false true f last step later e h = h e
open_form false false f last step later e h = e

end_some : (x y : Bool) → need 4 x (need 5 y 11) ≡ 0 → ⊥
end_some true true e = omega arith
end_some true false e = omega arith
end_some false y e = omega arith

-- no number: a step
pub open_step : (n to k m step : ℕ) → open_fault n to k m step ≡ 0 → k ≡ 6
open_step n to k m step e = go (eqb k 8) (eqb k 6) refl e
  where
    go : (x y : Bool) → eqb k 6 ≡ y → cond x (end_form n to m 11) (need 4 y step) ≡ 0 → k ≡ 6
    go true y h e = absurd (end_some (eqb to n) (eqb m 0) e)
    go false true h e = eqb-true k 6 h
    go false false h e = absurd (omega arith)

pub at_step : (n to k m step : ℕ) → k ≡ 6 → open_fault n to k m step ≡ step
at_step n to k m step e = rw e

-- ---- the number as it is found, whatever the method: an end there is 11

module _ {B C : Type 0} (w : Method B C) (b : List ℕ) (u : Question) (st : State B C) (at : ℕ) where
  abbrev body : ℕ
  body = body_fault w b u st (kind b at) (at + 6) (size b at)

  abbrev pub open_number : ℕ
  open_number = need 3 (whole b at) (cond (eqb (kind b at) 8) (end_form (length b) (next b at) (size b at) 11) body)

  -- any other record has that of reading
  pub no_end : eqb (kind b at) 8 ≡ false → open_number ≡ fault w b u st at
  unfolding fault
  no_end k =
      ap (λ x. need 3 (whole b at) (cond x (end_form (length b) (next b at) (size b at) 11) body)) k
      ∙ sym (ap (λ x. need 3 (whole b at) (cond x (last_fault b at) body)) k)

  -- reading refuses the record, or it is the end
  abbrev pub RefusedOpen : ℕ → ℕ → Type 0
  RefusedOpen r f = (steps_on w b u st r at ≡ Faulty f r) ⊎ ((f ≡ 11) × (steps_on w b u st r at ≡ Done u st r))

  pub refused_open : (r : ℕ) → next b at ≤ length b → (f : ℕ) → f ≡ open_number → (f ≡ 0 → ⊥) → RefusedOpen r f
  unfolding fault
  refused_open r h f e n = by_kind (eqb (kind b at) 8) refl
    where
      there : whole b at ≡ true
      there = le-leb (next b at) (length b) h

      -- an end, by its place and its form
      by_form : (x y : Bool) → eqb (kind b at) 8 ≡ true → eqb (next b at) (length b) ≡ x → eqb (size b at) 0 ≡ y → RefusedOpen r f
      by_form true true k p q = inr (e ∙ rw (there, k, p, q), steps_done w b u st r at (omega arith) (rw (there, k, p, q)) k)
      by_form true false k p q = inl (turn_faulty w b u st r at h f (e ∙ rw (there, k, p, q)) n)
      by_form false y k p q = inl (turn_faulty w b u st r at h f (e ∙ rw (there, k, p)) n)

      by_kind : (x : Bool) → eqb (kind b at) 8 ≡ x → RefusedOpen r f
      by_kind false k = inl (turn_faulty w b u st r at h f (e ∙ no_end k) n)
      by_kind true k = by_form (eqb (next b at) (length b)) (eqb (size b at) 0) k refl refl
