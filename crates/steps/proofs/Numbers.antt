-- The numbers of a whole record where a branch is open, from what its kind, its place and its form say, whatever the method.
use Prim.Native.Nat.{ℕ, ◌+◌, ◌≤◌}
use mathlib.Core.Path.{◌≡◌, refl, sym, ◌∙◌, ap, ap₂}
use mathlib.Core.Bool.{Bool, true, false, cond}
use mathlib.Core.List.{List}
use lib.ListN.{length}
use lib.Dec.{eqb}
use borrow.Author.Tests.{le-leb}
use Rattle.calculus.specs.Walk.{Waiting}
use Rattle.format.specs.Records.{size, kind, next, need}
use Rattle.format.specs.StepForms.{child_field, step_at}
use Rattle.format.specs.Reading.{Method, step_fault, fault}
use Rattle.records.specs.Found.{WholeRecord}
use Rattle.records.proofs.Finding.{all_there}
use Rattle.question.specs.declared.Progress.{Progress}
use Rattle.question.specs.Posed.{asked}
use Rattle.delimiters.specs.declared.Claim.{Claim}
use Rattle.delimiters.specs.declared.Claim.TheVariants.{NoSolution, Strings}
use Rattle.delimiters.specs.Claims.{open_under, ends_at}
use Rattle.delimiters.specs.Numbers.{end_form, open_fault}
use Rattle.delimiters.proofs.Open.{open_form, open_step, at_step, open_number, no_end}
use Rattle.steps.specs.Forms.{Formed}
use Rattle.steps.specs.Faults.{field_fits}
use Rattle.steps.proofs.Faults.{applies, neither_applies, formed, child_passed}

-- the number that a method has for taking the step of m bytes at a position, under a claim
abbrev pub tried_by : {B C : Type 0} → Method B C → Claim → List ℕ → B → List (Waiting B C) → ℕ → ℕ → ℕ
tried_by w NoSolution b br ss body m = w.split_fault br ss (step_at b body m)
tried_by w Strings b br ss body m = w.taken_fault br (step_at b body m) (child_field b body)

-- on the branch br, where the splits ss are pending under claim 1
module _ {B C : Type 0} (w : Method B C) (b : List ℕ) (s : Progress) (br : B) (ss : List (Waiting B C)) (at : ℕ) (claim : Claim) where
  abbrev its_fault : ℕ
  its_fault = open_number w b (asked b s) (open_under claim br ss) at

  -- the number of its form, then what is asked next
  abbrev form : ℕ → ℕ → ℕ
  form m later = step_fault b (asked b s) (field_fits claim b s.n (at + 6) m) later (at + 6) m

  abbrev tried : ℕ
  tried = tried_by w claim b br ss (at + 6) (size b at)

  no_model : (y : Bool) (step later : ℕ) → cond y step (need 4 false later) ≡ need 4 y step
  no_model true step later = refl
  no_model false step later = refl

  by_claim : ends_at claim (kind b at) ≡ false → next b at ≤ length b → its_fault ≡ open_fault (length b) (next b at) (kind b at) (size b at) (form (size b at) tried)
  unfolding asked
  by_claim e h = go claim e
    where
      go : (c : Claim) → ends_at c (kind b at) ≡ false
          → open_number w b (asked b s) (open_under c br ss) at
          ≡ open_fault (length b) (next b at) (kind b at) (size b at)
          (step_fault b (asked b s) (field_fits c b s.n (at + 6) (size b at)) (tried_by w c b br ss (at + 6) (size b at)) (at + 6) (size b at))
      go NoSolution e = rw (le-leb (next b at) (length b) h)
      go Strings e =
          rw (le-leb (next b at) (length b) h, e)
          (ap (λ f. cond (eqb (kind b at) 8) (end_form (length b) (next b at) (size b at) 11) f) (no_model (eqb (kind b at) 6) _ 0))

  -- a record of kind k with a body of m bytes
  module _ (k m : ℕ) (r : WholeRecord b at k m) (e : ends_at claim k ≡ false) where
    abbrev number : ℕ → ℕ
    number later = open_fault (length b) (at + 6 + m) k m (form m later)

    its_number : number tried ≡ its_fault
    its_number =
        ap₂ (λ (j n : ℕ). open_fault (length b) (at + 6 + n) j n (form n tried)) r.0 r.1
        ∙ sym (by_claim (ap (ends_at claim) (sym r.0) ∙ e) (all_there b at k m r))

    -- its place or its form is refused
    pub form_refused : (f : ℕ) → f ≡ number 0 → (f ≡ 0 → ⊥) → f ≡ its_fault
    form_refused f q n =
        open_form (eqb k 8) (eqb k 6) f _ _ _ q (λ g. applies b (asked b s) (field_fits claim b s.n (at + 6) m) (at + 6) m f tried g n)
        ∙ its_number

    -- neither is: a step
    module _ (z : 0 ≡ number 0) where
      step : k ≡ 6
      step = open_step (length b) (at + 6 + m) k m _ (sym z)

      pub its_kind : kind b at ≡ 6
      its_kind = sym r.0 ∙ step

      at_form : 0 ≡ form m 0
      at_form = z ∙ at_step (length b) (at + 6 + m) k m _ step

      pub its_form : Formed b (asked b s) (at + 6) m
      its_form = formed b (asked b s) (field_fits claim b s.n (at + 6) m) (at + 6) m r.2 at_form

      pub its_field : field_fits claim b s.n (at + 6) m ≡ true
      its_field = child_passed b (asked b s) (field_fits claim b s.n (at + 6) m) (at + 6) m at_form

      -- its number is then that of reading
      pub its_trial : tried ≡ fault w b (asked b s) (open_under claim br ss) at
      its_trial =
          neither_applies b (asked b s) (field_fits claim b s.n (at + 6) m) (at + 6) m tried at_form
          ∙ sym (at_step (length b) (at + 6 + m) k m _ step)
          ∙ its_number
          ∙ no_end w b (asked b s) (open_under claim br ss) at (ap (λ (j : ℕ). eqb j 8) its_kind)
