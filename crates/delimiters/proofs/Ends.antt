-- The model's record and the end, whatever the method.
use Prim.Native.Nat.{ℕ, suc, ◌+◌, ◌≤◌, ◌<◌}
use native.Mathlib.Omega.{arith}
use mathlib.Core.Path.{◌≡◌, refl, sym, ◌∙◌, ap}
use mathlib.Core.Bool.{Bool, true, false, cond}
use mathlib.Core.List.{List}
use lib.ListN.{length}
use lib.Dec.{leb, eqb}
use lib.IntN.{ℤ}
use borrow.Author.Tests.{leb-true, leb-false, le-leb, lt-leb}
use Rattle.calculus.specs.Facts.{Question}
use Rattle.calculus.specs.Walk.{closed}
use Rattle.format.specs.Records.{size, kind, next, whole, need}
use Rattle.format.specs.Reading.{State, proving, taking, modelled, Method, model_at, model_fault}
use Rattle.format.specs.Reading.{last_fault, body_fault, fault, advanced, Faulty, Done, steps_on}
use Rattle.format.proofs.Faults.{none_applies}
use Rattle.format.proofs.StepTurns.{steps_none, steps_faulty, steps_done, steps_more}
use Rattle.records.specs.Found.{found_at}
use Rattle.records.specs.declared.Found.{Found}
use Rattle.records.specs.declared.Found.TheVariants.{Whole, Cut, Nothing}
use Rattle.records.proofs.Finding.{found_nothing, found_cut}
use Rattle.delimiters.specs.Numbers.{end_form, end_fault}

-- ---- what stands at a position is no whole record

pub cut_off : (b : List ℕ) (at : ℕ) (f : Found) → f ≡ found_at b at → ((k m : ℕ) → f ≡ Whole k m → ⊥) → length b < next b at
cut_off b at (Whole k m) e other = absurd (other k m refl)
cut_off b at (Cut k) e other = (found_cut b at k (sym e)).2
cut_off b at Nothing e other = omega (arith, found_nothing b at (sym e))

-- ---- the model's record, whole

module _ {B C : Type 0} (w : Method B C) (b : List ℕ) (u : Question) (br : B) (r at : ℕ) (k : kind b at ≡ 7) (h : next b at ≤ length b) where
  abbrev its_fault : ℕ
  its_fault = model_fault b u (w.leaf_fault br (model_at b u (at + 6))) (at + 6) (size b at)

  by_model : fault w b u (taking br) at ≡ its_fault
  unfolding fault
  by_model =
      rw (le-leb (next b at) (length b) h)
      (ap (λ j. cond (eqb j 8) (last_fault b at) (body_fault w b u (taking br) j (at + 6) (size b at))) k)

  on_model : advanced w b u (taking br) at ≡ modelled br (model_at b u (at + 6))
  unfolding advanced
  on_model = rw k

  pub model_refused : (c : ℕ) → its_fault ≡ suc c → steps_on w b u (taking br) r at ≡ Faulty (suc c) r
  model_refused c e = steps_faulty w b u (taking br) r at c (omega arith) (by_model ∙ e)

  pub model_taken : its_fault ≡ 0 → steps_on w b u (taking br) r at ≡ steps_on w b u (modelled br (model_at b u (at + 6))) (suc r) (next b at)
  model_taken e =
      steps_more w b u (taking br) r at (omega arith) (by_model ∙ e) (ap (λ j. eqb j 8) k)
      ∙ ap (λ (st : State B C). steps_on w b u st (suc r) (next b at)) on_model

-- ---- the record that must be the end

must_end : (x : Bool) (last : ℕ) → cond x last 4 ≡ need 4 x last
must_end true last = refl
must_end false last = refl

-- a state with nothing left to read but the end
module _ {B C : Type 0} (w : Method B C) (b : List ℕ) (u : Question) (st : State B C) (r at : ℕ) (same : fault w b u st at ≡ end_fault b at) where
  end_refused : (c : ℕ) → end_fault b at ≡ suc c → steps_on w b u st r at ≡ Faulty (suc c) r
  unfolding end_fault
  end_refused c e = go (leb (at + 6) (length b)) refl
    where
      go : (t : Bool) → leb (at + 6) (length b) ≡ t → steps_on w b u st r at ≡ Faulty (suc c) r
      go true h = steps_faulty w b u st r at c (leb-true _ _ h) (same ∙ e)
      go false h =
          let short : length b < at + 6 = leb-false _ _ h in
          let three : 3 ≡ suc c = sym (rw (lt-leb (next b at) (length b) (omega arith))) ∙ e in
          steps_none w b u st r at short ∙ ap (λ n. Faulty n r) three

  end_done : end_fault b at ≡ 0 → steps_on w b u st r at ≡ Done u st r
  unfolding end_fault
  end_done e =
      let a3 = none_applies 2 (whole b at) (need 4 (eqb (kind b at) 8) (end_form (length b) (next b at) (size b at) 0)) e in
      let h : next b at ≤ length b = leb-true _ _ a3.0 in
      steps_done w b u st r at (omega arith) (same ∙ e) (none_applies 3 (eqb (kind b at) 8) _ a3.1).0

module _ {B C : Type 0} (w : Method B C) (b : List ℕ) (u : Question) (r at : ℕ) where
  at_end : (st : State B C) → body_fault w b u st (kind b at) (at + 6) (size b at) ≡ 4 → fault w b u st at ≡ end_fault b at
  unfolding fault end_fault
  at_end st four =
      ap (λ f. need 3 (whole b at) (cond (eqb (kind b at) 8) (last_fault b at) f)) four
      ∙ ap (need 3 (whole b at)) (must_end (eqb (kind b at) 8) (last_fault b at))

  -- claim 1: every branch is closed
  pub closed_refused : (c : ℕ) → end_fault b at ≡ suc c → steps_on w b u (proving closed) r at ≡ Faulty (suc c) r
  closed_refused c e = end_refused w b u (proving closed) r at (at_end (proving closed) refl) c e

  pub closed_done : end_fault b at ≡ 0 → steps_on w b u (proving closed) r at ≡ Done u (proving closed) r
  closed_done e = end_done w b u (proving closed) r at (at_end (proving closed) refl) e

  -- claim 2: after the model
  module _ (br : B) (m : List ℤ) where
    pub modelled_refused : (c : ℕ) → end_fault b at ≡ suc c → steps_on w b u (modelled br m) r at ≡ Faulty (suc c) r
    modelled_refused c e = end_refused w b u (modelled br m) r at (at_end (modelled br m) refl) c e

    pub modelled_done : end_fault b at ≡ 0 → steps_on w b u (modelled br m) r at ≡ Done u (modelled br m) r
    modelled_done e = end_done w b u (modelled br m) r at (at_end (modelled br m) refl) e
