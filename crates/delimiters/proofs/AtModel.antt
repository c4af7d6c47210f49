-- The model's record, with a body of m bytes, and the end after it, by the numbers that were found there, whatever the method.
use Prim.Native.Nat.{ℕ, suc, ◌+◌, ◌≤◌}
use native.Mathlib.Numerals.{add-one}
use mathlib.Core.Path.{◌≡◌, sym, ◌∙◌, ap}
use mathlib.Core.List.{List}
use lib.ListN.{length}
use lib.IntN.{ℤ}
use Rattle.calculus.specs.Facts.{Question}
use Rattle.format.specs.Records.{kind, size, next}
use Rattle.format.specs.Reading.{taking, modelled, Method, model_at, model_fault, Ticket, Faulty, Done, steps_on}
use Rattle.delimiters.specs.Numbers.{end_fault}
use Rattle.format.proofs.StepTurns.{nonzero}
use Rattle.delimiters.proofs.Ends.{model_refused, model_taken, modelled_refused, modelled_done}

module _ {B C : Type 0} (w : Method B C) (b : List ℕ) (u : Question) (br : B) (r at m : ℕ)
    (em : m ≡ size b at) (k : kind b at ≡ 7) (h : next b at ≤ length b) where
  abbrev from_here : Ticket B C
  from_here = steps_on w b u (taking br) r at

  abbrev model : List ℤ
  model = model_at b u (at + 6)

  abbrev number_of : ℕ → ℕ
  number_of m = model_fault b u (w.leaf_fault br model) (at + 6) m

  pub unsettled : (f : ℕ) → f ≡ number_of m → (f ≡ 0 → ⊥) → from_here ≡ Faulty f r
  unsettled f e n = nonzero (model_refused w b u br r at k h) f (e ∙ ap number_of em) n

  module _ (e : number_of m ≡ 0) where
    onward : from_here ≡ steps_on w b u (modelled br model) (suc r) (at + 6 + m)
    onward =
        model_taken w b u br r at k h (sym (ap number_of em) ∙ e) ∙ ap (λ x. steps_on w b u (modelled br model) (suc r) (at + 6 + x)) (sym em)

    pub unended : (c : ℕ) → c ≡ end_fault b (at + 6 + m) → (c ≡ 0 → ⊥) → from_here ≡ Faulty c (r + 1)
    unended c f n =
        onward ∙ nonzero (modelled_refused w b u (suc r) (at + 6 + m) br model) c f n ∙ ap (Faulty c) (sym (add-one r))

    pub ended : end_fault b (at + 6 + m) ≡ 0 → from_here ≡ Done u (modelled br model) (suc r)
    ended f = onward ∙ modelled_done w b u (suc r) (at + 6 + m) br model f
