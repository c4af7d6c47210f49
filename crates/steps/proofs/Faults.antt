-- The numbers 5 and 6 of a step's body, and what comes after them.
use Prim.Native.Nat.{ℕ, ◌+◌, ◌≤◌}
use native.Mathlib.Omega.{arith}
use mathlib.Core.Path.{◌≡◌, refl, sym, ◌∙◌, ap, ap₂}
use mathlib.Core.Bool.{Bool, true, false, ◌&&◌}
use mathlib.Core.List.{List}
use lib.ListN.{length}
use Rattle.calculus.specs.Facts.{Question, column_count}
use Rattle.format.specs.Records.{need}
use Rattle.format.specs.StepForms.{rule, length_fits, operands_in_range}
use Rattle.format.specs.Reading.{step_fault}
use Rattle.steps.specs.Forms.{Formed}

-- ---- chains of two tests

chain_all : (x y ok : Bool) (f : ℕ) → f ≡ need 5 x (need 6 (y && true) 0) → (f ≡ 0 → ⊥) → (later : ℕ) → f ≡ need 5 x (need 6 (y && ok) later)
chain_all true true ok f e n later = absurd (n e)
chain_all true false ok f e n later = e
chain_all false y ok f e n later = e

chain_later : (x y : Bool) (f : ℕ) → f ≡ need 5 x (need 6 y 0) → (f ≡ 0 → ⊥) → (later : ℕ) → f ≡ need 5 x (need 6 y later)
chain_later true true f e n later = absurd (n e)
chain_later true false f e n later = e
chain_later false y f e n later = e

chain_none : (x y ok : Bool) → 0 ≡ need 5 x (need 6 (y && ok) 0) → (x ≡ true) × (y ≡ true) × (ok ≡ true)
chain_none true true true e = (refl, refl, refl)
chain_none true true false e = absurd (omega arith)
chain_none true false ok e = absurd (omega arith)
chain_none false y ok e = absurd (omega arith)

-- ---- the body of m bytes at a position

module _ (b : List ℕ) (u : Question) (ok : Bool) (body m : ℕ) where
  abbrev in_range : Bool
  in_range = operands_in_range b u.p (column_count u) (rule b body) body m

  pub by_operands : (y : Bool) → length_fits b body m ≡ true → in_range ≡ y → need 6 (y && ok) 0 ≡ step_fault b u ok 0 body m
  by_operands y e f = ap₂ (λ s t. need 5 s (need 6 (t && ok) 0)) (sym e) (sym f)

  pub by_child : (k : Bool) → 0 ≡ step_fault b u true 0 body m → ok ≡ k → need 6 k 0 ≡ step_fault b u ok 0 body m
  by_child k e f =
      let (l, r, _) = chain_none (length_fits b body m) in_range true e in
      ap (λ t. need 6 t 0) (sym f) ∙ by_operands true l r

  pub ill_formed : length_fits b body m ≡ false → 5 ≡ step_fault b u ok 0 body m
  ill_formed e = ap (λ s. need 5 s (need 6 (in_range && ok) 0)) (sym e)

  -- 5 or 6 but for the child
  pub out_of_form : (f : ℕ) → f ≡ step_fault b u true 0 body m → (f ≡ 0 → ⊥) → f ≡ step_fault b u ok 0 body m
  out_of_form f e n = chain_all (length_fits b body m) in_range ok f e n 0

  -- neither applies
  pub formed : body + m ≤ length b → 0 ≡ step_fault b u ok 0 body m → Formed b u body m
  formed h e = let (f, r, _) = chain_none (length_fits b body m) in_range ok e in record { within = h; fits = f; is_in_range = r }

  pub child_passed : 0 ≡ step_fault b u ok 0 body m → ok ≡ true
  child_passed e = let (_, _, k) = chain_none (length_fits b body m) in_range ok e in k

  -- ---- after 5 and 6

  pub applies : (f later : ℕ) → f ≡ step_fault b u ok 0 body m → (f ≡ 0 → ⊥) → f ≡ step_fault b u ok later body m
  applies f later e n = chain_later (length_fits b body m) (in_range && ok) f e n later

  pub neither_applies : (later : ℕ) → 0 ≡ step_fault b u ok 0 body m → later ≡ step_fault b u ok later body m
  neither_applies later e =
      let (f, r, k) = chain_none (length_fits b body m) in_range ok e in
      ap₂ (λ s t. need 5 s (need 6 t later)) (sym f) (sym (ap₂ ◌&&◌ r k))
