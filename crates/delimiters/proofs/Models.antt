-- The tests of a model's record, with a body of m bytes at a position.
use Prim.Native.Nat.{ℕ, ◌*◌}
use mathlib.Core.Path.{◌≡◌, sym, ◌∙◌, ap}
use mathlib.Core.Bool.{Bool, true, false}
use mathlib.Core.List.{List}
use lib.Dec.{eqb}
use borrow.Author.Tests.{eqb-true}
use Rattle.calculus.specs.Limits.{value_limit}
use Rattle.calculus.specs.Facts.{Question, column_count}
use Rattle.format.specs.Records.{need}
use Rattle.format.specs.Reading.{model_at, model_fault}
use Rattle.format.specs.Fields.{all_within}
use Rattle.format.proofs.Faults.{none_applies}

module _ (b : List ℕ) (u : Question) (at m : ℕ) where
  pub model_tests : (later : ℕ) (t w : Bool) → eqb m (4 * column_count u) ≡ t → all_within value_limit (model_at b u at) ≡ w
      → need 5 t (need 6 w later) ≡ model_fault b u later at m
  model_tests later t w et ew =
      sym (ap (λ (x : Bool). need 5 x (need 6 (all_within value_limit (model_at b u at)) later)) et ∙ ap (λ (x : Bool). need 5 t (need 6 x later)) ew)

  -- 5 or 6 applies, whatever is asked next
  pub form_stands : (f later : ℕ) → f ≡ model_fault b u 0 at m → (f ≡ 0 → ⊥) → f ≡ model_fault b u later at m
  form_stands f later e n = go (eqb m (4 * column_count u)) (all_within value_limit (model_at b u at)) e
    where
      go : (t w : Bool) → f ≡ need 5 t (need 6 w 0) → f ≡ need 5 t (need 6 w later)
      go true true e = absurd (n e)
      go true false e = e
      go false w e = e

  -- neither does
  module _ (e : 0 ≡ model_fault b u 0 at m) where
    pub model_sized : m ≡ 4 * column_count u
    model_sized = eqb-true m (4 * column_count u) (none_applies 4 (eqb m (4 * column_count u)) (need 6 (all_within value_limit (model_at b u at)) 0) (sym e)).0

    pub model_within : all_within value_limit (model_at b u at) ≡ true
    model_within =
        (none_applies 5 (all_within value_limit (model_at b u at)) 0
        (none_applies 4 (eqb m (4 * column_count u)) (need 6 (all_within value_limit (model_at b u at)) 0) (sym e)).1
        ).0
