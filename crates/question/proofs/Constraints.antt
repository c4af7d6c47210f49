-- A constraint's body without fault, by the kind that the code has tested: its fields, and the fact that it states.
use Prim.Native.Nat.{ℕ, ◌+◌, ◌-◌, ◌/◌, ◌≤◌}
use native.Mathlib.Omega.{arith}
use mathlib.Core.Path.{◌≡◌}
use mathlib.Core.List.{List}
use Rattle.calculus.specs.Facts.{arithmetic}
use Rattle.format.specs.Fields.{u16}
use Rattle.format.specs.Question.{string_kind, arithmetic_kind, string_fact, form_of, relation_of, fact_fault, body_fact}
use Rattle.format.proofs.RecordFaults.{StringConstraint, ArithmeticConstraint, FactBody, on_strings, on_columns, fact_formed}

module _ (b : List ℕ) (p l c k at m : ℕ) (h : fact_fault b p l c k at m ≡ 0) where
  pub of_strings : k ≡ string_kind
      → StringConstraint p l m (u16 b at) (u16 b (at + 2)) (u16 b (at + 4)) × (body_fact b k at m ≡ string_fact (u16 b at) (u16 b (at + 2)) (u16 b (at + 4)))
  of_strings e = go (fact_formed b p l c k at m h)
    where
      go : FactBody b p l c k at m
          → StringConstraint p l m (u16 b at) (u16 b (at + 2)) (u16 b (at + 4))
          × (body_fact b k at m ≡ string_fact (u16 b at) (u16 b (at + 2)) (u16 b (at + 4)))
      go (on_strings f s i) = (s, i)
      go (on_columns f s i) = absurd (omega arith)

  pub of_columns : k ≡ arithmetic_kind
      → ArithmeticConstraint b c at m × (body_fact b k at m ≡ arithmetic (relation_of (u16 b at)) (form_of b (at + 2) (m / 6 - 1)))
  of_columns e = go (fact_formed b p l c k at m h)
    where
      go : FactBody b p l c k at m
          → ArithmeticConstraint b c at m × (body_fact b k at m ≡ arithmetic (relation_of (u16 b at)) (form_of b (at + 2) (m / 6 - 1)))
      go (on_strings f s i) = absurd (omega arith)
      go (on_columns f s i) = (s, i)

  -- no other kind is a constraint's
  pub of_none : (k ≡ string_kind → ⊥) → (k ≡ arithmetic_kind → ⊥) → ⊥
  of_none x y = go (fact_formed b p l c k at m h)
    where
      go : FactBody b p l c k at m → ⊥
      go (on_strings f s i) = x f
      go (on_columns f s i) = y f

  -- every kind has six bytes at least
  pub six_bytes : 6 ≤ m
  six_bytes = go (fact_formed b p l c k at m h)
    where
      go : FactBody b p l c k at m → 6 ≤ m
      go (on_strings f s i) = omega (arith, s.six)
      go (on_columns f s i) = s.at_least
