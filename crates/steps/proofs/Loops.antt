-- A chain over a step's operands tests each of those that stand one after another.
use Prim.Native.Nat.{ℕ, ◌+◌}
use mathlib.Core.Path.{◌≡◌}
use mathlib.Core.List.{List, [], ◌∷◌}
use native.Mathlib.Omega.{arith}
use lib.Dec.{ltb}
use Rattle.std.specs.List.{list_all}
use Rattle.lists.proofs.Library.{list_all_is}
use Rattle.calculus.specs.Limits.{number_limit}
use Rattle.format.specs.Fields.{fields, u16, u16s, pair_at, pairs_at, within}
use Rattle.format.specs.StepForms.{multipliers_within, are_variables}

pub multipliers_are : (b : List ℕ) (at n : ℕ) → list_all (λ t. within number_limit t.1) (fields 6 (pair_at b) at n) ≡ multipliers_within (pairs_at b at n)
unfolding multipliers_within pairs_at
multipliers_are b at n = list_all_is (λ t. within number_limit t.1) (fields 6 (pair_at b) at n)

pub variables_are : (b : List ℕ) (p at n : ℕ) → list_all (λ x. ltb x p) (fields 2 (u16 b) at n) ≡ are_variables p (u16s b at n)
unfolding u16s
variables_are b p at n = list_all_is (λ x. ltb x p) (fields 2 (u16 b) at n)

-- two variables
pub two_variables : (b : List ℕ) (at k : ℕ) → u16s b (at + k) 2 ≡ u16 b (at + k) ∷ u16 b (at + (k + 2)) ∷ []
unfolding u16s
two_variables b at k = let e : at + k + 2 ≡ at + (k + 2) = omega arith in rw e
