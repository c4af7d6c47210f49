-- Bodies of rules with one conclusion: their lengths and the ranges of their operands.
use Prim.Native.Nat.{ℕ, ◌+◌, ◌-◌, ◌/◌, ◌%◌, ◌<◌, ◌≤◌}
use mathlib.Core.Path.{◌≡◌}
use mathlib.Core.Bool.{true}
use mathlib.Core.List.{List, [], ◌∷◌}
use lib.IntN.{ℤ}
use lib.Dec.{leb, eqb}
use borrow.Author.Tests.{leb-true}
use Rattle.lists.proofs.Tests.{and_both}
use Rattle.format.specs.Fields.{u16, u32}
use Rattle.format.specs.StepForms.{sum, s_prop, form_for, fits_form, rule, sum_pairs, multipliers_within, operands_in_range}
use Rattle.format.proofs.Decoded.{below→}
use Rattle.question.specs.declared.Progress.{Progress}
use Rattle.steps.specs.Ready.{Ready}
use Rattle.steps.proofs.Bodies.{ranged}

-- Sum: "i32 divisor of at least 1, then 1 to 8 pairs (fact, i32 multiplier)"
pub record SumBody (b : List ℕ) (body m : ℕ) : Type 0 where
  pub some_pair : 14 ≤ m
  pub few_pairs : (m - 14) / 6 ≤ 7
  pub some_divisor : 1 ≤ u32 b (body + 4)
  pub small_divisor : u32 b (body + 4) ≤ 2147483647
  pub multipliers : multipliers_within (sum_pairs b body m) ≡ true

pub sum_body : (b : List ℕ) (body m p c : ℕ) → fits_form (form_for sum) m ≡ true → operands_in_range b p c sum body m ≡ true → SumBody b body m
unfolding operands_in_range
sum_body b body m p c f h =
    let (long, strides) = and_both (leb 14 m) _ f in
    let (least, rest) = and_both (leb 1 (u32 b (body + 4))) _ h in
    let (most, all) = and_both (leb (u32 b (body + 4)) 2147483647) _ rest in
    record {
      some_pair = leb-true 14 m long;
      few_pairs = leb-true ((m - 14) / 6) 7 (and_both (eqb ((m - 14) % 6) 0) _ strides).1;
      some_divisor = leb-true 1 (u32 b (body + 4)) least;
      small_divisor = leb-true (u32 b (body + 4)) 2147483647 most;
      multipliers = all;
    }

-- S-Prop: "function (0 len, 1 code), different variables x, y"
pub s_prop_variables : {b : List ℕ} {s : Progress} {body m : ℕ} {w : List ℤ} {count : ℕ}
    → Ready b s body m w count
    → s_prop ≡ rule b body
    → (u16 b (body + 6) < s.p) × (u16 b (body + 8) < s.p)
unfolding operands_in_range
s_prop_variables {b} {s} {body} h e =
    let (x, (y, _)) = below→ s.p (u16 b (body + 6) ∷ u16 b (body + 8) ∷ []) (and_both (leb (u16 b (body + 4)) 1) _ (ranged h s_prop e)).1 in
    (x, y)
