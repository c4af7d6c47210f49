-- A step whose length fits its form and whose fields are in their ranges is in range.
use Prim.Native.Nat.{ℕ, ◌+◌, ◌-◌, ◌/◌, ◌<◌, ◌≤◌}
use native.Mathlib.Omega.{arith}
use mathlib.Core.Path.{◌≡◌, sym, subst}
use mathlib.Core.Bool.{true, ◌&&◌}
use mathlib.Core.List.{List, [], ◌∷◌}
use lib.Dec.{ltb, leb}
use borrow.Author.Tests.{ltb-true, leb-true}
use Rattle.lists.proofs.Lists.{all_true→}
use Rattle.lists.specs.Lists.{All}
use Rattle.lists.proofs.Tests.{and_both}
use Rattle.calculus.specs.Facts.{Question, column_count}
use Rattle.calculus.specs.Instances.{IsStep}
use Rattle.format.specs.Fields.{u16, u32}
use Rattle.format.specs.StepForms.{Rule, sum, branch, apart, a_conf, s_conf, s_prop, l_intro, l_valid, c_collapse, c_valid, c_inj}
use Rattle.format.specs.StepForms.{card, join, unknown, Form, form_for, fits_form, rule, length_fits, sum_pairs}
use Rattle.format.specs.StepForms.{multipliers_within, pairs_in, card_variables, are_variables, operands_in_range, step_of, step_at}
use Rattle.format.proofs.Fields.{length_u16s, length_pairs, length_form}

pub below→ : (p : ℕ) (xs : List ℕ) → are_variables p xs ≡ true → All (λ x. x < p) xs
below→ p xs e = all_true→ (λ x. ltb x p) xs (λ x. ltb-true x p) e

pub at_least : (f : Form) (m : ℕ) → fits_form f m ≡ true → f.least ≤ m
at_least f m e = leb-true f.least m (and_both (leb f.least m) _ e).0

rule_in_range : (b : List ℕ) (u : Question) (r : Rule) (at m : ℕ)
    → fits_form (form_for r) m ≡ true
    → operands_in_range b u.p (column_count u) r at m ≡ true
    → IsStep u (step_of b r at m)
unfolding operands_in_range step_of IsStep
rule_in_range b u sum at m l e =
    let long : 14 ≤ m = at_least (form_for sum) m l in (
      leb-true 1 (u32 b (at + 4)) (and_both _ (leb (u32 b (at + 4)) 2147483647 && multipliers_within (sum_pairs b at m)) e).0,
      subst (λ k. 1 ≤ k) (sym (length_pairs b (at + 8) ((m - 8) / 6))) (omega arith),
    )
rule_in_range b u branch at m l e = length_form b (at + 4) (pairs_in m)
rule_in_range b u apart at m l e = tt
rule_in_range b u a_conf at m l e = tt
rule_in_range b u s_conf at m l e = tt
rule_in_range b u s_prop at m l e =
    let (x, y) = below→ u.p (u16 b (at + 6) ∷ u16 b (at + 8) ∷ []) (and_both (leb (u16 b (at + 4)) 1) _ e).1 in (x, y.0)
rule_in_range b u l_intro at m l e = (below→ u.p (u16 b (at + 4) ∷ []) e).0
rule_in_range b u l_valid at m l e = (below→ u.p (u16 b (at + 4) ∷ []) e).0
rule_in_range b u c_collapse at m l e = (below→ u.p (u16 b (at + 4) ∷ []) e).0
rule_in_range b u c_valid at m l e = (below→ u.p (u16 b (at + 4) ∷ []) e).0
rule_in_range b u c_inj at m l e = let (x, y) = below→ u.p (u16 b (at + 4) ∷ u16 b (at + 6) ∷ []) e in (x, y.0)
rule_in_range b u card at m l e =
    let long : 8 ≤ m = at_least (form_for card) m l in
    (below→ u.p (card_variables b at m) e, subst (λ k. 2 ≤ k) (sym (length_u16s b (at + 4) ((m - 4) / 2))) (omega arith))
rule_in_range b u join at m l e = tt
rule_in_range b u unknown at m l e = tt

pub step_in_range : (b : List ℕ) (u : Question) (at m : ℕ)
    → length_fits b at m ≡ true
    → operands_in_range b u.p (column_count u) (rule b at) at m ≡ true
    → IsStep u (step_at b at m)
step_in_range b u at m = rule_in_range b u (rule b at) at m
