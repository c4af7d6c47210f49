-- Child k of a step, from 1: where there is one, how many facts it adds, and what holds of one that was tried.
use Prim.Native.Nat.{ℕ, zero, suc, ◌+◌, ◌-◌, ◌≤◌, ◌<◌}
use native.Mathlib.Omega.{arith}
use mathlib.Core.Path.{◌≡◌, refl, sym, ◌∙◌, ap, subst}
use mathlib.Core.Bool.{true, false}
use mathlib.Core.Option.{Option, none, some}
use mathlib.Core.List.{List, [], ◌∷◌, map}
use lib.ListN.{length, get_or, get_elem?, length-map}
use lib.IntN.{ℤ}
use borrow.Author.Tests.{leb-true}
use Rattle.lists.proofs.Lists.{get_d_map, down}
use Rattle.lists.proofs.Tests.{and_both}
use Rattle.calculus.specs.Limits.{fact_limit}
use Rattle.calculus.specs.Facts.{Question, Fact, Branch}
use Rattle.calculus.specs.Children.{child_at}
use Rattle.calculus.specs.Steps.{shape}
use Rattle.calculus.specs.Rules.{children}
use Rattle.calculus.proofs.Shapes.{children_shape}
use Rattle.format.specs.Records.{need}
use Rattle.format.specs.StepForms.{Rule, rule, step_of, step_at}
use Rattle.format.specs.Checking.{fits, or_none, facts_within, children_within, room, taken_tried, child_in}
use Rattle.format.proofs.Faults.{none_applies, not_both}
use Rattle.question.specs.declared.Progress.{Progress}
use Rattle.question.specs.Posed.{asked}
use Rattle.steps.specs.Offered.{offered}
use Rattle.steps.specs.Ready.{Ready}
use Rattle.steps.proofs.Bodies.{before, given}

-- ---- child k of a list

there : {A : Type 0} (cs : List A) (j : ℕ) → j < length cs → fits (get_elem? cs j) ≡ true
there [] j h = absurd (omega arith)
there (c ∷ cs) zero h = refl
there (c ∷ cs) (suc j) h = there cs j (omega arith)

below : {A : Type 0} (cs : List A) (j : ℕ) → fits (get_elem? cs j) ≡ true → j < length cs
below [] j e = absurd (not_both false e refl)
below (c ∷ cs) zero e = omega arith
below (c ∷ cs) (suc j) e = omega (arith, below cs j e)

element : {A : Type 0} (cs : List (List A)) (j : ℕ) → or_none (get_elem? cs j) ≡ get_or cs j []
element [] j = refl
element (c ∷ cs) zero = refl
element (c ∷ cs) (suc j) = element cs j

pub child_there : {A : Type 0} (cs : List A) (k : ℕ) → 1 ≤ k → k ≤ length cs → fits (child_at cs k) ≡ true
child_there cs zero l h = absurd (omega arith)
child_there cs (suc j) l h = there cs j (omega arith)

pub child_number : {A : Type 0} (cs : List A) (k : ℕ) → fits (child_at cs k) ≡ true → (1 ≤ k) × (k ≤ length cs)
child_number cs zero e = absurd (not_both false e refl)
child_number cs (suc j) e = let l = below cs j e in (omega arith, omega arith)

pub child_at_law : {A : Type 0} (cs : List (List A)) (k : ℕ) → 1 ≤ k → or_none (child_at cs k) ≡ get_or cs (k - 1) []
child_at_law cs zero h = absurd (omega arith)
child_at_law cs (suc j) h = element cs j ∙ ap (λ i. get_or cs i []) (sym (down j))

-- ---- of a step's children

pub fitted : {A : Type 0} (o : Option (List A)) → fits o ≡ true → o ≡ some (or_none o)
fitted none e = absurd (not_both false e refl)
fitted (some a) e = refl

-- a step that does not fit has none
pub none_there : (o : Option (List (List Fact))) (k : ℕ) → fits o ≡ false → fits (child_in o k) ≡ false
none_there none k e = refl
none_there (some cs) k e = absurd (not_both true refl e)

pub child_in_there : (o : Option (List (List Fact))) (k : ℕ) → fits o ≡ true → 1 ≤ k → k ≤ length (or_none o) → fits (child_in o k) ≡ true
child_in_there none k f l h = absurd (not_both false f refl)
child_in_there (some cs) k f l h = child_there cs k l h

module _ (o : Option (List (List Fact))) (k : ℕ) (e : fits (child_in o k) ≡ true) where
  pub step_fits : fits o ≡ true
  step_fits = go o e
    where
      go : (o : Option (List (List Fact))) → fits (child_in o k) ≡ true → fits o ≡ true
      go none e = absurd (not_both false e refl)
      go (some cs) e = refl

  pub number_of : (cs : List (List Fact)) → o ≡ some cs → (1 ≤ k) × (k ≤ length cs)
  number_of cs q = child_number cs k (subst (λ (p : Option (List (List Fact))). fits (child_in p k) ≡ true) q e)

  -- its number and how many facts it adds, by the step's shape
  pub in_shape : (sh : List ℕ) → map length (or_none o) ≡ sh → (1 ≤ k) × (k ≤ length sh)
  in_shape sh q = let (l, h) = number_of (or_none o) (fitted o step_fits) in (l, omega (arith, length-map (or_none o) length, ap length q))

  pub child_size : (sh : List ℕ) → map length (or_none o) ≡ sh → get_or sh (k - 1) 0 ≡ length (or_none (child_in o k))
  child_size sh q =
      let cs : List (List Fact) = or_none o in
      let its = fitted o step_fits in
      let (l, h) = number_of cs its in
      ap (λ (s : List ℕ). get_or s (k - 1) 0) (sym q)
      ∙ get_d_map length cs (k - 1) [] 0 (omega arith)
      ∙ sym (ap length (child_at_law cs k l))
      ∙ sym (ap (λ (p : Option (List (List Fact))). length (or_none (child_in p k))) its)

-- what holds of the numbers of all holds of its own
pub child_in_within : (o : Option (List (List Fact))) (k : ℕ) → children_within (or_none o) ≡ true → facts_within (or_none (child_in o k)) ≡ true
unfolding children_within facts_within
child_in_within none k e = refl
child_in_within (some cs) zero e = refl
child_in_within (some []) (suc j) e = refl
child_in_within (some (c ∷ cs)) (suc zero) e = (and_both (facts_within c) (children_within cs) e).0
child_in_within (some (c ∷ cs)) (suc (suc j)) e = child_in_within (some cs) (suc j) (and_both (facts_within c) (children_within cs) e).1

pub its_shape : {b : List ℕ} {s : Progress} {body m : ℕ} {w : List ℤ} {count : ℕ} (h : Ready b s body m w count)
    → fits (given h) ≡ true
    → map length (or_none (given h)) ≡ shape s.n (step_at b body m)
unfolding asked offered
its_shape {b} {s} {body} {m} h e = children_shape (asked b s) (before h) (step_at b body m) _ (fitted (given h) e)

-- by the rule
pub offered_by : (b : List ℕ) (u : Question) (br : Branch) (body m : ℕ) (r : Rule) → r ≡ rule b body → offered b u br body m ≡ children u br (step_of b r body m)
unfolding offered
offered_by b u br body m r e = ap (λ q. children u br (step_of b q body m)) (sym e)

-- ---- one to which none of 8 to 10 applies

module _ (br : Branch) (o : Option (List Fact)) (e : taken_tried br o ≡ 0) where
  behind_eight : (fits o ≡ true) × (need 9 (facts_within (or_none o)) (need 10 (room (length br) (or_none o)) 0) ≡ 0)
  behind_eight = none_applies 7 (fits o) _ e

  behind_nine : (facts_within (or_none o) ≡ true) × (need 10 (room (length br) (or_none o)) 0 ≡ 0)
  behind_nine = none_applies 8 (facts_within (or_none o)) _ behind_eight.1

  pub taken_fits : fits o ≡ true
  taken_fits = behind_eight.0

  pub taken_within : facts_within (or_none o) ≡ true
  taken_within = behind_nine.0

  pub taken_room : length br + length (or_none o) ≤ fact_limit
  taken_room = leb-true _ fact_limit (none_applies 9 (room (length br) (or_none o)) 0 behind_nine.1).0
