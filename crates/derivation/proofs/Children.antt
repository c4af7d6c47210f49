-- The children of a step that splits a branch: each is there and within the limits.
use Prim.Native.Nat.{ℕ, zero, suc, ◌+◌, ◌≤◌, ◌<◌}
use native.Mathlib.Omega.{arith}
use mathlib.Core.Path.{◌≡◌, refl, sym, ◌∙◌, ap, ap₂}
use mathlib.Core.Bool.{Bool, true}
use mathlib.Core.Option.{some}
use mathlib.Core.List.{List, [], ◌∷◌}
use lib.ListN.{length, drop}
use borrow.Author.Tests.{leb-true, le-leb}
use Rattle.lists.proofs.Options.{none_some}
use Rattle.lists.proofs.Every.{every_at}
use Rattle.calculus.specs.Limits.{fact_limit}
use Rattle.calculus.specs.Facts.{Question, Fact, Branch}
use Rattle.calculus.specs.Children.{child_at}
use Rattle.format.specs.Records.{need}
use Rattle.format.specs.Checking.{or_none, facts_within, children_within, room, room_for_all, child_in, taken_tried}
use Rattle.steps.proofs.Offered.{child_there, fitted, child_in_within}
use Rattle.derivation.specs.State.{offered_in, children_on, child_on}
use Rattle.derivation.specs.Ok.{Splits}

-- ---- child k of a list, from 1

-- the next child, and those after it
pub next_child : {A : Type 0} (cs : List (List A)) (k : ℕ) → k < length cs → drop k cs ≡ or_none (child_at cs (suc k)) ∷ drop (suc k) cs
next_child [] k h = absurd (omega arith)
next_child (c ∷ cs) zero h = refl
next_child (c ∷ cs) (suc k) h = next_child cs k (omega arith)

-- one of those that all find room
room_at : (m : ℕ) (cs : List (List Fact)) (k : ℕ) (c : List Fact) → room_for_all m cs ≡ true → child_at cs k ≡ some c → room m c ≡ true
unfolding room_for_all
room_at m cs zero c e h = absurd (none_some h)
room_at m cs (suc j) c e h = every_at (room m) cs j c e h

-- ---- the children of a split

module _ {b : List ℕ} {u : Question} {br : Branch} {at n : ℕ} (sp : Splits b u br at n) where
  pub its_all : children_on b u br at ≡ sp.its_children
  its_all = ap or_none sp.fit

  pub child_of : (k : ℕ) → child_on b u br at k ≡ or_none (child_at sp.its_children k)
  child_of k = ap (λ o. or_none (child_in o k)) sp.fit

  child_at_law : (k : ℕ) → 1 ≤ k → k ≤ n → child_at sp.its_children k ≡ some (child_on b u br at k)
  child_at_law k l h = fitted (child_at sp.its_children k) (child_there sp.its_children k l (omega (arith, sp.number))) ∙ ap some (sym (child_of k))

  -- child k is there
  pub taken_there : (k : ℕ) → 1 ≤ k → k ≤ n → child_in (offered_in b u br at) k ≡ some (child_on b u br at k)
  taken_there k l h = ap (λ o. child_in o k) sp.fit ∙ child_at_law k l h

  -- its numbers are within the limit, and it finds room
  pub child_within : (k : ℕ) → facts_within (child_on b u br at k) ≡ true
  child_within k = child_in_within (offered_in b u br at) k (ap children_within its_all ∙ sp.within)

  pub child_room : (k : ℕ) → 1 ≤ k → k ≤ n → length br + length (child_on b u br at k) ≤ fact_limit
  child_room k l h = leb-true _ fact_limit (room_at (length br) sp.its_children k (child_on b u br at k) sp.room (child_at_law k l h))

  -- so none of the numbers 8 to 10 applies to it
  pub none_of_these : (k : ℕ) → 1 ≤ k → k ≤ n → taken_tried br (child_in (offered_in b u br at) k) ≡ 0
  none_of_these k l h =
      ap (taken_tried br) (taken_there k l h)
      ∙ ap₂ (λ (t r : Bool). need 9 t (need 10 r 0)) (child_within k) (le-leb (length br + length (child_on b u br at k)) fact_limit (child_room k l h))
