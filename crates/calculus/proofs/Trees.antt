-- A branch that steps close is met by no assignment.
use mathlib.Core.Path.{subst}
use mathlib.Core.Logic.{inl, inr}
use mathlib.Core.List.{List, [], ◌∷◌}
use Rattle.lists.specs.Lists.{All, Distinct}
use Rattle.lists.proofs.Lists.{all_left, all_right, all_append}
use Rattle.calculus.specs.Facts.{Question, Fact, Branch}
use Rattle.calculus.specs.Steps.{Step}
use Rattle.calculus.specs.Instances.{IsStep}
use Rattle.calculus.specs.Derivations.{Closes, by, ClosesAll, none_left, child}
use Rattle.calculus.specs.Meaning.{Assignment, IsAssignment, Met, Meets}
use Rattle.calculus.proofs.Sound.{AnyMet, instance_sound}

module _ (u : Question) (d : Distinct ([] ∷ u.literals)) (a : Assignment) (f : IsAssignment u a) where
  mutual
    pub closes_sound : {b : Branch} {s : List Step} → Closes u b s → All (IsStep u) s → Met u a b → ⊥
    closes_sound (by {b = b} {st = st} {cs = cs} i k) (g, gs) m = all_sound k gs m (instance_sound u a f d b st cs g i m)

    all_sound : {b : Branch} {cs : List (List Fact)} {s : List Step} → ClosesAll u b cs s → All (IsStep u) s → Met u a b → AnyMet u a cs → ⊥
    all_sound none_left g m h = h
    all_sound (child {b = b} {c = c} {first = p} {others = q} e k ks) g m (inl h) =
        closes_sound k (all_left _ p q (subst (All (IsStep u)) e g)) (all_append (Meets u a) b c m h)
    all_sound (child {b = b} {c = c} {first = p} {others = q} e k ks) g m (inr h) = all_sound ks (all_right _ p q (subst (All (IsStep u)) e g)) m h
