-- The tests for 8 to 10 and 12 to 14 give exactly the numbers that the words give.
use Prim.Native.Nat.{ℕ, ◌≤◌}
use native.Mathlib.Omega.{arith}
use mathlib.Core.Path.{◌≡◌, refl, sym, ◌∙◌, subst}
use mathlib.Core.Logic.{◌⊎◌, inl, inr}
use mathlib.Core.Bool.{Bool, true, false, ◌&&◌}
use mathlib.Core.Option.{Option, none, some}
use mathlib.Core.List.{List}
use lib.ListN.{length}
use lib.IntN.{ℤ}
use Rattle.lists.specs.Lists.{All}
use Rattle.lists.proofs.Options.{none_some}
use Rattle.calculus.specs.Facts.{Question, Fact, Branch}
use Rattle.calculus.specs.Steps.{Step}
use Rattle.calculus.specs.Rules.{children}
use Rattle.calculus.specs.Instances.{Instance, IsStep}
use Rattle.calculus.specs.Agreements.{BranchInRange}
use Rattle.calculus.specs.Derivations.{SmallFact, ChildLimits, SplitLimits, Takes}
use Rattle.calculus.specs.Settled.{MeetsArithmetic, Settled, ShortLengths}
use Rattle.calculus.specs.SettledTest.{settled}
use Rattle.calculus.proofs.Fits.{fits→instance, instance→fits}
use Rattle.calculus.proofs.Settled.{settled→words, words→settled}
use Rattle.calculus.proofs.Walks.{one_instance, one_child, child_taken, taken→takes, takes→taken}
use Rattle.format.specs.Records.{need}
use Rattle.format.specs.Checking.{facts_within, children_within, room, room_for_all, room_to_pend, all_tried, taken_tried, keeps, short_lengths, leaf_fault}
use Rattle.format.specs.Refusals.{SplitRefused, TakenRefused, LeafRefused, broken, unsettled, long}
use Rattle.format.specs.Refusals as refusals
use Rattle.format.specs.Agreements.{Gives, Agreements}
use Rattle.format.proofs.Faults.{none_applies, passed, not_both}
use Rattle.format.proofs.Limits.{facts_within_law, facts_within→, small_within, small_within→, limits→tried, limits→taken, tried→limits, taken→limits}
use Rattle.format.proofs.Leaves.{keeps→, →keeps, short_lengths→, →short_lengths}

-- ---- a number is given exactly when its words hold, where the words of the number given hold and no other words do

abbrev Found : ℕ → (ℕ → Type 0) → Type 0 → Type 0
Found n Refused Well = ((1 ≤ n) × Refused n) ⊎ ((n ≡ 0) × Well)

module _ (n : ℕ) (Refused : ℕ → Type 0) (Well : Type 0) (one : (c d : ℕ) → Refused c → Refused d → c ≡ d) (other : (c : ℕ) → Refused c → Well → ⊥) where
  found_gives : Found n Refused Well → Gives n Refused Well
  found_gives (inl (l, k)) = record {
    refused = λ c h. (λ e. subst Refused e k, one n c k);
    none = (λ e. absurd (omega arith), λ w. absurd (other n k w));
  }
  found_gives (inr (z, w)) = record {
    refused = λ c h. (λ e. absurd (omega arith), λ k. absurd (other c k w));
    none = (λ e. w, λ v. z);
  }

-- ---- 8 to 10

module _ (u : Question) (b : Branch) (pending : ℕ) (st : Step) (r : BranchInRange u b) (g : IsStep u st) where
  abbrev Fitted : Type 0
  Fitted = (cs : List (List Fact)) × Instance u b st cs × SplitLimits b pending cs

  one_way : (cs ds : List (List Fact)) → Instance u b st cs → Instance u b st ds → cs ≡ ds
  one_way cs ds i j = one_instance u r.head b st cs ds r.facts g i j

  all_small : (cs : List (List Fact)) → SplitLimits b pending cs → All (All SmallFact) cs
  all_small cs l = small_within→ cs (none_applies 8 (children_within cs) (need 10 (room_for_all (length b) cs && room_to_pend pending cs) 0) (limits→tried b pending cs l)).0

  split_one : (c d : ℕ) → SplitRefused u b pending st c → SplitRefused u b pending st d → c ≡ d
  split_one _ _ (refusals.unfit n) (refusals.unfit n') = refl
  split_one _ _ (refusals.unfit n) (refusals.number ds j s) = absurd (n ds j)
  split_one _ _ (refusals.unfit n) (refusals.room ds j s l) = absurd (n ds j)
  split_one _ _ (refusals.number cs i s) (refusals.unfit n) = absurd (n cs i)
  split_one _ _ (refusals.number cs i s) (refusals.number ds j s') = refl
  split_one _ _ (refusals.number cs i s) (refusals.room ds j s' l) = absurd (s (subst (All (All SmallFact)) (one_way ds cs j i) s'))
  split_one _ _ (refusals.room cs i s l) (refusals.unfit n) = absurd (n cs i)
  split_one _ _ (refusals.room cs i s l) (refusals.number ds j s') = absurd (s' (subst (All (All SmallFact)) (one_way cs ds i j) s))
  split_one _ _ (refusals.room cs i s l) (refusals.room ds j s' l') = refl

  split_other : (c : ℕ) → SplitRefused u b pending st c → Fitted → ⊥
  split_other _ (refusals.unfit n) (ds, j, w) = n ds j
  split_other _ (refusals.number cs i s) (ds, j, w) = s (subst (All (All SmallFact)) (one_way ds cs j i) (all_small ds w))
  split_other _ (refusals.room cs i s l) (ds, j, w) = l (subst (SplitLimits b pending) (one_way ds cs j i) w)

  split_found : Found (all_tried b pending (children u b st)) (SplitRefused u b pending st) Fitted
  split_found = go (children u b st) refl
    where
      limited : (cs : List (List Fact)) → Instance u b st cs → (x y : Bool) → children_within cs ≡ x → (room_for_all (length b) cs && room_to_pend pending cs) ≡ y
          → Found (need 9 x (need 10 y 0)) (SplitRefused u b pending st) Fitted
      limited cs i false y p q = inl (omega arith, refusals.number cs i (λ s. not_both (children_within cs) (small_within cs s) p))
      limited cs i true false p q = inl (
        omega arith,
        refusals.room cs i (small_within→ cs p) (λ l.
            let roomy : Bool = room_for_all (length b) cs && room_to_pend pending cs in
            not_both roomy (none_applies 9 roomy 0 (none_applies 8 (children_within cs) (need 10 roomy 0) (limits→tried b pending cs l)).1).0 q),
      )
      limited cs i true true p q =
          let roomy : Bool = room_for_all (length b) cs && room_to_pend pending cs in
          inr (refl, (cs, i, tried→limits b pending cs (passed 9 (children_within cs) (need 10 roomy 0) p ∙ passed 10 roomy 0 q)))

      go : (o : Option (List (List Fact))) → children u b st ≡ o → Found (all_tried b pending o) (SplitRefused u b pending st) Fitted
      go none e = inl (omega arith, refusals.unfit (λ cs i. none_some (sym e ∙ instance→fits u r.head b r.facts st g i)))
      go (some cs) e = limited cs (fits→instance u r.head b r.facts st g e) (children_within cs) (room_for_all (length b) cs && room_to_pend pending cs) refl refl

  split_gives : Gives (all_tried b pending (children u b st)) (SplitRefused u b pending st) Fitted
  split_gives = found_gives (all_tried b pending (children u b st)) (SplitRefused u b pending st) Fitted split_one split_other split_found

module _ (u : Question) (b : Branch) (s : Step × ℕ) (r : BranchInRange u b) (g : IsStep u s.0) where
  abbrev ChildFitted : Type 0
  ChildFitted = (c : List Fact) × Takes u b s c × ChildLimits b c

  one : (c d : List Fact) → Takes u b s c → Takes u b s d → c ≡ d
  one c d i j = one_child u r.head b s c d r.facts g i j

  taken_one : (c d : ℕ) → TakenRefused u b s c → TakenRefused u b s d → c ≡ d
  taken_one _ _ (refusals.unfit n) (refusals.unfit n') = refl
  taken_one _ _ (refusals.unfit n) (refusals.number d j h) = absurd (n d j)
  taken_one _ _ (refusals.unfit n) (refusals.room d j h l) = absurd (n d j)
  taken_one _ _ (refusals.number c i h) (refusals.unfit n) = absurd (n c i)
  taken_one _ _ (refusals.number c i h) (refusals.number d j h') = refl
  taken_one _ _ (refusals.number c i h) (refusals.room d j h' l) = absurd (h (subst (All SmallFact) (one d c j i) h'))
  taken_one _ _ (refusals.room c i h l) (refusals.unfit n) = absurd (n c i)
  taken_one _ _ (refusals.room c i h l) (refusals.number d j h') = absurd (h' (subst (All SmallFact) (one c d i j) h))
  taken_one _ _ (refusals.room c i h l) (refusals.room d j h' l') = refl

  taken_other : (c : ℕ) → TakenRefused u b s c → ChildFitted → ⊥
  taken_other _ (refusals.unfit n) (d, j, w) = n d j
  taken_other _ (refusals.number c i h) (d, j, w) = h (subst (All SmallFact) (one d c j i) w.numbers)
  taken_other _ (refusals.room c i h l) (d, j, w) = l (subst (ChildLimits b) (one d c j i) w)

  taken_found : Found (taken_tried b (child_taken u b s)) (TakenRefused u b s) ChildFitted
  taken_found = go (child_taken u b s) refl
    where
      limited : (c : List Fact) → Takes u b s c → (x y : Bool) → facts_within c ≡ x → room (length b) c ≡ y
          → Found (need 9 x (need 10 y 0)) (TakenRefused u b s) ChildFitted
      limited c i false y p q = inl (omega arith, refusals.number c i (λ h. not_both (facts_within c) (facts_within_law c h) p))
      limited c i true false p q = inl (
        omega arith,
        refusals.room c i (facts_within→ c p) (λ l.
            let roomy : Bool = room (length b) c in
            not_both roomy (none_applies 9 roomy 0 (none_applies 8 (facts_within c) (need 10 roomy 0) (limits→taken b c l)).1).0 q),
      )
      limited c i true true p q =
          let roomy : Bool = room (length b) c in
          inr (refl, (c, i, taken→limits b c (passed 9 (facts_within c) (need 10 roomy 0) p ∙ passed 10 roomy 0 q)))

      go : (o : Option (List Fact)) → child_taken u b s ≡ o → Found (taken_tried b o) (TakenRefused u b s) ChildFitted
      go none e = inl (omega arith, refusals.unfit (λ c i. none_some (sym e ∙ takes→taken u r.head b s c r.facts g i)))
      go (some c) e = limited c (taken→takes u r.head b s c r.facts g e) (facts_within c) (room (length b) c) refl refl

  taken_gives : Gives (taken_tried b (child_taken u b s)) (TakenRefused u b s) ChildFitted
  taken_gives = found_gives (taken_tried b (child_taken u b s)) (TakenRefused u b s) ChildFitted taken_one taken_other taken_found

-- ---- 12 to 14

module _ (u : Question) (b : Branch) (m : List ℤ) (r : BranchInRange u b) where
  abbrev Accepted : Type 0
  Accepted = Settled u b m × All (MeetsArithmetic m) b × ShortLengths u m

  leaf_one : (c d : ℕ) → LeafRefused u b m c → LeafRefused u b m d → c ≡ d
  leaf_one _ _ (broken n) (broken n') = refl
  leaf_one _ _ (broken n) (unsettled k n') = absurd (n k)
  leaf_one _ _ (broken n) (long k h n') = absurd (n k)
  leaf_one _ _ (unsettled k n) (broken n') = absurd (n' k)
  leaf_one _ _ (unsettled k n) (unsettled k' n') = refl
  leaf_one _ _ (unsettled k n) (long k' h n') = absurd (n h)
  leaf_one _ _ (long k h n) (broken n') = absurd (n' k)
  leaf_one _ _ (long k h n) (unsettled k' n') = absurd (n' h)
  leaf_one _ _ (long k h n) (long k' h' n') = refl

  leaf_other : (c : ℕ) → LeafRefused u b m c → Accepted → ⊥
  leaf_other _ (broken n) (s, k, h) = n k
  leaf_other _ (unsettled k n) (s, k', h) = n s
  leaf_other _ (long k s n) (s', k', h) = n h

  leaf_found : Found (leaf_fault u b m) (LeafRefused u b m) (Accepted)
  leaf_found = go (keeps m b) (settled u b m) (short_lengths u m) refl refl refl
    where
      go : (x y z : Bool) → keeps m b ≡ x → settled u b m ≡ y → short_lengths u m ≡ z
          → Found (need 12 x (need 13 y (need 14 z 0))) (LeafRefused u b m) (Accepted)
      go false y z k s l = inl (omega arith, broken (λ h. not_both (keeps m b) (→keeps m b h) k))
      go true false z k s l = inl (omega arith, unsettled (keeps→ m b k) (λ h. not_both (settled u b m) (words→settled u r.head b r.facts m h) s))
      go true true false k s l =
          inl (omega arith, long (keeps→ m b k) (settled→words u r.head b r.facts m s) (λ g. not_both (short_lengths u m) (→short_lengths u m g) l))
      go true true true k s l = inr (refl, (settled→words u r.head b r.facts m s, keeps→ m b k, short_lengths→ u m l))

  leaf_gives : Gives (leaf_fault u b m) (LeafRefused u b m) (Accepted)
  leaf_gives = found_gives (leaf_fault u b m) (LeafRefused u b m) (Accepted) leaf_one leaf_other leaf_found

pub agreements : Agreements
agreements = record {
  splits = split_gives;
  taken = taken_gives;
  kept = λ m b. (keeps→ m b, →keeps m b);
  short = λ u m. (short_lengths→ u m, →short_lengths u m);
  leaves = leaf_gives;
}
