-- Walking by what checking computes: the steps of claim 1 fit one after another and close every branch exactly when they are one closed tree; the children of
-- claim 2 are taken exactly when the path is proper.
use Prim.Native.Nat.{ℕ, zero, suc, ◌-◌}
use mathlib.Core.Path.{◌≡◌, refl, sym, ◌∙◌, subst}
use mathlib.Core.Option.{Option, some}
use mathlib.Core.List.{List, [], ◌∷◌, ◌++◌}
use lib.ListN.{get_elem?}
use Rattle.lists.specs.Lists.{All}
use Rattle.lists.proofs.Options.{some_injective, none_some}
use Rattle.lists.proofs.Lists.{all_map, all_append, all_left, all_at, down}
use Rattle.calculus.specs.Facts.{Question, Fact, Branch}
use Rattle.calculus.specs.Steps.{Step}
use Rattle.calculus.specs.Children.{child_at}
use Rattle.calculus.specs.Rules.{RuleSet, then, children}
use Rattle.calculus.specs.Instances.{Instance, IsStep}
use Rattle.calculus.specs.Walk.{Waiting, Walk, working, closed, enter}
use Rattle.calculus.specs.Derivations.{Closes, Leads, Takes, Path}
use Rattle.calculus.specs.Meaning.{Assignment, Met, Meets}
use Rattle.calculus.specs.InRange.{HeadInRange, FactsInRange}
use Rattle.calculus.proofs.Tests.{then→, →then}
use Rattle.calculus.proofs.Fits.{fits→instance, instance→fits}
use Rattle.calculus.proofs.Ranges.{children_in_range}
use Rattle.calculus.proofs.Everywhere.{Everywhere, enter_everywhere}
use Rattle.calculus.proofs.Leads.{Arrives, closed→walk, walk→closed, leads→walk, arrives_everywhere, arrives_as}

-- ---- claim 1

abbrev pub Pending : Type 0
Pending = List (Waiting Branch (List Fact))

abbrev pub State : Type 0
State = Walk Branch (List Fact)

-- the children of a step by a rule set
abbrev pub FitsBy : RuleSet → Question → Branch → Step → List (List Fact) → Type 0
FitsBy rules u b st cs = rules u b st ≡ some cs

-- the steps fit one after another, by a rule set, and with the last the last branch closes
abbrev pub WalkedBy : RuleSet → Question → State → List Step → Type 0
WalkedBy rules u k sts = Arrives (FitsBy rules u) ◌++◌ k sts closed

abbrev pub Walked : Question → State → List Step → Type 0
Walked = WalkedBy children

-- every branch of a state is in range
abbrev pub StateInRange : Question → State → Type 0
StateInRange u = Everywhere ◌++◌ (FactsInRange u)

module _ (u : Question) (w : HeadInRange u) where
  -- the branches that the children of a proper step begin
  pub children_kept : (b : Branch) (st : Step) (cs : List (List Fact)) → FactsInRange u b → IsStep u st → Instance u b st cs
      → All (λ c. FactsInRange u (b ++ c)) cs
  children_kept b st cs r g i = all_map cs (λ c. all_append _ b c r) (children_in_range u w b st cs r g i)

  pub step_in_range : (b : Branch) (st : Step) (cs : List (List Fact)) (ss : Pending) → StateInRange u (working b ss) → IsStep u st
      → Instance u b st cs
      → StateInRange u (enter ◌++◌ b cs ss)
  step_in_range b st cs ss (r, rs) g i = enter_everywhere ◌++◌ (FactsInRange u) b cs ss (children_kept b st cs r g i) rs

  -- a step fits in one way
  pub one_instance : (b : Branch) (st : Step) (cs ds : List (List Fact)) → FactsInRange u b → IsStep u st → Instance u b st cs → Instance u b st ds → cs ≡ ds
  one_instance b st cs ds r g i j = some_injective (sym (instance→fits u w b r st g i) ∙ instance→fits u w b r st g j)

  -- ---- walking by the children that checking computes is walking by proper steps

  pub fitting→proper : (k to : State) (sts : List Step) → StateInRange u k → All (IsStep u) sts
      → Arrives (FitsBy children u) ◌++◌ k sts to
      → Arrives (Instance u) ◌++◌ k sts to
  fitting→proper = arrives_as (FitsBy children u) (Instance u) ◌++◌ (FactsInRange u) (IsStep u)
      (λ b st cs r g e. children_kept b st cs r g (fits→instance u w b r st g e)) (λ b st cs r g e. fits→instance u w b r st g e)

  pub proper→fitting : (k to : State) (sts : List Step) → StateInRange u k → All (IsStep u) sts
      → Arrives (Instance u) ◌++◌ k sts to
      → Arrives (FitsBy children u) ◌++◌ k sts to
  proper→fitting = arrives_as (Instance u) (FitsBy children u) ◌++◌ (FactsInRange u) (IsStep u) children_kept (λ b st cs r g i. instance→fits u w b r st g i)

  -- ---- the steps of claim 1

  pub walked→closes : (b : Branch) (sts : List Step) → FactsInRange u b → All (IsStep u) sts → Walked u (working b []) sts → Closes u b sts
  walked→closes b sts r g h = walk→closed (Instance u) ◌++◌ b sts (fitting→proper (working b []) closed sts (r, tt) g h)

  pub closes→walked : (b : Branch) (sts : List Step) → FactsInRange u b → All (IsStep u) sts → Closes u b sts → Walked u (working b []) sts
  closes→walked b sts r g k = proper→fitting (working b []) closed sts (r, tt) g (closed→walk (Instance u) ◌++◌ b sts k)

  -- the branch that they lead to is in range
  pub led_in_range : (b leaf : Branch) (sts : List Step) (pending : ℕ) → FactsInRange u b → All (IsStep u) sts → Leads u b sts leaf pending → FactsInRange u leaf
  led_in_range b leaf sts pending r g l =
      let (ss, n, h) = leads→walk (Instance u) ◌++◌ b leaf sts pending l in
      (arrives_everywhere (Instance u) ◌++◌ (FactsInRange u) (IsStep u) children_kept (working b []) (working leaf ss) sts (r, tt) g h).0

-- ---- claim 2

-- the child number k of the step, from 1
abbrev pub child_taken_by : RuleSet → Question → Branch → Step × ℕ → Option (List Fact)
child_taken_by rules u b t = then (rules u b t.0) (λ cs. child_at cs t.1)

abbrev pub child_taken : Question → Branch → Step × ℕ → Option (List Fact)
child_taken = child_taken_by children

pub child_at_law : {A : Type 0} (cs : List A) (k : ℕ) {c : A} → child_at cs k ≡ some c → get_elem? cs (k - 1) ≡ some c
child_at_law cs zero e = absurd (none_some e)
child_at_law cs (suc k) e = rw (down k) e

-- the steps fit one after another, by a rule set, and with the children taken the branch becomes the leaf
unfoldable pub FollowedBy : RuleSet → Question → Branch → List (Step × ℕ) → Branch → Type 0
FollowedBy rules u b [] leaf = b ≡ leaf
FollowedBy rules u b (t ∷ ts) leaf = (c : List Fact) × (child_taken_by rules u b t ≡ some c) × FollowedBy rules u (b ++ c) ts leaf

abbrev pub Followed : Question → Branch → List (Step × ℕ) → Branch → Type 0
Followed = FollowedBy children

module _ (u : Question) (w : HeadInRange u) where
  pub taken_in_range : (b : Branch) (t : Step × ℕ) (c : List Fact) → FactsInRange u b → IsStep u t.0 → Takes u b t c → FactsInRange u (b ++ c)
  taken_in_range b t c r g k =
      all_append _ b c r (all_at (FactsInRange u) k.children (t.1 - 1) (children_in_range u w b t.0 k.children r g k.proper)
      (child_at_law k.children t.1 k.taken))

  pub taken→takes : (b : Branch) (t : Step × ℕ) (c : List Fact) → FactsInRange u b → IsStep u t.0 → child_taken u b t ≡ some c → Takes u b t c
  taken→takes b t c r g e =
      let (cs, o, h) = then→ (children u b t.0) (λ cs. child_at cs t.1) e in
      record { children = cs; proper = fits→instance u w b r t.0 g o; taken = h }

  pub takes→taken : (b : Branch) (t : Step × ℕ) (c : List Fact) → FactsInRange u b → IsStep u t.0 → Takes u b t c → child_taken u b t ≡ some c
  takes→taken b t c r g k = →then _ (instance→fits u w b r t.0 g k.proper) k.taken

  -- a step takes one child
  pub one_child : (b : Branch) (t : Step × ℕ) (c d : List Fact) → FactsInRange u b → IsStep u t.0 → Takes u b t c → Takes u b t d → c ≡ d
  one_child b t c d r g k j = some_injective (sym (takes→taken b t c r g k) ∙ takes→taken b t d r g j)

  pub followed→path : (ts : List (Step × ℕ)) (b leaf : Branch) → FactsInRange u b → All (λ t. IsStep u t.0) ts → Followed u b ts leaf → Path u b ts leaf
  unfolding FollowedBy Path
  followed→path [] b leaf r g h = h
  followed→path (t ∷ ts) b leaf r (g, gs) (c, e, h) =
      let k : Takes u b t c = taken→takes b t c r g e in
      (c, k, followed→path ts (b ++ c) leaf (taken_in_range b t c r g k) gs h)

  pub path→followed : (ts : List (Step × ℕ)) (b leaf : Branch) → FactsInRange u b → All (λ t. IsStep u t.0) ts → Path u b ts leaf → Followed u b ts leaf
  unfolding FollowedBy Path
  path→followed [] b leaf r g h = h
  path→followed (t ∷ ts) b leaf r (g, gs) (c, k, h) = (c, takes→taken b t c r g k, path→followed ts (b ++ c) leaf (taken_in_range b t c r g k) gs h)

  pub leaf_in_range : (ts : List (Step × ℕ)) (b leaf : Branch) → FactsInRange u b → All (λ t. IsStep u t.0) ts → Path u b ts leaf → FactsInRange u leaf
  unfolding Path
  leaf_in_range [] b leaf r g h = subst (FactsInRange u) h r
  leaf_in_range (t ∷ ts) b leaf r (g, gs) (c, k, h) = leaf_in_range ts (b ++ c) leaf (taken_in_range b t c r g k) gs h

-- the first steps of a path are one
pub path_first : (u : Question) (b leaf : Branch) (first others : List (Step × ℕ)) → Path u b (first ++ others) leaf → (l : Branch) × Path u b first l
unfolding Path
path_first u b leaf [] others h = (b, refl)
path_first u b leaf (t ∷ first) others (c, k, h) = let (l, p) = path_first u (b ++ c) leaf first others h in (l, (c, k, p))

-- what meets the leaf meets what it started from
pub leaf_met : (u : Question) (a : Assignment) (ts : List (Step × ℕ)) (b leaf : Branch) → Path u b ts leaf → Met u a leaf → Met u a b
unfolding Path
leaf_met u a [] b leaf h m = subst (Met u a) (sym h) m
leaf_met u a (t ∷ ts) b leaf (c, k, h) m = all_left (Meets u a) b c (leaf_met u a ts (b ++ c) leaf h m)
