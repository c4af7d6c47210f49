-- Derivations in document 01's words: closed trees, the path of the children taken, and the limits, none of it by the checker's answers.
use Rattle.std.specs.Prelude.{ℕ, ◌+◌, ◌≤◌, ◌<◌, ◌≡◌, ◌⊎◌, List, [], ◌∷◌, ◌++◌, length}
use Rattle.std.proofs.Math.Option.{some}
use Rattle.lists.specs.Lists.{All}
use Rattle.calculus.specs.Limits.{Small, number_limit, fact_limit, pending_limit}
use Rattle.calculus.specs.Facts.{Question, Fact, OnArithmetic, Branch}
use Rattle.calculus.specs.Steps.{Step, shape}
use Rattle.calculus.specs.Children.{child_at}
use Rattle.calculus.specs.Instances.{Instance}

-- ---- trees of steps, each node before its children, the children left to right; Fits says which children a step has on a branch, and add puts a child there

mutual
  -- the steps close the branch: the first fits on it, the others close its children
  pub data ClosedBy {B C : Type 0} (Fits : B → Step → List C → Type 0) (add : B → C → B) : B → List Step → Type 0 where
    by : {b : B} {st : Step} {cs : List C} {sts : List Step} → Fits b st cs → AllClosedBy Fits add b cs sts → ClosedBy Fits add b (st ∷ sts)

  -- consecutive parts of the steps close the children in order, and no step is left
  pub data AllClosedBy {B C : Type 0} (Fits : B → Step → List C → Type 0) (add : B → C → B) : B → List C → List Step → Type 0 where
    none_left : {b : B} → AllClosedBy Fits add b [] []
    child : {b : B} {c : C} {cs : List C} {first others sts : List Step} → sts ≡ first ++ others → ClosedBy Fits add (add b c) first → AllClosedBy Fits add b cs others
        → AllClosedBy Fits add b (c ∷ cs) sts

-- a split is pending while it has children "not yet begun"
abbrev pub pending_for : {C : Type 0} → List C → ℕ
pending_for [] = 0
pending_for (c ∷ cs) = 1

-- the steps lead from a branch to one that is open, be it the same, with so many splits pending: each split on the way has its children before the one entered closed
pub data LeadsBy {B C : Type 0} (Fits : B → Step → List C → Type 0) (add : B → C → B) : B → List Step → B → ℕ → Type 0 where
  here : {b : B} → LeadsBy Fits add b [] b 0
  into : {b leaf : B} {st : Step} {cs : List C} {sts : List Step} {pending : ℕ} (before : List C) (c : C) (after : List C) (first others : List Step) → Fits b st cs
      → cs ≡ before ++ (c ∷ after) → sts ≡ first ++ others → AllClosedBy Fits add b before first → LeadsBy Fits add (add b c) others leaf pending
      → LeadsBy Fits add b (st ∷ sts) leaf (pending_for after + pending)

-- ---- claim 1: the steps are one closed tree of proper steps

abbrev pub Closes : Question → Branch → List Step → Type 0
Closes u = ClosedBy (Instance u) ◌++◌

abbrev pub ClosesAll : Question → Branch → List (List Fact) → List Step → Type 0
ClosesAll u = AllClosedBy (Instance u) ◌++◌

-- proper steps lead to an open branch
abbrev pub Leads : Question → Branch → List Step → Branch → ℕ → Type 0
Leads u = LeadsBy (Instance u) ◌++◌

-- "every step taken as if it fitted": a branch is the number of its facts, over n characters
abbrev pub AsIfFitted : ℕ → ℕ → Step → List ℕ → Type 0
AsIfFitted n k st cs = cs ≡ shape n st

-- ---- the limits

-- 9: "when a new number passes the limit"
abbrev pub SmallFact : Fact → Type 0
SmallFact f = OnArithmetic (λ r e. All (Small number_limit) e) f

-- a child's facts are in the limits on the branch b: "At most 128 facts stand on a branch"
pub record ChildLimits (b : Branch) (c : List Fact) : Type 0 where
  pub numbers : All SmallFact c
  pub facts : length b + length c ≤ fact_limit

-- "all children of a split are tried for 9 and 10 at the split's own record", and "at most 64 splits have children pending"
pub record SplitLimits (b : Branch) (pending : ℕ) (cs : List (List Fact)) : Type 0 where
  pub children : All (ChildLimits b) cs
  pub splits : 2 ≤ length cs → pending < pending_limit

-- document 01: "A ticket is within the limits when, as far as its steps fit, neither 9 nor 10 applies"; under claim 1: at each step, on the branch that the steps
-- before it lead to, where it fits
pub record WithinLimits (u : Question) (sts : List Step) : Type 0 where
  pub question : length u.constraints ≤ fact_limit
  pub steps : (before : List Step) (st : Step) (after : List Step) → sts ≡ before ++ (st ∷ after) → (b : Branch) (pending : ℕ) → Leads u u.constraints before b pending
      → (cs : List (List Fact)) → Instance u b st cs → SplitLimits b pending cs

-- ---- claim 2: the path of the children taken

-- the step is proper and the child that it takes, by its number from 1, adds the facts c; a closing rule has none, so it "does not fit"
pub record Takes (u : Question) (b : Branch) (t : Step × ℕ) (c : List Fact) : Type 0 where
  pub children : List (List Fact)
  pub proper : Instance u b t.0 children
  pub taken : child_at children t.1 ≡ some c

-- every step is proper, and the leaf is "the question's constraints and every fact that the steps added, of a split those of the child taken"
unfoldable pub Path : Question → Branch → List (Step × ℕ) → Branch → Type 0
Path u b [] leaf = b ≡ leaf
Path u b (t ∷ ts) leaf = (c : List Fact) × Takes u b t c × Path u (b ++ c) ts leaf

-- within the limits under claim 2, where "only the one taken" is tried
pub record PathWithinLimits (u : Question) (ts : List (Step × ℕ)) : Type 0 where
  pub question : length u.constraints ≤ fact_limit
  pub steps : (before : List (Step × ℕ)) (t : Step × ℕ) (after : List (Step × ℕ)) → ts ≡ before ++ (t ∷ after) → (b : Branch) → Path u u.constraints before b
      → (c : List Fact) → Takes u b t c → ChildLimits b c

-- the path as if every step fitted, a branch being the number of its facts: the child taken adds its number of them, and "a closing rule counts as a step, adds no
-- fact and closes nothing" (02, L2)
abbrev pub TakesAsIfFitted : ℕ → Step × ℕ → ℕ → Type 0
TakesAsIfFitted n t c = (child_at (shape n t.0) t.1 ≡ some c) ⊎ ((shape n t.0 ≡ []) × (c ≡ 0))

unfoldable pub PathAsIfFitted : ℕ → ℕ → List (Step × ℕ) → ℕ → Type 0
PathAsIfFitted n k [] facts = k ≡ facts
PathAsIfFitted n k (t ∷ ts) facts = (c : ℕ) × TakesAsIfFitted n t c × PathAsIfFitted n (k + c) ts facts
