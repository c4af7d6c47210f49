-- The limits along the walk and along the path taken, step by step, are the limits over the tree and the path: at each step, where the steps before it lead.
use Prim.Native.Nat.{ℕ}
use mathlib.Core.Path.{◌≡◌, refl, sym, ◌∙◌, ap, subst}
use mathlib.Core.List.{List, [], ◌∷◌, ◌++◌, append_assoc}
use lib.ListN.{length}
use Rattle.lists.specs.Lists.{All}
use Rattle.calculus.specs.Facts.{Question, Fact, Branch}
use Rattle.calculus.specs.InRange.{HeadInRange, FactsInRange}
use Rattle.calculus.specs.Steps.{Step}
use Rattle.calculus.specs.Instances.{Instance, IsStep}
use Rattle.calculus.specs.Walk.{working, closed, enter}
use Rattle.calculus.specs.Derivations.{Leads, ChildLimits, SplitLimits, WithinLimits, Takes, Path, PathWithinLimits}
use Rattle.calculus.proofs.Leads.{Arrives, arrives_append, leads→walk, walk→leads}
use Rattle.calculus.proofs.Walks.{State, Pending, StateInRange, one_instance, step_in_range, taken_in_range, one_child}

-- a step put after some, and the others after it
moved : {A : Type 0} (f : List A) (x : A) (r all : List A) → all ≡ f ++ (x ∷ r) → all ≡ (f ++ (x ∷ [])) ++ r
moved f x r all e = e ∙ sym (append_assoc f (x ∷ []) r)

-- ---- claim 1

-- what is left of the steps is within the limits, from a state of the walk on
unfoldable pub LimitsFrom : Question → State → List Step → Type 0
LimitsFrom u k [] = Unit {0}
LimitsFrom u closed (st ∷ sts) = Unit {0}
LimitsFrom u (working b ss) (st ∷ sts) = (cs : List (List Fact)) → Instance u b st cs → SplitLimits b (length ss) cs × LimitsFrom u (enter ◌++◌ b cs ss) sts

-- the limits at each step, on the branch that those before it lead to
abbrev LimitsAt : Question → List Step → Type 0
LimitsAt u sts = (before : List Step) (st : Step) (after : List Step) → sts ≡ before ++ (st ∷ after) → (b : Branch) (pending : ℕ) → Leads u u.constraints before b pending
    → (cs : List (List Fact)) → Instance u b st cs → SplitLimits b pending cs

module _ (u : Question) where
  abbrev root : State
  root = working u.constraints []

  limits_left : (all done sts : List Step) (k : State) → LimitsAt u all → all ≡ done ++ sts → Arrives (Instance u) ◌++◌ root done k → LimitsFrom u k sts
  unfolding LimitsFrom Arrives
  limits_left all done [] k l e h = tt
  limits_left all done (st ∷ sts) closed l e h = tt
  limits_left all done (st ∷ sts) (working b ss) l e h = λ cs i. (
    l done st sts e b (length ss) (walk→leads (Instance u) ◌++◌ u.constraints b done ss h) cs i,
    limits_left all (done ++ (st ∷ [])) sts (enter ◌++◌ b cs ss) l (moved done st sts all e)
        (arrives_append (Instance u) ◌++◌ root (working b ss) (enter ◌++◌ b cs ss) done (st ∷ []) h (cs, i, refl)),
  )

  limits_there : (before : List Step) (st : Step) (after sts : List Step) (k : State) (b : Branch) (ss : Pending) (cs : List (List Fact))
      → LimitsFrom u k sts
      → sts ≡ before ++ (st ∷ after)
      → Arrives (Instance u) ◌++◌ k before (working b ss)
      → Instance u b st cs
      → SplitLimits b (length ss) cs
  unfolding LimitsFrom Arrives
  limits_there [] st after sts k b ss cs l e h i = (subst (λ k. LimitsFrom u k (st ∷ after)) h (subst (LimitsFrom u k) e l) cs i).0
  limits_there (s ∷ before) st after sts closed b ss cs l e h i = absurd h
  limits_there (s ∷ before) st after sts (working d rs) b ss cs l e (ds, j, h) i =
      limits_there before st after (before ++ (st ∷ after)) (enter ◌++◌ d ds rs) b ss cs (subst (LimitsFrom u (working d rs)) e l ds j).1 refl h i

  pub limits→walk : (sts : List Step) → WithinLimits u sts → LimitsFrom u root sts
  unfolding Arrives
  limits→walk sts l = limits_left sts [] sts root l.steps refl refl

  pub walk→limits : (sts : List Step) → LimitsFrom u root sts → LimitsAt u sts
  walk→limits sts l before st after e b pending h cs i =
      let (ss, n, g) = leads→walk (Instance u) ◌++◌ u.constraints b before pending h in
      subst (λ k. SplitLimits b k cs) n (limits_there before st after sts root b ss cs l e g i)

  -- a step more, on the branch that the steps lead to
  module _ (w : HeadInRange u) (b : Branch) (ss : Pending) (st : Step) (f : (cs : List (List Fact)) → Instance u b st cs → SplitLimits b (length ss) cs) where
    pub limits_more : (sts : List Step) (k : State) → StateInRange u k → All (IsStep u) sts → LimitsFrom u k sts
        → Arrives (Instance u) ◌++◌ k sts (working b ss)
        → LimitsFrom u k (sts ++ (st ∷ []))
    unfolding LimitsFrom Arrives
    limits_more [] k r g l h = subst (λ k. LimitsFrom u k (st ∷ [])) (sym h) (λ cs i. (f cs i, tt))
    limits_more (s ∷ sts) closed r g l h = absurd h
    limits_more (s ∷ sts) (working d rs) r (g, gs) l (cs, i, h) = λ ds j. (
      (l ds j).0,
      subst (λ ds. LimitsFrom u (enter ◌++◌ d ds rs) (sts ++ (st ∷ []))) (one_instance u w d s cs ds r.0 g i j)
          (limits_more sts (enter ◌++◌ d cs rs) (step_in_range u w d s cs rs r g i) gs (l cs i).1 h),
    )

-- ---- claim 2

-- what is left of the steps is within the limits, from a branch on
unfoldable pub PathLimitsFrom : Question → Branch → List (Step × ℕ) → Type 0
PathLimitsFrom u b [] = Unit {0}
PathLimitsFrom u b (t ∷ ts) = (c : List Fact) → Takes u b t c → ChildLimits b c × PathLimitsFrom u (b ++ c) ts

abbrev PathLimitsAt : Question → List (Step × ℕ) → Type 0
PathLimitsAt u ts = (before : List (Step × ℕ)) (t : Step × ℕ) (after : List (Step × ℕ)) → ts ≡ before ++ (t ∷ after) → (b : Branch) → Path u u.constraints before b
    → (c : List Fact) → Takes u b t c → ChildLimits b c

module _ (u : Question) where
  -- a path goes on with a child taken
  pub path_on : (b leaf : Branch) (ts : List (Step × ℕ)) (t : Step × ℕ) (c : List Fact) → Path u b ts leaf → Takes u leaf t c → Path u b (ts ++ (t ∷ [])) (leaf ++ c)
  unfolding Path
  path_on b leaf [] t c h k = (c, subst (λ d. Takes u d t c) (sym h) k, ap (λ d. d ++ c) h)
  path_on b leaf (t' ∷ ts) t c (d, k', h) k = (d, k', path_on (b ++ d) leaf ts t c h k)

  path_limits_left : (all done ts : List (Step × ℕ)) (b : Branch) → PathLimitsAt u all → all ≡ done ++ ts → Path u u.constraints done b → PathLimitsFrom u b ts
  unfolding PathLimitsFrom
  path_limits_left all done [] b l e h = tt
  path_limits_left all done (t ∷ ts) b l e h = λ c k. (
    l done t ts e b h c k,
    path_limits_left all (done ++ (t ∷ [])) ts (b ++ c) l (moved done t ts all e) (path_on u.constraints b done t c h k),
  )

  path_limits_there : (before : List (Step × ℕ)) (t : Step × ℕ) (after ts : List (Step × ℕ)) (d b : Branch) (c : List Fact)
      → PathLimitsFrom u d ts
      → ts ≡ before ++ (t ∷ after)
      → Path u d before b
      → Takes u b t c
      → ChildLimits b c
  unfolding PathLimitsFrom Path
  path_limits_there [] t after ts d b c l e h k = (subst (λ d. PathLimitsFrom u d (t ∷ after)) h (subst (PathLimitsFrom u d) e l) c k).0
  path_limits_there (s ∷ before) t after ts d b c l e (c', k', h) k =
      path_limits_there before t after (before ++ (t ∷ after)) (d ++ c') b c (subst (PathLimitsFrom u d) e l c' k').1 refl h k

  pub limits→path : (ts : List (Step × ℕ)) → PathWithinLimits u ts → PathLimitsFrom u u.constraints ts
  unfolding Path
  limits→path ts l = path_limits_left ts [] ts u.constraints l.steps refl refl

  pub path→limits : (ts : List (Step × ℕ)) → PathLimitsFrom u u.constraints ts → PathLimitsAt u ts
  path→limits ts l before t after e b h c k = path_limits_there before t after ts u.constraints b c l e h k

  module _ (w : HeadInRange u) (b : Branch) (t : Step × ℕ) (f : (c : List Fact) → Takes u b t c → ChildLimits b c) where
    pub path_limits_more : (ts : List (Step × ℕ)) (d : Branch) → FactsInRange u d → All (λ t. IsStep u t.0) ts → PathLimitsFrom u d ts → Path u d ts b
        → PathLimitsFrom u d (ts ++ (t ∷ []))
    unfolding PathLimitsFrom Path
    path_limits_more [] d r g l h = subst (λ d. PathLimitsFrom u d (t ∷ [])) (sym h) (λ c k. (f c k, tt))
    path_limits_more (s ∷ ts) d r (g, gs) l (c, k, h) = λ c' k'. (
      (l c' k').0,
      subst (λ c. PathLimitsFrom u (d ++ c) (ts ++ (t ∷ []))) (one_child u w d s c c' r g k k')
          (path_limits_more ts (d ++ c) (taken_in_range u w d s c r g k) gs (l c k).1 h),
    )
