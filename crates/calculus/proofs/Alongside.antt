-- Two walks that take the same steps side by side, their branches related, whatever a branch and a child are.
use mathlib.Core.List.{List, [], ◌∷◌}
use Rattle.lists.proofs.Matched.{Matched}
use Rattle.calculus.specs.Walk.{Waiting, Walk, working, closed, wait, cut_back, enter}

module _ {B C D E : Type 0} (add : B → C → B) (put : D → E → D) (R : B → D → Type 0) where
  -- the branches that begin with their children are related, child by child
  abbrev pub ChildrenRelated : B → D → List C → List E → Type 0
  ChildrenRelated b d cs es = Matched (λ c e. R (add b c) (put d e)) cs es

  -- so are those of a pending split, the next child and those after it
  abbrev pub PendingRelated : Waiting B C → Waiting D E → Type 0
  PendingRelated s t = R (add s.mark s.child) (put t.mark t.child) × ChildrenRelated s.mark t.mark s.rest t.rest

  pub data Alongside : Walk B C → Walk D E → Type 0 where
    both_working : {b : B} {d : D} {ss : List (Waiting B C)} {ts : List (Waiting D E)} → R b d → Matched PendingRelated ss ts → Alongside (working b ss) (working d ts)
    both_closed : Alongside closed closed

  wait_alongside : (b : B) (d : D) (cs : List C) (es : List E) (ss : List (Waiting B C)) (ts : List (Waiting D E))
      → ChildrenRelated b d cs es
      → Matched PendingRelated ss ts
      → Matched PendingRelated (wait b cs ss) (wait d es ts)
  wait_alongside b d [] [] ss ts h g = g
  wait_alongside b d [] (e ∷ es) ss ts h g = absurd h
  wait_alongside b d (c ∷ cs) [] ss ts h g = absurd h
  wait_alongside b d (c ∷ cs) (e ∷ es) ss ts h g = (h, g)

  cut_back_alongside : (ss : List (Waiting B C)) (ts : List (Waiting D E)) → Matched PendingRelated ss ts → Alongside (cut_back add ss) (cut_back put ts)
  cut_back_alongside [] [] h = both_closed
  cut_back_alongside [] (t ∷ ts) h = absurd h
  cut_back_alongside (s ∷ ss) [] h = absurd h
  cut_back_alongside (s ∷ ss) (t ∷ ts) ((h, hs), g) = both_working h (wait_alongside s.mark t.mark s.rest t.rest ss ts hs g)

  -- a step keeps them so where the children's branches are related
  pub enter_alongside : (b : B) (d : D) (cs : List C) (es : List E) (ss : List (Waiting B C)) (ts : List (Waiting D E))
      → ChildrenRelated b d cs es
      → Matched PendingRelated ss ts
      → Alongside (enter add b cs ss) (enter put d es ts)
  enter_alongside b d [] [] ss ts h g = cut_back_alongside ss ts g
  enter_alongside b d [] (e ∷ es) ss ts h g = absurd h
  enter_alongside b d (c ∷ cs) [] ss ts h g = absurd h
  enter_alongside b d (c ∷ cs) (e ∷ es) ss ts (h, hs) g = both_working h (wait_alongside b d cs es ss ts hs g)
