-- The walk over a derivation under claim 1, whatever a branch and a child are: checking walks over facts; proper form and what a ticket will
-- need, over their numbers.
use Rattle.std.specs.Prelude.{List, [], ◌∷◌}

-- a split with children pending, "that is, not yet begun": its mark, the next child, and those after it
pub record Waiting (B C : Type 0) : Type 0 where
  pub mark : B
  pub child : C
  pub rest : List C

pub data Walk (B C : Type 0) : Type 0 where
  working : B → List (Waiting B C) → Walk B C
  closed : Walk B C

-- a split is pending while a child is left
abbrev pub wait : {B C : Type 0} → B → List C → List (Waiting B C) → List (Waiting B C)
wait b [] ss = ss
wait b (c ∷ cs) ss = record { mark = b; child = c; rest = cs } ∷ ss

-- "a closed branch is cut back to the mark of its last pending split", and its next child begins
abbrev pub cut_back : {B C : Type 0} → (B → C → B) → List (Waiting B C) → Walk B C
cut_back add [] = closed
cut_back add (s ∷ ss) = working (add s.mark s.child) (wait s.mark s.rest ss)

-- "children are worked left to right"; a step without children closes its branch
abbrev pub enter : {B C : Type 0} → (B → C → B) → B → List C → List (Waiting B C) → Walk B C
enter add b [] ss = cut_back add ss
enter add b (c ∷ cs) ss = working (add b c) (wait b cs ss)
