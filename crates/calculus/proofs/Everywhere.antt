-- What holds of every branch that a walk has open or will begin, and how many splits are pending, whatever a branch and a child are.
use Prim.Native.Nat.{ℕ, ◌≤◌, ◌<◌}
use native.Mathlib.Omega.{arith}
use mathlib.Core.List.{List, [], ◌∷◌}
use lib.ListN.{length}
use Rattle.lists.specs.Lists.{All}
use Rattle.lists.proofs.Lists.{all_map}
use Rattle.calculus.specs.Walk.{Waiting, Walk, working, closed, wait, enter}

module _ {B C : Type 0} (add : B → C → B) where
  -- it holds of each branch that begins with a child still to come
  abbrev Ahead : (B → Type 0) → Waiting B C → Type 0
  Ahead P w = P (add w.mark w.child) × All (λ c. P (add w.mark c)) w.rest

  abbrev pub Everywhere : (B → Type 0) → Walk B C → Type 0
  Everywhere P (working b ss) = P b × All (Ahead P) ss
  Everywhere P closed = Unit {0}

  module _ (P : B → Type 0) where
    wait_ahead : (b : B) (cs : List C) (ss : List (Waiting B C)) → All (λ c. P (add b c)) cs → All (Ahead P) ss → All (Ahead P) (wait b cs ss)
    wait_ahead b [] ss h hs = hs
    wait_ahead b (c ∷ cs) ss h hs = (h, hs)

    -- a step keeps it where it holds of the children's branches
    pub enter_everywhere : (b : B) (cs : List C) (ss : List (Waiting B C)) → All (λ c. P (add b c)) cs → All (Ahead P) ss → Everywhere P (enter add b cs ss)
    enter_everywhere b [] [] h hs = tt
    enter_everywhere b [] (s ∷ ss) h ((l, ls), hs) = (l, wait_ahead s.mark s.rest ss ls hs)
    enter_everywhere b (c ∷ cs) ss (l, h) hs = (l, wait_ahead b cs ss h hs)

    pub ahead_map : (Q : B → Type 0) → ((b : B) → P b → Q b) → (ss : List (Waiting B C)) → All (Ahead P) ss → All (Ahead Q) ss
    ahead_map Q f ss hs =
        all_map ss (λ w (l, ls). (f (add w.mark w.child) l, all_map w.rest (λ c k. f (add w.mark c) k) ls)) hs

  -- ---- pending splits

  abbrev pub splits_of : Walk B C → List (Waiting B C)
  splits_of (working b ss) = ss
  splits_of closed = []

  wait_few : (n : ℕ) (b : B) (cs : List C) (ss : List (Waiting B C)) → length ss ≤ n → (1 ≤ length cs → length ss < n) → length (wait b cs ss) ≤ n
  wait_few n b [] ss h g = h
  wait_few n b (c ∷ cs) ss h g = omega (arith, g (omega arith))

  -- a step with two or more children puts one split more
  pub enter_few : (n : ℕ) (b : B) (cs : List C) (ss : List (Waiting B C)) → length ss ≤ n → (2 ≤ length cs → length ss < n) → length (splits_of (enter add b cs ss)) ≤ n
  enter_few n b [] [] h g = omega arith
  enter_few n b [] (s ∷ ss) h g = wait_few n s.mark s.rest ss (omega arith) (λ k. omega arith)
  enter_few n b (c ∷ cs) ss h g = wait_few n b cs ss h (λ k. g (omega arith))
