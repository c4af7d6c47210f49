-- What is computed is what the words say: children and instances, labels and chains, the test of a leaf and settled leaves, each with the ranges that it needs.
use Rattle.std.specs.Prelude.{ℕ, ◌≡◌, ◌⊎◌, true, List, map, length, ℤ}
use Rattle.std.proofs.Math.Option.{some}
use Rattle.calculus.specs.Logic.{Iff}
use Rattle.calculus.specs.Facts.{Question, Fact, Branch}
use Rattle.calculus.specs.InRange.{HeadInRange, FactsInRange}
use Rattle.calculus.specs.Chains.{Chain, Counts}
use Rattle.calculus.specs.Classes.{labels, same_class, class_literal, conflict}
use Rattle.calculus.specs.Steps.{Step, shape}
use Rattle.calculus.specs.Rules.{children}
use Rattle.calculus.specs.Instances.{LiteralsMeet, SidesMeet, Instance, IsStep}
use Rattle.calculus.specs.Settled.{Settled}
use Rattle.calculus.specs.SettledTest.{settled}

-- a branch of the question, both in range
pub record BranchInRange (u : Question) (b : Branch) : Type 0 where
  pub head : HeadInRange u
  pub facts : FactsInRange u b

pub record Agreements : Type 0 where
  -- the children of a step are those with which it is an instance of its rule; it has none exactly when it is no instance
  pub instances : (u : Question) (b : Branch) (st : Step) → BranchInRange u b → IsStep u st
      → (cs : List (List Fact)) → Iff (children u b st ≡ some cs) (Instance u b st cs)
  -- and of the shape that proper form and what a ticket will need take it for: as many children, each with as many facts
  pub shapes : (u : Question) (b : Branch) (st : Step) → BranchInRange u b → IsStep u st
      → (cs : List (List Fact)) → Instance u b st cs → map length cs ≡ shape u.n st
  -- two nodes have one label exactly when a chain joins them
  pub chains : (u : Question) (b : Branch) → BranchInRange u b → (i j : ℕ) → Iff (same_class (labels b) i j ≡ true) (Chain b i j)
  -- the literal found is the one that counts
  pub literals : (u : Question) (b : Branch) → BranchInRange u b → (x l : ℕ) → Iff (class_literal u b x ≡ some l) (Counts u b x l)
  -- "two different literals share a class, or a ≉ fact has both sides in one"
  pub conflicts : (u : Question) (b : Branch) → BranchInRange u b → Iff (conflict u b ≡ true) (LiteralsMeet u b ⊎ SidesMeet b)
  -- the test of a leaf is passed exactly when it is settled by its model
  pub leaves : (u : Question) (b : Branch) → BranchInRange u b → (m : List ℤ) → Iff (settled u b m ≡ true) (Settled u b m)
