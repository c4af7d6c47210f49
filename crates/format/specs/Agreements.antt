-- The tests for 8 to 10 and 12 to 14 give the numbers that the words of Refusals give, each with the ranges that it needs. The agreements of the rules, the
-- classes and the settled leaves are in calculus/specs/Agreements.
use Rattle.std.specs.Prelude.{ℕ, ◌≤◌, ◌≡◌, true, List, ℤ}
use Rattle.lists.specs.Lists.{All}
use Rattle.calculus.specs.Logic.{Iff}
use Rattle.calculus.specs.Facts.{Question, Fact, Branch}
use Rattle.calculus.specs.Steps.{Step}
use Rattle.calculus.specs.Rules.{children}
use Rattle.calculus.specs.Instances.{Instance, IsStep}
use Rattle.calculus.specs.Agreements.{BranchInRange}
use Rattle.calculus.specs.Derivations.{ChildLimits, SplitLimits, Takes}
use Rattle.calculus.specs.Settled.{MeetsArithmetic, Settled, ShortLengths}
use Rattle.format.specs.Checking.{all_tried, taken_tried, child_in, keeps, short_lengths, leaf_fault}
use Rattle.format.specs.Refusals.{SplitRefused, TakenRefused, LeafRefused}

-- a number c is given exactly when its words hold, and none exactly when all is well
pub record Gives (given : ℕ) (Refused : ℕ → Type 0) (Well : Type 0) : Type 0 where
  pub refused : (c : ℕ) → 1 ≤ c → Iff (given ≡ c) (Refused c)
  pub none : Iff (given ≡ 0) Well

pub record Agreements : Type 0 where
  -- 8 to 10 under claim 1
  pub splits : (u : Question) (b : Branch) (pending : ℕ) (st : Step) → BranchInRange u b → IsStep u st
      → Gives (all_tried b pending (children u b st)) (SplitRefused u b pending st) ((cs : List (List Fact)) × Instance u b st cs × SplitLimits b pending cs)
  -- under claim 2
  pub taken : (u : Question) (b : Branch) (s : Step × ℕ) → BranchInRange u b → IsStep u s.0
      → Gives (taken_tried b (child_in (children u b s.0) s.1)) (TakenRefused u b s) ((c : List Fact) × Takes u b s c × ChildLimits b c)
  -- an arithmetic fact is kept exactly when the model meets it
  pub kept : (m : List ℤ) (b : Branch) → Iff (keeps m b ≡ true) (All (MeetsArithmetic m) b)
  -- no "length passes 64"
  pub short : (u : Question) (m : List ℤ) → Iff (short_lengths u m ≡ true) (ShortLengths u m)
  -- 12 to 14
  pub leaves : (u : Question) (b : Branch) (m : List ℤ) → BranchInRange u b → Gives (leaf_fault u b m) (LeafRefused u b m) (Settled u b m × All (MeetsArithmetic m) b × ShortLengths u m)
