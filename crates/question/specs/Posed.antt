-- A question that was read whole and may be worked on.
use Rattle.std.specs.Prelude.{ℕ, ◌+◌, ◌≤◌, List, length}
use Rattle.calculus.specs.Limits.{ticket_bytes, fact_limit}
use Rattle.calculus.specs.Extended.{Extended}
use Rattle.format.specs.Question.{head_rank}
use Rattle.question.specs.declared.Progress.{Progress}
use Rattle.calculus.specs.Facts.{Question, blank}
use Rattle.question.specs.Progress.{progress_of}
use Rattle.question.specs.Standing.{StandsTo}

-- the question of a ticket's bytes, by the numbers read of it
unfoldable pub asked : List ℕ → Progress → Question
asked b s = (progress_of b s).question

-- and its extended constraints
unfoldable pub extended_asked : List ℕ → Progress → List Extended
extended_asked b s = (progress_of b s).extended

-- a question by its numbers alone, without literals and constraints
abbrev pub numbered : Progress → Question
numbered s = blank s.n s.p s.q

-- it was read up to record r at a position, where six bytes of the next record stand
pub record ReadTo (b : List ℕ) (s : Progress) (at r : ℕ) : Type 0 where
  pub stands : StandsTo b s at
  pub headed : at + 6 ≤ length b
  pub short : length b ≤ ticket_bytes
  pub low : r ≤ at

-- it stands, with its head, in bytes that are not too many, and its constraints are no more than stand on a branch; a manner without 10 does not give this
pub record Posed (b : List ℕ) (s : Progress) : Type 0 where
  pub to : ℕ
  pub stands : StandsTo b s to
  pub head : head_rank ≤ s.last
  pub short : length b ≤ ticket_bytes
  pub few_constraints : s.constraints + s.extended ≤ fact_limit
