-- What was read stands in the bytes, by the numbers that the code keeps.
use Rattle.std.specs.Prelude.{ℕ, List}
use Rattle.format.specs.Standing as format
use Rattle.question.specs.declared.Progress.{Progress}
use Rattle.question.specs.Progress.{numbers_of}

abbrev pub StandsTo : List ℕ → Progress → ℕ → Type 0
StandsTo b s at = format.StandsTo b (numbers_of s) at

abbrev pub NextAt : List ℕ → Progress → ℕ → Type 0
NextAt b s at = format.NextAt b (numbers_of s) at
