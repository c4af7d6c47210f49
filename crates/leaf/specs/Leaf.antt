-- What the tests of a leaf ask of its question and its model.
use Rattle.std.specs.Prelude.{ℕ, ◌≤◌, ◌<◌, List, length, ℤ, nat_abs}
use Rattle.calculus.specs.Limits.{variable_limit, length_limit}
use Rattle.calculus.specs.Facts.{Question, column_count, len}
use Rattle.calculus.specs.Model.{model_value}
use Rattle.format.specs.Places.{literals_from}
use Rattle.records.specs.Placed.{Placed}
use Rattle.question.specs.declared.Progress.{Progress}
use Rattle.question.specs.Posed.{asked, numbered, Posed}
use Rattle.leaf.specs.declared.Leaf.{Leaf}

-- m has a number for each column of a question with few variables
pub record Modelled (m : List ℤ) (s : Progress) : Type 0 where
  pub few_strings : s.p ≤ variable_limit
  pub few_integers : s.q ≤ variable_limit
  pub columns : column_count (numbered s) ≤ length m

-- the literals of a question stand at these places in the bytes b
pub record LiteralsAt (b places : List ℕ) (s : Progress) : Type 0 where
  pub placed : Placed b literals_from s.literals places
  pub enough : s.literals < length places

-- m has a number for each column of a question that was read from the bytes b, and its literals stand at their places
pub record LeafReady (b places : List ℕ) (m : List ℤ) (s : Progress) : Type 0 where
  pub posed : Posed b s
  pub literals : LiteralsAt b places s
  pub columns : column_count (numbered s) ≤ length m

-- the same of a leaf
abbrev pub Ready : Leaf → Type 0
Ready l = LeafReady l.ticket.now l.places.now l.model.now l.s

-- its question
abbrev pub posed_of : Leaf → Question
posed_of l = asked l.ticket.now l.s

-- every length is the size of a string of at most 64 characters
abbrev pub ShortSizes : Question → List ℤ → Type 0
ShortSizes u m = (x : ℕ) → x < u.p → nat_abs (model_value u m len x) ≤ length_limit
