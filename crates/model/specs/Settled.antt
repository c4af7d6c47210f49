-- The model as the code holds it, and what the answer needs of it and of the leaf.
use Rattle.std.specs.Prelude.{◌-◌, ℕ, ◌≡◌, List, ◌++◌, length, take, ℤ}
use Rattle.calculus.specs.Limits.{column_limit, value_limit}
use Rattle.calculus.specs.LinearForms.{zeros}
use Rattle.calculus.specs.Facts.{Branch, column_count}
use Rattle.calculus.specs.Classes.{labels}
use Rattle.format.specs.Reading.{model_at, model_fault}
use Rattle.format.specs.Checking.{leaf_fault}
use Rattle.rows.specs.Work.{Within}
use Rattle.question.specs.declared.Progress.{Progress}
use Rattle.question.specs.Posed.{asked, numbered}
use Rattle.leaf.specs.Leaf.{LeafReady, ShortSizes}

-- the numbers of the question's columns
abbrev pub values : Progress → List ℤ → List ℤ
values s m = take (column_count (numbered s)) m

-- the model with its record's body at a position, and the first number that applies there on the branch br
abbrev pub model_of : List ℕ → Progress → ℕ → List ℤ
model_of b s at = model_at b (asked b s) at

abbrev pub fault_of : List ℕ → Progress → Branch → ℕ → ℕ → ℕ
fault_of b s br at size = model_fault b (asked b s) (leaf_fault (asked b s) br (model_of b s at)) at size

-- 48 small numbers: those of the question's columns, then zeros
pub record Filled (m : List ℤ) (s : Progress) : Type 0 where
  pub all : length m ≡ column_limit
  pub rest : m ≡ values s m ++ zeros (column_limit - column_count (numbered s))
  pub small : Within value_limit m

-- what the strings are given by, in the bytes b: the numbers held, and the literals at their places
pub record Writable (b places : List ℕ) (s : Progress) (held : List ℤ) : Type 0 where
  pub ready : LeafReady b places (values s held) s
  pub small : Within value_limit (values s held)
  pub short_sizes : ShortSizes (asked b s) (values s held)

-- the numbers held are the model m, and ls the labels of the leaf br
pub record Answers (b places : List ℕ) (s : Progress) (br : Branch) (m : List ℤ) (ls : List ℕ) (held : List ℤ) : Type 0 where
  pub classes : ls ≡ labels br
  pub model : values s held ≡ m
  pub writable : Writable b places s held
