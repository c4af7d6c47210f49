-- What judging holds of a question that was read and of an answer of its form, by position.
use Rattle.std.specs.Prelude.{ℕ, ◌+◌, ◌*◌, ◌≤◌, ◌<◌, ◌≡◌, true, List, length, ℤ}
use Rattle.calculus.specs.Limits.{column_limit, value_limit}
use Rattle.calculus.specs.Meaning.{Assignment}
use Rattle.format.specs.Question.{form_range}
use Rattle.format.specs.Answer.{answer_form, assignment_of}
use Rattle.question.specs.declared.Progress.{Progress}
use Rattle.question.specs.Posed.{asked, Posed}
use Rattle.rows.specs.Work.{Within}
use Rattle.records.specs.Placed.{Placed}
use Rattle.assignment.specs.Form.{columns_at}

-- the answer's strings and integers
abbrev pub values_of : List ℕ → List ℕ → Progress → Assignment
values_of b v s = assignment_of v (asked b s)

-- a question that was read, and an answer of its form, with its strings' places
pub record Texts (b v : List ℕ) (s : Progress) (places : List ℕ) : Type 0 where
  pub posed : Posed b s
  pub formed : answer_form v s.p s.q 0 ≡ true
  pub placed : Placed v 0 s.p places
  pub enough : s.p < length places

-- and its columns' values
pub record Judgeable (b v : List ℕ) (s : Progress) (places : List ℕ) (values : List ℤ) : Type 0 where
  pub texts : Texts b v s places
  pub columns : values ≡ columns_at v s.p s.q
  -- so that no sum of products wraps
  pub small : Within value_limit values

-- a form of count pairs at a position, over the columns that have these values
pub record FormIn (b : List ℕ) (at count : ℕ) (values : List ℤ) : Type 0 where
  pub few : count ≤ column_limit
  pub there : at + 4 + 6 * count ≤ length b
  pub few_columns : length values ≤ column_limit
  pub is_in_range : form_range b (length values) at count ≡ true
  pub small : Within value_limit values
