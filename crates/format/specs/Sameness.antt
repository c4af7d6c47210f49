-- Whether two questions are the same: "Have we put this question before?" (02, L6).
use Rattle.std.specs.Prelude.{ℕ, Bool, true, false, List}
use Rattle.calculus.specs.NormalForms.{same_by, in_both}
use Rattle.format.specs.Question.{judged_question, by_reading}

-- "a refusal says which of the two it concerns"
pub data Which : Type 0 where
  first : Which
  second : Which

abbrev pub by_which : {A : Type 0} → Which → A → A → A
by_which first x y = x
by_which second x y = y

-- SameRefused: which of the two, the number and the record
pub data Sameness : Type 0 where
  SameRefused : Which → ℕ → ℕ → Sameness
  Same : Sameness
  Different : Sameness

abbrev pub found_by : Bool → Sameness
found_by true = Same
found_by false = Different

-- "The first question's refusal, by judging's rules, comes before the second's": both are read before anything is compared, by a test of how often a
-- constraint occurs on its own side and on the other
abbrev pub sameness_by : (ℕ → ℕ → Bool) → List ℕ → List ℕ → Sameness
sameness_by agree b c =
    by_reading (SameRefused first)
    (λ u es. by_reading (SameRefused second) (λ v ds. found_by (same_by agree u es v ds)) (judged_question c))
    (judged_question b)

-- the test that is in force
abbrev pub agreement : ℕ → ℕ → Bool
agreement mine theirs = in_both mine theirs

unfoldable pub sameness : List ℕ → List ℕ → Sameness
sameness b c = sameness_by agreement b c
