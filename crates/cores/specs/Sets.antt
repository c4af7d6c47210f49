-- The sets of a branch's facts in a slice, by the fact's number.
use Rattle.calculus.specs.Limits.{fact_limit}
use Rattle.std.specs.Prelude.{ℕ, ◌<◌, ◌≤◌, ◌≡◌, true, List, length, get_or, ℤ}
use Rattle.calculus.specs.Cores.{Rested, facts, set_at, rests_on}
use Rattle.format.specs.StepForms.{step_at}
use Rattle.format.specs.Checking.{fits}
use Rattle.question.specs.declared.Progress.{Progress}
use Rattle.question.specs.Posed.{asked}
use Rattle.rows.specs.Rows.{branch_of}
use Rattle.steps.specs.declared.Step.{Step}
use Rattle.steps.specs.Rules.{rule_named}
use Rattle.steps.specs.Offered.{offered_on}
use Rattle.conclusions.specs.Labels.{asks_classes}
use Rattle.cores.specs.declared.Words.{Words}
use Rattle.cores.specs.declared.Unions.{Unions}
use Rattle.cores.specs.Words.{words_of, unions_of}

-- the slice has room for every fact of a branch
abbrev pub Roomy : List Words → Type 0
Roomy v = fact_limit ≤ length v

-- the words of fact k
abbrev pub words_at : List Words → ℕ → Words
words_at v k = get_or v k (record { low = 0; high = 0 })

-- the slice has the sets of the branch's facts, count in all
pub record Carries (v : List Words) (count : ℕ) (r : Rested) : Type 0 where
  pub all : length r ≡ count
  pub words : (k : ℕ) → k < count → words_at v k ≡ words_of (set_at r k)

-- and these facts are the first count rows of the work area
pub record Stands (w : List ℤ) (v : List Words) (count : ℕ) (r : Rested) : Type 0 where
  pub rows : facts r ≡ branch_of w count
  pub carried : Carries v count r

-- the places from `from` up to `to` have the words `set`, and all others are as they were
pub record Filled (v : List Words) (from to : ℕ) (set : Words) (v' : List Words) : Type 0 where
  pub same_length : length v' ≡ length v
  pub below : (k : ℕ) → k < from → words_at v' k ≡ words_at v k
  pub set_there : (k : ℕ) → from ≤ k → k < to → words_at v' k ≡ set
  pub behind : (k : ℕ) → to ≤ k → words_at v' k ≡ words_at v k

-- the step, by a rule under its name, rests on what the words say, where it fits; a rule that asks for classes is given the unions over the whole branch
abbrev pub RestsOn : Step → List ℕ → Progress → List ℤ → ℕ → List Words → Unions → Words → Type 0
RestsOn t b s w count v unions x =
    (r : Rested) → Stands w v count r → (asks_classes (rule_named t.rule) ≡ true → unions ≡ unions_of r) → fits (offered_on b s t.body t.size w count) ≡ true
    → x ≡ words_of (rests_on (asked b s) r (step_at b t.body t.size))
