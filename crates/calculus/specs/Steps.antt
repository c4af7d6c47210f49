-- Steps with their operands, and what a step gives by its form alone.
use Rattle.std.specs.Prelude.{ℕ, zero, suc, ◌+◌, List, [], ◌∷◌, map, length, replicate, ℤ}
use Rattle.calculus.specs.Alphabet.{character_count, code_ranges}
use Rattle.calculus.specs.Facts.{Function}

-- the 13 rules with their operands; BranchOn is document 01's rule Branch
pub data Step : Type 0 where
  Sum : ℕ → List (ℕ × ℤ) → Step
  BranchOn : List ℤ → Step
  Apart : ℕ → Step
  AConf : ℕ → Step
  SConf : Step
  SProp : Function → ℕ → ℕ → Step
  LIntro : ℕ → Step
  LValid : ℕ → Step
  CCollapse : ℕ → Step
  CValid : ℕ → Step
  CInj : ℕ → ℕ → Step
  Card : List ℕ → Step
  Join : ℕ → ℕ → Step

-- ---- the shape of a step: for each child the number of facts that it adds, as if the step fitted; none where the rule closes

-- the number of pairs i < j among m
abbrev pub pair_count : ℕ → ℕ
pair_count zero = 0
pair_count (suc m) = m + pair_count m

-- Card's last child over k characters: "With n = 1 the last child is left out"
abbrev pub last_count : ℕ → ℕ
last_count zero = 0
last_count (suc zero) = 0
last_count (suc (suc k)) = 1

unfoldable pub shape : ℕ → Step → List ℕ
shape n (Sum d ts) = 1 ∷ []
shape n (BranchOn e) = 1 ∷ 1 ∷ []
shape n (Apart k) = 1 ∷ 1 ∷ []
shape n (AConf k) = []
shape n SConf = []
shape n (SProp f x y) = 1 ∷ []
shape n (LIntro x) = 1 ∷ []
shape n (LValid x) = 1 ∷ 1 ∷ []
shape n (CCollapse x) = 1 ∷ []
shape n (CValid x) = 2 ∷ map (λ r. 3) (code_ranges n)
shape n (CInj x y) = 1 ∷ 1 ∷ 1 ∷ []
shape n (Card xs) = replicate (pair_count (length xs) + last_count (character_count n)) 1
shape n (Join j k) = 1 ∷ []
