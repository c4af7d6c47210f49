-- The set that comes with an outcome, of 02, L5: "With "no solution" the checker returns the union over all closing steps, with every other outcome the
-- empty set"; and the two numbers that hold it.
use Rattle.std.specs.Prelude.{ℕ, ◌+◌, ◌*◌, Bool, true, false, List, [], ◌∷◌, take, drop}
use Rattle.std.proofs.Math.Option.{Option, none, some}
use Rattle.calculus.specs.Facts.{Question}
use Rattle.calculus.specs.Steps.{Step}
use Rattle.calculus.specs.Cores.{Set, core_in}
use Rattle.format.specs.Question.{question_of}
use Rattle.format.specs.Checking.{Outcome, Refused, NoSolution, Strings}
use Rattle.format.specs.ProperForm.{steps}

-- the core of steps on a question, empty without one
abbrev pub core_asked : Option Question → List Step → Set
core_asked none sts = []
core_asked (some u) sts = core_in u sts

-- of the question and the steps that a ticket's bytes hold
unfoldable pub core : List ℕ → Set
core t = core_asked (question_of t) (steps t)

-- of an outcome, with the ticket
abbrev pub core_of : Outcome → List ℕ → Set
core_of (Refused c r) t = []
core_of NoSolution t = core t
core_of (Strings a) t = []

-- ---- 128 flags as two numbers of 64 bits: constraint k is bit k of the first, constraint 64 + k bit k of the second

abbrev pub flag : Bool → ℕ
flag true = 1
flag false = 0

unfoldable pub word : Set → ℕ
word [] = 0
word (x ∷ s) = word s * 2 + flag x

abbrev pub low : Set → ℕ
low s = word (take 64 s)

abbrev pub high : Set → ℕ
high s = word (take 64 (drop 64 s))
