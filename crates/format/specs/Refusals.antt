-- The refusals 8 to 14 in document 01's words: by the bytes sent, and by instances, branches and values, not by what checking computes.
use Rattle.std.specs.Prelude.{ℕ, ◌+◌, ◌≤◌, ◌≡◌, List, [], ◌++◌, length, ℤ}
use Rattle.lists.specs.Lists.{All}
use Rattle.calculus.specs.Limits.{ticket_bytes, fact_limit}
use Rattle.calculus.specs.Facts.{Question, Fact, Branch}
use Rattle.calculus.specs.Steps.{Step}
use Rattle.calculus.specs.Instances.{Instance}
use Rattle.calculus.specs.Derivations.{SmallFact, ChildLimits, SplitLimits, Leads, WithinLimits, Takes, Path, PathWithinLimits}
use Rattle.calculus.specs.Settled.{MeetsArithmetic, Settled, ShortLengths}
use Rattle.format.specs.Question.{with_fact}
use Rattle.format.specs.Written.{question_bytes, constraint_record, step_record, model_record, end_record, with_child_zero, beginning}
use Rattle.format.specs.Written.{QuestionInRange, OperandsInRange, ModelInRange, TakenInRange, record_behind}

-- ---- at a step and at the model: the first number that applies

-- a step under claim 1, with so many splits pending: "Under claim 1 all children of a split are tried for 9 and 10 at the split's own record"
pub data SplitRefused (u : Question) (b : Branch) (pending : ℕ) (st : Step) : ℕ → Type 0 where
  -- "8 when a step does not fit .., repeats a variable where different ones are due, or names a fact not on the branch"
  unfit : ((cs : List (List Fact)) → Instance u b st cs → ⊥) → SplitRefused u b pending st 8
  -- "9 when a new number passes the limit"
  number : (cs : List (List Fact)) → Instance u b st cs → (All (All SmallFact) cs → ⊥) → SplitRefused u b pending st 9
  -- "10 when facts or pending splits would pass theirs"
  room : (cs : List (List Fact)) → Instance u b st cs → All (All SmallFact) cs → (SplitLimits b pending cs → ⊥) → SplitRefused u b pending st 10

-- and under claim 2, with its child field: "under claim 2 only the one taken"
pub data TakenRefused (u : Question) (b : Branch) (s : Step × ℕ) : ℕ → Type 0 where
  unfit : ((c : List Fact) → Takes u b s c → ⊥) → TakenRefused u b s 8
  number : (c : List Fact) → Takes u b s c → (All SmallFact c → ⊥) → TakenRefused u b s 9
  room : (c : List Fact) → Takes u b s c → All SmallFact c → (ChildLimits b c → ⊥) → TakenRefused u b s 10

-- "at the model, 12 when it breaks an arithmetic fact, 13 when the leaf is not settled, 14 when a length passes 64"
pub data LeafRefused (u : Question) (leaf : Branch) (m : List ℤ) : ℕ → Type 0 where
  broken : (All (MeetsArithmetic m) leaf → ⊥) → LeafRefused u leaf m 12
  unsettled : All (MeetsArithmetic m) leaf → (Settled u leaf m → ⊥) → LeafRefused u leaf m 13
  long : All (MeetsArithmetic m) leaf → Settled u leaf m → (ShortLengths u m → ⊥) → LeafRefused u leaf m 14

-- ---- in a ticket

-- a ticket of at most 32,768 bytes begins with a question in range, a claim and some steps; after them the rest begins with record r
pub record Begins (t : List ℕ) (u : Question) (claim : ℕ) (ts : List (Step × ℕ)) (rest : List ℕ) (r : ℕ) : Type 0 where
  pub bytes : t ≡ beginning u claim ts ++ rest
  pub few_bytes : length t ≤ ticket_bytes
  pub question : QuestionInRange u
  pub number : r ≡ record_behind u ts

-- under claim 1 the steps so far fit, are within the limits, and lead to a branch that is open, with so many splits pending
pub record OnTree (t : List ℕ) (u : Question) (b : Branch) (pending : ℕ) (rest : List ℕ) (r : ℕ) : Type 0 where
  pub steps : List Step
  pub begins : Begins t u 1 (with_child_zero steps) rest r
  pub is_in_range : All (OperandsInRange u) steps
  pub within : WithinLimits u steps
  pub leads : Leads u u.constraints steps b pending

-- under claim 2 the steps so far fit with the children taken, are within the limits, and lead to a branch
pub record OnPath (t : List ℕ) (u : Question) (b : Branch) (rest : List ℕ) (r : ℕ) : Type 0 where
  pub steps : List (Step × ℕ)
  pub begins : Begins t u 2 steps rest r
  pub is_in_range : All (TakenInRange u) steps
  pub within : PathWithinLimits u steps
  pub path : Path u u.constraints steps b

-- record r is a step in its range, under claim 1
pub record StepOnTree (t : List ℕ) (u : Question) (b : Branch) (pending : ℕ) (st : Step) (r : ℕ) : Type 0 where
  pub more : List ℕ
  pub stands : OnTree t u b pending (step_record (st, 0) ++ more) r
  pub operands : OperandsInRange u st

-- under claim 2, with the child that it takes
pub record StepOnPath (t : List ℕ) (u : Question) (b : Branch) (s : Step × ℕ) (r : ℕ) : Type 0 where
  pub more : List ℕ
  pub stands : OnPath t u b (step_record s ++ more) r
  pub is_in_range : TakenInRange u s

-- record r is a model in its range
pub record AtModel (t : List ℕ) (u : Question) (leaf : Branch) (m : List ℤ) (r : ℕ) : Type 0 where
  pub more : List ℕ
  pub stands : OnPath t u leaf (model_record m ++ more) r
  pub is_in_range : ModelInRange u m

-- number c applies at record r, and no number before it there, and none at a record before
pub data FirstRefusal (t : List ℕ) : ℕ → ℕ → Type 0 where
  -- 8 to 10 at a step, under either claim
  split : {u : Question} {b : Branch} {pending c r : ℕ} {st : Step} → StepOnTree t u b pending st r → SplitRefused u b pending st c → FirstRefusal t c r
  taken : {u : Question} {b : Branch} {s : Step × ℕ} {c r : ℕ} → StepOnPath t u b s r → TakenRefused u b s c → FirstRefusal t c r
  -- "10 when facts .. would pass theirs": a 129th constraint of the question
  constraint : {r : ℕ} (u : Question) (f : Fact) (rest : List ℕ) → t ≡ question_bytes u [] ++ (constraint_record f ++ rest) → length t ≤ ticket_bytes
      → QuestionInRange (with_fact u f) → length u.constraints ≡ fact_limit → r ≡ 1 + length u.literals + fact_limit → FirstRefusal t 10 r
  -- "11 when the end comes before every branch closed, or before a model"
  unclosed : {u : Question} {b : Branch} {pending r : ℕ} → OnTree t u b pending end_record r → FirstRefusal t 11 r
  unmodelled : {u : Question} {b : Branch} {r : ℕ} → OnPath t u b end_record r → FirstRefusal t 11 r
  -- 12 to 14 at the model
  model : {u : Question} {leaf : Branch} {m : List ℤ} {c r : ℕ} → AtModel t u leaf m r → LeafRefused u leaf m c → FirstRefusal t c r
