-- A record where a branch is open, and what is kept beside the walk.
use Rattle.std.specs.Prelude.{ℕ, ◌+◌, ◌<◌, ◌≤◌, ◌≡◌, true, cond, List, [], length, take, leb, ℤ, Result, Ok, Err}
use Rattle.calculus.specs.Facts.{Fact, Branch}
use Rattle.calculus.specs.Walk.{Waiting}
use Rattle.calculus.specs.Cores.{Rested, rooted_from}
use Rattle.format.specs.Records.{size as size_of, kind, next}
use Rattle.format.specs.StepForms.{rule as rule_at}
use Rattle.format.specs.Reading.{fault}
use Rattle.format.specs.Checking.{checker, Refused}
use Rattle.delimiters.specs.declared.Claim.{Claim}
use Rattle.delimiters.specs.declared.Claim.TheVariants.{NoSolution, Strings}
use Rattle.delimiters.specs.Claims.{open_under, ends_at}
use Rattle.question.specs.declared.Progress.{Progress}
use Rattle.question.specs.Posed.{asked}
use Rattle.rows.specs.Rows.{branch_of}
use Rattle.steps.specs.declared.Rule.{Rule}
use Rattle.steps.specs.Rules.{rule_named}
use Rattle.steps.specs.Forms.{Formed}
use Rattle.steps.specs.Faults.{field_fits}
use Rattle.steps.specs.Offered.{tried_under}
use Rattle.cores.specs.declared.Words.{Words}
use Rattle.cores.specs.declared.Unions.{Unions}
use Rattle.cores.specs.Words.{words_of, union_of, unions_of}
use Rattle.cores.specs.Sets.{Stands, RestsOn}
use Rattle.faults.specs.Numbers.{number}
use Rattle.faults.specs.declared.Fault.{Fault}
use Rattle.claims.specs.declared.Grounds.{Grounds}
use Rattle.claims.specs.declared.Next as next-record
use Rattle.claims.specs.declared.Next.{Next}
use Rattle.claims.specs.Outcomes.{outcome_from}

-- ---- sets, which are kept under claim 1 alone

-- at first each constraint rests on itself, in the first rows of the work area and in the slice v, and nothing is gathered
unfoldable pub FirstGrounds : Claim → List ℤ → List Words → ℕ → Grounds → Type 0
FirstGrounds NoSolution w v constraints g =
    let r : Rested = rooted_from 0 (branch_of w constraints) in
    Stands w v constraints r × (g.unions ≡ unions_of r) × (g.roots ≡ unions_of r) × (g.core ≡ words_of [])
FirstGrounds Strings w v constraints g = Unit {0}

-- the unions of the first upto facts become those of the first count
unfoldable pub BroughtUp : Claim → List ℤ → List Words → ℕ → ℕ → Grounds → Grounds → Type 0
BroughtUp NoSolution w v upto count g more =
    ((r : Rested) → Stands w v count r → g.unions ≡ unions_of (take upto r) → more.unions ≡ unions_of r) × (more.roots ≡ g.roots) × (more.core ≡ g.core)
BroughtUp Strings w v upto count g more = Unit {0}

-- those of the first mark facts
abbrev pub grounds_back : Grounds → ℕ → ℕ → Grounds
grounds_back g upto mark = cond (leb upto mark) g (record { unions = g.roots; roots = g.roots; core = g.core })

-- with what a closing step rests on
abbrev pub with_closing : Grounds → Words → Grounds
with_closing g set = record { unions = g.unions; roots = g.roots; core = union_of g.core set }

-- the step in the record of m bytes at a position, by a rule under its name, rests on what the words say
unfoldable pub SetOf : Claim → Rule → List ℕ → Progress → ℕ → ℕ → List ℤ → ℕ → List Words → Unions → Words → Type 0
SetOf NoSolution rule b s at m w count v unions x = RestsOn (record { rule = rule; body = at + 6; size = m }) b s w count v unions x
SetOf Strings rule b s at m w count v unions x = Unit {0}

-- one to three facts came after the first from, with which there are to: a child's
abbrev pub Added : ℕ → ℕ → Type 0
Added from to = (from < to) × (to ≤ from + 3)

-- ---- a record where a branch is open

-- a step of proper form, by a rule under its name, in a record of m bytes at a position: what is left to try of it is whether it fits, 8 to 10
pub record StepAt (claim : Claim) (b : List ℕ) (s : Progress) (at : ℕ) (rule : Rule) (m : ℕ) : Type 0 where
  pub sized : m ≡ size_of b at
  pub whole : next b at ≤ length b
  pub step : kind b at ≡ 6
  pub named : rule_named rule ≡ rule_at b (at + 6)
  pub formed : Formed b (asked b s) (at + 6) m
  pub field : field_fits claim b s.n (at + 6) m ≡ true
  pub tried : (w : List ℤ) (count : ℕ) (ss : List (Waiting Branch (List Fact)))
      → tried_under claim b s (at + 6) (size_of b at) w count (length ss) ≡ fault (checker (asked b s)) b (asked b s) (open_under claim (branch_of w count) ss) at

-- refused whatever the branch; or it ends the steps; or a step
unfoldable pub NextAt : Claim → List ℕ → Progress → ℕ → Result Next Fault → Type 0
NextAt claim b s at (Err f) =
    (br : Branch) (ss : List (Waiting Branch (List Fact))) (r : ℕ) → outcome_from b s (open_under claim br ss) r at ≡ Refused (number f) r
NextAt claim b s at (Ok next-record.TheVariants.Model) = (ends_at claim (kind b at) ≡ true) × (next b at ≤ length b)
NextAt claim b s at (Ok (next-record.TheVariants.Step rule m)) = StepAt claim b s at rule m
