-- A record where a branch is open: refused whatever the branch, or a step of proper form.
use Prim.Native.Nat.{ℕ, ◌+◌, ◌<◌}
use mathlib.Core.Path.{◌≡◌, refl, sym, ◌∙◌, ap}
use mathlib.Core.Logic.{inl, inr}
use mathlib.Core.Bool.{false}
use mathlib.Core.List.{List, []}
use lib.ListN.{length}
use lib.IntN.{ℤ}
use Rattle.std.specs.Prelude.{Ok, Err}
use Rattle.calculus.specs.Facts.{Branch}
use Rattle.faults.specs.Numbers.{number}
use Rattle.faults.specs.declared.Fault.{Fault}
use Rattle.faults.specs.declared.Fault.TheVariants.{CutShort}
use Rattle.question.proofs.Refusals.{numbered}
use Rattle.format.specs.Records.{size, next}
use Rattle.format.specs.StepForms.{rule as rule_at}
use Rattle.format.specs.Checking as format
use Rattle.format.specs.Checking.{checker, accepted, outcome_of}
use Rattle.format.proofs.StepTurns.{turn_none}
use Rattle.records.specs.Found.{WholeRecord}
use Rattle.records.proofs.Finding.{all_there}
use Rattle.question.specs.declared.Progress.{Progress}
use Rattle.question.specs.Posed.{asked}
use Rattle.rows.specs.Rows.{branch_of}
use Rattle.delimiters.specs.declared.Claim.{Claim}
use Rattle.delimiters.specs.declared.Claim.TheVariants.{NoSolution, Strings}
use Rattle.delimiters.specs.Claims.{open_under, ends_at}
use Rattle.delimiters.specs.Numbers.{open_fault}
use Rattle.delimiters.proofs.Open.{RefusedOpen, refused_open}
use Rattle.steps.specs.declared.Rule.{Rule}
use Rattle.steps.specs.Rules.{rule_named}
use Rattle.steps.specs.Forms.{Formed}
use Rattle.steps.specs.Faults.{fault_under}
use Rattle.steps.specs.Offered.{offered, tried_under}
use Rattle.steps.proofs.Numbers.{tried_by, form_refused, its_kind, its_form, its_field, its_trial}
use Rattle.calculus.proofs.Walks.{Pending}
use Rattle.claims.specs.declared.Next.TheVariants.{Step}
use Rattle.claims.specs.Outcomes.{outcome_from}
use Rattle.claims.specs.Steps.{NextAt}

module _ (b : List ℕ) (s : Progress) (at : ℕ) where
  -- the number that a step is tried for is that of checking
  by_checking : (claim : Claim) (w : List ℤ) (count : ℕ) (ss : Pending)
      → tried_under claim b s (at + 6) (size b at) w count (length ss)
      ≡ tried_by (checker (asked b s)) claim b (branch_of w count) ss (at + 6) (size b at)
  unfolding offered
  by_checking NoSolution w count ss = refl
  by_checking Strings w count ss = refl

  pub none_there : (claim : Claim) → length b < next b at → NextAt claim b s at (Err CutShort)
  unfolding NextAt
  none_there claim h br ss r = ap outcome_of (turn_none (checker (asked b s)) b (asked b s) (open_under claim br ss) r at h)

  -- an end where a branch is open is 11
  unclosed : (claim : Claim) (br : Branch) (ss : Pending) (r : ℕ) → accepted (asked b s) (open_under claim br ss) r ≡ format.Refused 11 r
  unclosed NoSolution br ss r = refl
  unclosed Strings br ss r = refl

  -- a whole record that does not end the steps
  module _ (claim : Claim) (k m : ℕ) (w : WholeRecord b at k m) (e : ends_at claim k ≡ false) where
    abbrev number_there : ℕ
    number_there = open_fault (length b) (at + 6 + m) k m (fault_under claim b s (at + 6) m)

    pub refused_there : (f : Fault) → number f ≡ number_there → NextAt claim b s at (Err f)
    unfolding NextAt
    refused_there f q br ss r =
        by_end (refused_open (checker (asked b s)) b (asked b s) (open_under claim br ss) at r (all_there b at k m w) (number f)
        (form_refused (checker (asked b s)) b s br ss at claim k m w e (number f) q (numbered f)) (numbered f))
      where
        by_end : RefusedOpen (checker (asked b s)) b (asked b s) (open_under claim br ss) at r (number f)
            → outcome_from b s (open_under claim br ss) r at ≡ format.Refused (number f) r
        by_end (inl d) = ap outcome_of d
        by_end (inr (eleven, d)) = ap outcome_of d ∙ unclosed claim br ss r ∙ ap (λ c. format.Refused c r) (sym eleven)

    module _ (z : 0 ≡ number_there) where
      pub formed_there : Formed b (asked b s) (at + 6) m
      formed_there = its_form (checker (asked b s)) b s [] [] at claim k m w e z

      pub step_there : (r : Rule) → rule_named r ≡ rule_at b (at + 6) → NextAt claim b s at (Ok (Step r m))
      unfolding NextAt
      step_there r named = record {
        sized = w.1;
        whole = all_there b at k m w;
        step = its_kind (checker (asked b s)) b s [] [] at claim k m w e z;
        named = named;
        formed = formed_there;
        field = its_field (checker (asked b s)) b s [] [] at claim k m w e z;
        tried = λ v count ss.
            by_checking claim v count ss
            ∙ its_trial (checker (asked b s)) b s (branch_of v count) ss at claim k m w e z;
      }
