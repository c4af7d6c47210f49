-- Where the question was read and the claim is good, the ticket's steps may be worked on, and its core is theirs.
use Prim.Native.Nat.{ℕ, ◌+◌}
use mathlib.Core.Path.{◌≡◌, refl, ◌∙◌, ap}
use mathlib.Core.List.{List, map}
use Rattle.calculus.specs.Steps.{Step}
use Rattle.calculus.specs.Cores.{core_in}
use Rattle.format.specs.Question as format
use Rattle.format.specs.Question.{checking_manner, question, question_form}
use Rattle.format.specs.Reading.{claim_fault}
use Rattle.format.specs.Cores.{core}
use Rattle.format.proofs.Claimed.{Claimed, claimed→form, claimed_asked, claimed_steps}
use Rattle.format.proofs.Cores.{core_asked_law}
use Rattle.format.proofs.Standing.{question_few}
use Rattle.question.specs.declared.Progress.{Progress}
use Rattle.question.specs.Progress.{numbers_of, progress_of}
use Rattle.question.specs.Posed.{asked, extended_asked, Posed}
use Rattle.delimiters.proofs.Claiming.{read_question, claim_good, claim_ends}
use Rattle.claims.specs.Outcomes.{steps_from}
use Rattle.deciding.specs.Outcomes.{ReadToClaim}

pub read_to : (b : List ℕ) (s : Progress) (at r : ℕ) → question b ≡ format.Ended (progress_of b s) at r → ReadToClaim b s at r
read_to b s at r e = (read_question checking_manner b s at r e, e)

module _ (b : List ℕ) (s : Progress) (at r : ℕ) (to : ReadToClaim b s at r) (good : claim_fault b (progress_of b s) at ≡ 0) where
  pub posed : Posed b s
  posed = record {
    to = at;
    stands = to.0.stands;
    head = (claim_good b (progress_of b s) at good).head;
    short = to.0.short;
    few_constraints = question_few checking_manner refl b (numbers_of s) at r to.1;
  }

  claimed : Claimed b (question_form b) (asked b s)
  unfolding asked extended_asked
  claimed = claimed→form (record { last = s.last; extended = extended_asked b s; position = at; number = r; ended = to.1; claim_formed = good })

  -- the steps of "the union over all closing steps" are those after the claim, a record of 8 bytes
  pub core_behind : core b ≡ core_in (asked b s) (steps_from b (at + 8))
  unfolding claimed
  core_behind =
      core_asked_law b (asked b s) (claimed_asked claimed)
      ∙ ap (λ (ts : List (Step × ℕ)). core_in (asked b s) (map (λ (t : Step × ℕ). t.0) ts)) (claimed_steps claimed)
      ∙ ap (λ (next : ℕ). core_in (asked b s) (steps_from b next)) (claim_ends b (progress_of b s) at good)
