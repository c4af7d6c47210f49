-- Where a question was read, in whatever manner, and the claim after it is good, the steps may be read, by whatever method.
use Prim.Native.Nat.{ℕ, zero, suc, ◌+◌, ◌≤◌}
use native.Mathlib.Omega.{arith}
use native.Mathlib.Numerals.{add-one}
use mathlib.Core.Path.{◌≡◌, refl, sym, ◌∙◌, ap, ap₂}
use mathlib.Core.Bool.{Bool, true, false, cond}
use mathlib.Core.List.{List, []}
use lib.ListN.{length}
use lib.Dec.{leb, eqb}
use borrow.Author.Tests.{leb-true, leb-false, eqb-true}
use Rattle.lists.proofs.Tests.{and_both}
use Rattle.calculus.specs.Facts.{Question}
use Rattle.format.specs.Records.{kind, size, next}
use Rattle.format.specs.Question as format
use Rattle.format.specs.Question.{Manner, question_fault, unread, ending, read_on, read_in, question_advanced}
use Rattle.format.specs.Reading.{State, Method, Ticket, claim_fault, claim_at, begin, read_claim, steps_on}
use Rattle.format.proofs.Faults.{none_applies, clash}
use Rattle.format.proofs.Standing.{question_stands, question_short}
use Rattle.format.proofs.StepTurns.{claim_clean}
use Rattle.format.proofs.Turns.{read_none, read_ended, read_stopped, read_more, read_begin}
use Rattle.question.specs.declared.Progress.{Progress}
use Rattle.question.specs.Progress.{numbers_of, progress_of}
use Rattle.question.specs.Posed.{asked, ReadTo}
use Rattle.delimiters.specs.declared.Claim.{Claim}
use Rattle.delimiters.specs.declared.Claim.TheVariants.{NoSolution, Strings}
use Rattle.delimiters.specs.Claims.{claim_of, open_under}

-- ---- the question

-- each record takes six bytes at least
numbered : (test : List ℕ → format.Progress → ℕ → ℕ) (d : ℕ) (b : List ℕ) (s t : format.Progress) (r at to q : ℕ)
    → length b ≤ at + d
    → r ≤ at
    → read_on test b s r at ≡ format.Ended t to q
    → q ≤ to
numbered test zero b s t r at to q l h e = let g = read_none test b s r at (omega arith) in clash cc
numbered test (suc d) b s t r at to q l h e =
    go (leb (at + 6) (length b)) (ending (kind b at)) (test b s at) refl refl refl
    (numbered test d b (question_advanced b s at) t (suc r) (next b at) to q (omega arith) (omega arith))
  where
    go : (x y : Bool) (f : ℕ) → leb (at + 6) (length b) ≡ x → ending (kind b at) ≡ y → test b s at ≡ f
        → (read_on test b (question_advanced b s at) (suc r) (next b at) ≡ format.Ended t to q → q ≤ to) → q ≤ to
    go false y f ex ey ef later = let g = read_none test b s r at (leb-false _ _ ex) in clash cc
    go true true f ex ey ef later =
        let g = read_ended test b s r at (leb-true _ _ ex) ey in
        let here : at ≡ to = cc in
        let number : r ≡ q = cc in
        omega arith
    go true false (suc f) ex ey ef later = let g = read_stopped test b s r at f (leb-true _ _ ex) ey ef in clash cc
    go true false zero ex ey ef later = later (sym (read_more test b s r at (leb-true _ _ ex) ey ef) ∙ e)

pub read_question : (m : Manner) (b : List ℕ) (s : Progress) (at r : ℕ) → read_in m b ≡ format.Ended (progress_of b s) at r → ReadTo b s at r
read_question m b s at r e =
    let test : List ℕ → format.Progress → ℕ → ℕ = question_fault m in
    let (stands, headed) = question_stands m b (numbers_of s) at r e in
    let short = question_short m b (progress_of b s) at r e in
    record {
      stands = stands;
      headed = headed;
      short = short;
      low = numbered test (length b) b unread (progress_of b s) 0 0 at r (omega arith) (omega arith) (sym (read_begin test b short) ∙ e);
    }

-- ---- the claim

-- a claim without fault
pub record GoodClaim (b : List ℕ) (last at : ℕ) : Type 0 where
  pub whole : next b at ≤ length b
  pub head : 1 ≤ last
  pub two : size b at ≡ 2

pub claim_good : (b : List ℕ) (s : format.Progress) (at : ℕ) → claim_fault b s at ≡ 0 → GoodClaim b s.last at
claim_good b s at e =
    let (whole, e4) = none_applies 2 _ _ e in
    let (placed, e5) = none_applies 3 _ _ e4 in
    let (sized, e6) = none_applies 4 _ _ e5 in
    record {
      whole = leb-true _ _ whole;
      head = leb-true 1 s.last (and_both _ _ placed).0;
      two = eqb-true _ _ sized;
    }

pub claim_ends : (b : List ℕ) (s : format.Progress) (at : ℕ) → claim_fault b s at ≡ 0 → next b at ≡ at + 8
claim_ends b s at e = omega (arith, (claim_good b s at e).two)

-- ---- after the claim

module _ {B C : Type 0} (method : Question → Method B C) (b : List ℕ) (s : Progress) where
  abbrev opened : Claim → State B C
  opened claim = open_under claim (method (asked b s)).root []

  pub opens : (k : ℕ) → begin (method (asked b s)) k ≡ opened (claim_of k)
  opens k = go (eqb k 1)
    where
      go : (t : Bool) → cond t (opened NoSolution) (opened Strings) ≡ opened (cond t NoSolution Strings)
      go true = refl
      go false = refl

  module _ (at r : ℕ) (e : claim_fault b (progress_of b s) at ≡ 0) (claim : Claim) (f : claim ≡ claim_of (claim_at b at)) where
    abbrev started : State B C → ℕ → ℕ → Ticket B C
    started = steps_on (method (asked b s)) b (asked b s)

    pub claims_so : read_claim method b (progress_of b s) at r ≡ started (opened claim) (r + 1) (at + 8)
    unfolding asked
    claims_so =
        claim_clean method b (progress_of b s) at r e
        ∙ ap (λ st. started st (suc r) (next b at)) (opens (claim_at b at) ∙ ap opened (sym f))
        ∙ ap₂ (started (opened claim)) (sym (add-one r)) (claim_ends b (progress_of b s) at e)
