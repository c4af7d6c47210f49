use mathlib.Core.Path.{◌≡◌, sym, ◌∙◌}
use mathlib.Core.Logic.{◌⊎◌, inl, inr}
use mathlib.Core.List.{List}
use Prim.Native.Nat.{ℕ, ◌+◌, ◌≤◌, ◌<◌}
use lib.ListN.{length}
use native.Mathlib.Omega.{arith}
use borrow.Author.Tests.{le-leb, lt-leb, eq-eqb, ne_eqb}
use Rattle.format.specs.Records.{size, kind}
use Rattle.format.specs.Question.{Progress}
use Rattle.format.specs.Reading.{claim_fault, claim_at}
use Rattle.question.specs.Progress.{progress_of}
use Rattle.delimiters.proofs.Ends.{cut_off}
use Rattle.records.proofs.Finding.{found_whole, all_there}
use Rattle.delimiters.proofs.read_claim.Goals as goal

pub returns-in_default-clause-fault : goal.returns-in_default-clause-fault
returns-in_default-clause-fault c =
    rw (lt-leb _ _ (cut_off c.args.ticket.now c.args.at _ c.read_at.ensures c.in_default.not-Whole))

-- no head was read, or the record is no claim
module _ (b : List ℕ) (s : Progress) (at k m : ℕ) (w : (k ≡ kind b at) × (m ≡ size b at) × (at + 6 + m ≤ length b)) where
  misplaced : (s.last < 1) ⊎ ((1 ≤ s.last) × (k ≡ 5 → ⊥)) → 4 ≡ claim_fault b s at
  misplaced (inl h) = rw (le-leb _ _ (all_there _ _ _ _ w), lt-leb 1 _ h)
  misplaced (inr (h, n)) = rw (le-leb _ _ (all_there _ _ _ _ w), le-leb 1 _ h, ne_eqb (kind b at) 5 (λ e. n (w.0 ∙ e)))

pub returns-then-s-lt-HEAD_RANK-clause-fault : goal.returns-then-s-lt-HEAD_RANK-clause-fault
returns-then-s-lt-HEAD_RANK-clause-fault c =
    let w = found_whole c.args.ticket.now c.args.at _ _ (sym c.read_at.ensures ∙ c.in-Whole.is) in
    misplaced c.args.ticket.now (progress_of c.args.ticket.now c.args.s) c.args.at _ _ w c.then-s-lt-HEAD_RANK.either

pub returns-then-size-ne2-clause-fault : goal.returns-then-size-ne2-clause-fault
returns-then-size-ne2-clause-fault c =
    let w = found_whole c.args.ticket.now c.args.at _ _ (sym c.read_at.ensures ∙ c.in-Whole.is) in
    rw (
      le-leb _ _ (all_there _ _ _ _ w),
      le-leb 1 _ c.if-s-lt-HEAD_RANK.false,
      eq-eqb (kind c.args.ticket.now c.args.at) 5 (sym w.0 ∙ c.if-kind-ne-KIND_CLAIM.false),
      ne_eqb (size c.args.ticket.now c.args.at) 2 (λ e. c.if-size-ne2.true (w.1 ∙ e)),
    )

pub returns-clause-fault : goal.returns-clause-fault
returns-clause-fault c =
    let w = found_whole c.args.ticket.now c.args.at _ _ (sym c.read_at.ensures ∙ c.in-Whole.is) in
    let number : c.u16_at.result ≡ claim_at c.args.ticket.now c.args.at = c.u16_at.ensures.0 in
    c.try_from.ensures.0
    ∙ rw (
      le-leb _ _ (all_there _ _ _ _ w),
      le-leb 1 _ c.if-s-lt-HEAD_RANK.false,
      eq-eqb (kind c.args.ticket.now c.args.at) 5 (sym w.0 ∙ c.if-kind-ne-KIND_CLAIM.false),
      eq-eqb (size c.args.ticket.now c.args.at) 2 (sym w.1 ∙ c.if-size-ne2.false),
      ← number,
    )

pub overflow_add-at : goal.overflow_add-at
overflow_add-at c =
    omega (arith, (found_whole c.args.ticket.now c.args.at _ _ (sym c.read_at.ensures ∙ c.in-Whole.is)).2)

pub u16_at-requires : goal.u16_at-requires
u16_at-requires c =
    omega (arith, (found_whole c.args.ticket.now c.args.at _ _ (sym c.read_at.ensures ∙ c.in-Whole.is)).2)
