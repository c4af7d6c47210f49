use mathlib.Core.Path.{◌≡◌, refl, ◌∙◌, sym, ap, ap₂}
use mathlib.Core.Bool.{Bool, true, false}
use mathlib.Core.List.{List}
use Prim.Native.Nat.{ℕ, ◌+◌, ◌≤◌}
use native.Mathlib.Omega.{arith}
use lib.ListN.{length}
use Rattle.format.specs.Records.{kind, size, need}
use Rattle.format.specs.Question.{literal_rank, rank_of, rank_in_place, in_place, question_body_fault, room_for, question_fault}
use Rattle.format.specs.Places.{skip, literals_from}
use Rattle.format.proofs.Places.{length_texts, length_facts, length_extended}
use Rattle.question.specs.declared.Manner.{Manner}
use Rattle.question.specs.declared.Progress.{Progress}
use Rattle.question.specs.Progress.{manner_of, numbers_of, progress_of}
use Rattle.question.specs.Standing.{StandsTo}
use Rattle.format.proofs.RecordFaults.{behind_head, out_of_place, ill_formed, by_room}
use Rattle.format.proofs.Standing.{literals_within}
use Rattle.std.proofs.lemmas.Result.{err_from_is_err_and}
use Rattle.question.proofs.Refusals.{numbered}
use Rattle.question.proofs.record_fault.Goals as goal
use Rattle.question.proofs.record_fault.Goals.{After-has_room}

-- the tests as the code holds them
module _ (m : Manner) (b : List ℕ) (s : Progress) (at k n : ℕ) (w : (k ≡ kind b at) × (n ≡ size b at) × (at + 6 + n ≤ length b)) (r : ℕ) (er : r ≡ rank_of k)
    (t : Bool) (et : t ≡ rank_in_place m.greatest s.last s.literals r) where
  same_place : (x : Bool) → t ≡ x → in_place m.greatest (progress_of b s) k ≡ x
  same_place x e =
      ap (λ l. rank_in_place m.greatest s.last l (rank_of k)) (length_texts b s.literals literals_from)
      ∙ ap (rank_in_place m.greatest s.last s.literals) (sym er) ∙ sym et ∙ e

  misplaced : t ≡ false → 4 ≡ question_fault (manner_of m) b (progress_of b s) at
  misplaced e = out_of_place (manner_of m) b (progress_of b s) at k n w.0 w.1 w.2 (same_place false e)

  -- the literals are compared with a further one after the head only
  literals_there : StandsTo b s at → t ≡ true → rank_of k ≡ literal_rank → skip b s.literals literals_from ≤ length b
  literals_there h e z =
      let rank : r ≡ literal_rank = er ∙ z in
      literals_within b (numbers_of s) at s.literals h (behind_head m.greatest s.last s.literals r (sym et ∙ e) (λ y. absurd (omega arith))).head_read
      (omega arith)

  module _ (e : t ≡ true) (f : ℕ) (ef : f ≡ question_body_fault b (progress_of b s).question k (at + 6) n) where
    misformed : (f ≡ 0 → ⊥) → f ≡ question_fault (manner_of m) b (progress_of b s) at
    misformed z = ill_formed (manner_of m) b (progress_of b s) at k n w.0 w.1 w.2 f (same_place true e) ef z

    by_rank_law : (room x : Bool)
        → f ≡ 0
        → room ≡ room_for m.limited r (s.constraints + s.extended)
        → room ≡ x
        → need 10 x 0 ≡ question_fault (manner_of m) b (progress_of b s) at
    by_rank_law room x z g h = by_room (manner_of m) b (progress_of b s) at k n w.0 w.1 w.2 f (same_place true e) ef x z
        (ap (room_for m.limited (rank_of k)) (ap₂ ◌+◌ (length_facts b s.constraints from) (length_extended b s.extended (skip b s.constraints from)))
        ∙ ap (λ y. room_for m.limited y (s.constraints + s.extended)) (sym er) ∙ sym g ∙ h)
      where
        from : ℕ
        from = skip b s.literals literals_from

pub returns-then-not-in_place : goal.returns-then-not-in_place
returns-then-not-in_place c =
    misplaced c.args.m c.args.b.now c.args.s _ _ _ c.requires.kind_value _ c.rank_of-rank.ensures _ c.in_place.ensures c.if-not-in_place.true

pub body_fault-requires : goal.body_fault-requires
body_fault-requires c = (
  omega arith,
  literals_there c.args.m c.args.b.now c.args.s _ _ _ c.requires.kind_value _ c.rank_of-rank.ensures _ c.in_place.ensures
      c.requires.stands_to c.if-not-in_place.false,
  c.requires.stands_to.few_strings,
  c.requires.stands_to.few_integers,
)

pub returns-in_err-body_fault : goal.returns-in_err-body_fault
returns-in_err-body_fault c =
    let p = err_from_is_err_and c.from_residual.result c.from_residual.ensures.1 in
    rw (p.1, p.2) (misformed c.args.m c.args.b.now c.args.s _ _ _ c.requires.kind_value _ c.rank_of-rank.ensures _ c.in_place.ensures c.if-not-in_place.false
    _ c.in_err-body_fault.ensures (numbered _))

-- a body without fault, by whether it finds room
roomy : (c : After-has_room) (x : Bool) → c.has_room.result ≡ x
    → need 10 x 0 ≡ question_fault (manner_of c.args.m) c.args.b.now (progress_of c.args.b.now c.args.s) c.args.at
roomy c x e =
    by_rank_law c.args.m c.args.b.now c.args.s _ _ _ c.requires.kind_value _ c.rank_of-rank.ensures _ c.in_place.ensures c.if-not-in_place.false
    _ c.in_ok-body_fault.ensures c.has_room.result x refl c.has_room.ensures e

pub returns-then-not-has_room : goal.returns-then-not-has_room
returns-then-not-has_room c = roomy (goal.at.returns-then-not-has_room c).After-has_room false c.if-not-has_room.true

pub returns : goal.returns
returns c = roomy (goal.at.returns c).After-has_room true c.if-not-has_room.false
