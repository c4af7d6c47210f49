-- Demand 2 of the code: what judge_answer says is what the theory says (Th3), and what show gives of it is the record concerned (ThL1).
use mathlib.Core.Path.{◌≡◌, sym, subst}
use mathlib.Core.List.{List}
use Prim.Native.Nat.{ℕ}
use denote.Ref.{Bor}
use Rattle.calculus.specs.Facts.{Question}
use Rattle.calculus.specs.Meaning.{Assignment}
use Rattle.calculus.specs.Extended.{Extended}
use Rattle.format.specs.Judging.{Submitted, submission, shown_by, Shown, by_side}
use Rattle.format.specs.Demands.{TrueJudgement, Shows}
use Rattle.format.proofs.Demands.{demands}
use Rattle.judging.specs.declared.Finding.{Finding}
use Rattle.judging.specs.Judgements.{judgement_of, shown_of, Finds}
use Rattle.judging.specs.Parts.{Part, PartShown}
use Rattle.judging.proofs.Parts.{shown_part}

-- from the promises as they stand
module _ (question answer : Bor (List ℕ)) (r : Finding) (h : Finds question.now answer.now (submission question.now answer.now) r) where
  abbrev b : List ℕ
  b = question.now

  abbrev v : List ℕ
  v = answer.now

  pub judges : (u : Question) (es : List Extended) (a : Assignment) → submission b v ≡ Submitted u es a → TrueJudgement b v (judgement_of r.said) u es a
  judges u es a e = subst (λ j. TrueJudgement b v j u es a) (sym h.says) (demands.th_3 b v u es a e)

  pub shows : Shows b v (submission b v) (shown_of r.shown)
  shows = subst (Shows b v (submission b v)) (sym h.shows) (demands.th_l1 b v)

  -- the slice that is returned is a part of the question or of the answer, from and to where the definition says
  pub part_of : {part : Bor (List ℕ)} → PartShown question answer (shown_of r.shown) part →
      let s : Shown = shown_by b v (submission b v) in
      Part (by_side s.side question answer) part s.from s.to
  part_of {part} p =
      subst (λ (s : Shown). Part (by_side s.side question answer) part s.from s.to) h.shows
      (shown_part question answer (shown_of r.shown) part shows.lies_within p)
