-- The part shown of the question or of the answer: it lies within, or nothing is shown.
use Prim.Native.Nat.{ℕ, ◌-◌, ◌≤◌}
use native.Mathlib.Omega.{arith}
use mathlib.Core.Path.{◌≡◌, refl, sym, ◌∙◌, ap, subst}
use mathlib.Core.Bool.{Bool, true, false, cond}
use mathlib.Core.List.{List}
use lib.ListN.{length, drop, length-drop}
use lib.Seq.{length-take-le}
use lib.Dec.{leb}
use borrow.Author.Tests.{leb-true}
use denote.Ref.{Bor}
use Rattle.lists.proofs.Tests.{and_both}
use Rattle.format.specs.Judging.{Side, of_question, of_answer, Shown, nothing_shown, by_side, part_within}
use Rattle.judging.specs.Parts.{Part, PartShown}

pub ends_within : (question-length answer_length : ℕ) (s : Shown) → part_within question-length answer_length s ≡ true
    → (s.from ≤ s.to) × (s.to ≤ by_side s.side question-length answer_length)
ends_within question-length answer_length s e =
    let end : ℕ = by_side s.side question-length answer_length in
    let (h, g) = and_both (leb s.from s.to) (leb s.to end) e in
    (leb-true s.from s.to h, leb-true s.to end g)

module _ (q v : Bor (List ℕ)) (s : Shown) (part : Bor (List ℕ)) where
  abbrev inside : Bool
  inside = part_within (length q.now) (length v.now) s

  abbrev By : Bool → Type 0
  By x = let t : Shown = cond x s nothing_shown in Part (by_side t.side q v) part t.from t.to

  pub part_shown : inside ≡ true → Part (by_side s.side q v) part s.from s.to → PartShown q v s part
  unfolding PartShown
  part_shown e p = subst By (sym e) p

  pub nothing_shown_law : inside ≡ false → Part q part 0 0 → PartShown q v s part
  unfolding PartShown
  nothing_shown_law e p = subst By (sym e) p

  pub shown_part : inside ≡ true → PartShown q v s part → Part (by_side s.side q v) part s.from s.to
  unfolding PartShown
  shown_part e p = subst By e p

  -- as long as said
  pub part_length : inside ≡ true → PartShown q v s part → length part.now ≡ s.to - s.from
  part_length e h =
      let p = shown_part e h in
      let (order, end) = ends_within (length q.now) (length v.now) s e in
      let whole : List ℕ = (by_side s.side q v).now in
      ap length p.bytes
      ∙ length-take-le (s.to - s.from) (drop s.from whole) (omega (arith, length-drop s.from whole, length_side s.side, order, end))
    where
      length_side : (side : Side) → length (by_side side q v).now ≡ by_side side (length q.now) (length v.now)
      length_side of_question = refl
      length_side of_answer = refl
