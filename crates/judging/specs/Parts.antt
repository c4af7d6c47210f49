-- A part of a lent slice: which bytes it has, and where it stands.
use Rattle.std.specs.Prelude.{ℕ, ◌+◌, ◌-◌, ◌≡◌, cond, List, length, take, drop}
use Rattle.std.specs.Borrow.{Bor}
use Rattle.format.specs.Judging.{Shown, nothing_shown, by_side, part_within}

-- part is whole from a position up to another: these bytes, in the same block and at that offset, so neither a copy nor bytes of another slice
pub record Part (whole part : Bor (List ℕ)) (from to : ℕ) : Type 0 where
  pub bytes : part.now ≡ take (to - from) (drop from whole.now)
  pub block : part.ref_ptr.0 ≡ whole.ref_ptr.0
  pub offset : part.ref_ptr.1 ≡ whole.ref_ptr.1 + from

-- the part of the question or of the answer; "an empty part of the question" where it does not lie within
unfoldable pub PartShown : Bor (List ℕ) → Bor (List ℕ) → Shown → Bor (List ℕ) → Type 0
PartShown question answer s part =
    let t : Shown = cond (part_within (length question.now) (length answer.now) s) s nothing_shown in
    Part (by_side t.side question answer) part t.from t.to
