-- The text of a literal by the place of its record.
use Prim.Native.Nat.{ℕ, zero, suc, ◌+◌, ◌-◌, ◌/◌, ◌≤◌, ◌<◌}
use native.Mathlib.Omega.{arith}
use mathlib.Core.Path.{◌≡◌, sym}
use mathlib.Core.List.{List, [], ◌∷◌}
use lib.ListN.{length, get_or}
use Rattle.lists.proofs.Lists.{down}
use Rattle.format.specs.Fields.{u32s}
use Rattle.format.specs.Records.{size, next}
use Rattle.format.specs.Places.{skip, texts, literals_from}
use Rattle.format.proofs.Places.{skip_room, text_at_law}
use Rattle.question.specs.Texts.{LiteralText}

-- literal 0
pub empty_text : (b : List ℕ) (l : ℕ) → l ≡ 0 → LiteralText b l (record { at = 0; count = 0 })
unfolding u32s
empty_text b l e = (omega arith, λ k h. rw e)

-- a written one, at the position and of the size that were read
written_is : (b : List ℕ) (l k at m : ℕ) → 0 < l → l ≤ k → at ≡ skip b (l - 1) literals_from → m ≡ size b at
    → u32s b (at + 6) (m / 4) ≡ get_or ([] ∷ texts b k literals_from) l []
written_is b zero k at m x g ea em = absurd (omega arith)
written_is b (suc l) k at m x g ea em = rw (em, ea, down l) (sym (text_at_law b l k literals_from (omega arith)))

module _ (b : List ℕ) (l at : ℕ) (w : 0 < l) (h : skip b l literals_from ≤ length b) (e : at ≡ skip b (l - 1) literals_from) where
  pub record_there : next b at ≤ length b
  record_there = rw e (omega (arith, skip_room b (l - 1) l literals_from (omega arith)))

  pub written_text : (m : ℕ) → m ≡ size b at → LiteralText b l (record { at = at + 6; count = m / 4 })
  written_text m em = (omega (arith, record_there), λ k g. written_is b l k at m w g e em)
