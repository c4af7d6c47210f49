-- What the code finds at a position, from the definitions of the format.
use Rattle.std.specs.Prelude.{ℕ, ◌+◌, ◌≤◌, ◌≡◌, List, cond, length}
use Rattle.format.specs.Records.{size, kind, leading_whole, whole}
use Rattle.records.specs.declared.Found.{Found}
use Rattle.records.specs.declared.Found.TheVariants.{Whole, Cut, Nothing}

unfoldable pub found_at : List ℕ → ℕ → Found
found_at b at = cond (leading_whole b at) (cond (whole b at) (Whole (kind b at) (size b at)) (Cut (kind b at))) Nothing

-- a record of kind k, with m bytes in its body, is all there
abbrev pub WholeRecord : List ℕ → ℕ → ℕ → ℕ → Type 0
WholeRecord b at k m = (k ≡ kind b at) × (m ≡ size b at) × (at + 6 + m ≤ length b)
