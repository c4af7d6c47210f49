-- The text of a literal in the bytes.
use Rattle.std.specs.Prelude.{ℕ, ◌+◌, ◌*◌, ◌≤◌, ◌≡◌, List, [], ◌∷◌, length, get_or}
use Rattle.format.specs.Fields.{u32s}
use Rattle.format.specs.Places.{texts, literals_from}
use Rattle.question.specs.declared.Text.{Text}

-- it stands within the bytes, and is that of literal l among the first k, whichever k that reaches l
abbrev pub LiteralText : List ℕ → ℕ → Text → Type 0
LiteralText b l r = (r.at + 4 * r.count ≤ length b) × ((k : ℕ) → l ≤ k → u32s b r.at r.count ≡ get_or ([] ∷ texts b k literals_from) l [])
