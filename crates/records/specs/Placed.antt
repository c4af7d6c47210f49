-- Where records stand.
use Rattle.std.specs.Prelude.{ℕ, ◌≤◌, ◌≡◌, List, get_or}
use Rattle.format.specs.Places.{skip}

-- the positions of the first records from a position on, and of what stands after them
abbrev pub Placed : List ℕ → ℕ → ℕ → List ℕ → Type 0
Placed b from count places = (x : ℕ) → x ≤ count → get_or places x 0 ≡ skip b x from
