-- The alphabet: "an alphabet of n characters numbered 0 to n−1". Characters and their number are spoken of by these names alone; what holds of them is in
-- proofs/Alphabet.
use Rattle.std.specs.Prelude.{ℕ, ◌-◌, ◌<◌, Bool, List, [], ◌∷◌, ltb}
use Rattle.lists.specs.Lists.{All, all}

-- how many characters there are
unfoldable pub character_count : ℕ → ℕ
character_count n = n

-- the k-th character, from 0
unfoldable pub character : ℕ → ℕ → ℕ
character n k = k

-- the ranges of characters in rising order, each by its first and last code
unfoldable pub code_ranges : ℕ → List (ℕ × ℕ)
code_ranges n = (0, n - 1) ∷ []

-- c is a character
unfoldable pub Character : ℕ → ℕ → Type 0
Character n c = c < n

unfoldable pub is_character : ℕ → ℕ → Bool
is_character n c = ltb c n

-- a string over the alphabet
abbrev pub Over : ℕ → List ℕ → Type 0
Over n s = All (Character n) s

unfoldable pub all_characters : ℕ → List ℕ → Bool
all_characters n s = all (is_character n) s
