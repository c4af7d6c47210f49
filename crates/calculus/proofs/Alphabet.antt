-- What holds of the alphabet: the theorems about rules, strings and bytes rest on these laws alone.
use Prim.Native.Nat.{ℕ, ◌-◌, ◌<◌, ◌≤◌}
use native.Mathlib.Omega.{arith}
use mathlib.Core.Path.{◌≡◌, refl}
use mathlib.Core.Logic.{inl, inr}
use mathlib.Core.List.{[], ◌∷◌}
use lib.Dec.{T, ltb, ltb→lt, lt→ltb}
use Rattle.lists.specs.Lists.{Any}
use Rattle.calculus.specs.Alphabet.{character_count, character, code_ranges, Character, is_character}

-- the code c is in a range, by its first and last
abbrev pub InCodes : ℕ → ℕ × ℕ → Type 0
InCodes c r = (r.0 ≤ c) × (c ≤ r.1)

-- ---- characters and their places

pub some_character : (n : ℕ) → 1 ≤ n → 1 ≤ character_count n
unfolding character_count
some_character n h = h

-- the k-th character is one
pub character_at : (n k : ℕ) → k < character_count n → Character n (character n k)
unfolding character_count character Character
character_at n k h = h

-- each character has a place
unfoldable pub place_of : ℕ → ℕ → ℕ
place_of n c = c

pub character_place : (n c : ℕ) → Character n c → place_of n c < character_count n
unfolding character_count Character place_of
character_place n c h = h

pub at_place : (n c : ℕ) → Character n c → character n (place_of n c) ≡ c
unfolding character place_of
at_place n c h = refl

-- different places give different characters
pub character_injective : (n i j : ℕ) → character n i ≡ character n j → i ≡ j
unfolding character
character_injective n i j e = e

-- a later place gives a greater character
pub character_rising : (n i j : ℕ) → i < j → character n i < character n j
unfolding character
character_rising n i j h = h

-- ---- codes

pub character_below : (n c : ℕ) → Character n c → c < n
unfolding Character
character_below n c h = h

-- the test
pub character→ : (n c : ℕ) → T (is_character n c) → Character n c
unfolding Character is_character
character→ n c t = ltb→lt c n t

pub →character : (n c : ℕ) → Character n c → T (is_character n c)
unfolding Character is_character
→character n c h = lt→ltb c n h

-- the characters are the codes in the ranges
pub ranges→ : (n c : ℕ) → 1 ≤ n → Any (InCodes c) (code_ranges n) → Character n c
unfolding code_ranges Character
ranges→ n c h (inl (_, g)) = omega arith
ranges→ n c h (inr g) = absurd g

pub →ranges : (n c : ℕ) → Character n c → Any (InCodes c) (code_ranges n)
unfolding code_ranges Character
→ranges n c h = inl (omega arith, omega arith)

-- ---- as code has them

pub count_is : (n : ℕ) → character_count n ≡ n
unfolding character_count
count_is n = refl

pub character_is : (n k : ℕ) → character n k ≡ k
unfolding character
character_is n k = refl

pub ranges_are : (n : ℕ) → code_ranges n ≡ (0, n - 1) ∷ []
unfolding code_ranges
ranges_are n = refl

pub test_is : (n c : ℕ) → is_character n c ≡ ltb c n
unfolding is_character
test_is n c = refl
