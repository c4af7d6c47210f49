-- The program's lines, as bytes.
use Rattle.std.specs.Prelude.{ℕ, zero, suc, ◌+◌, ◌/◌, ◌%◌, true, false, List, [], ◌∷◌, ◌++◌, length, ltb, ℤ, pos, negsuc}
use Rattle.calculus.specs.Meaning.{Assignment}

-- ---- numbers

-- a number in decimal, where so many digits will do
unfoldable pub digits : ℕ → ℕ → List ℕ
digits zero n = []
digits (suc k) n = elim (ltb n 10) [ true ↦ (48 + n) ∷ [] | false ↦ digits k (n / 10) ++ ((48 + n % 10) ∷ []) ]

-- every number of 64 bits has at most 20
abbrev pub decimal : ℕ → List ℕ
decimal n = digits 20 n

-- with a minus sign
abbrev pub integer : ℤ → List ℕ
integer (pos n) = decimal n
integer (negsuc n) = 45 ∷ decimal (suc n)

-- each after a space
unfoldable pub spaced : List ℕ → List ℕ
spaced [] = []
spaced (n ∷ ns) = 32 ∷ (decimal n ++ spaced ns)

-- ---- lines, each with its line end

-- "`verdict strings`"
abbrev pub strings_line : List ℕ
strings_line = 118 ∷ 101 ∷ 114 ∷ 100 ∷ 105 ∷ 99 ∷ 116 ∷ 32 ∷ 115 ∷ 116 ∷ 114 ∷ 105 ∷ 110 ∷ 103 ∷ 115 ∷ 10 ∷ []

-- "`verdict none`"
abbrev pub none_line : List ℕ
none_line = 118 ∷ 101 ∷ 114 ∷ 100 ∷ 105 ∷ 99 ∷ 116 ∷ 32 ∷ 110 ∷ 111 ∷ 110 ∷ 101 ∷ 10 ∷ []

-- "`refused 13 at 4` (number, record)"
abbrev pub refused_line : ℕ → ℕ → List ℕ
refused_line c r = (114 ∷ 101 ∷ 102 ∷ 117 ∷ 115 ∷ 101 ∷ 100 ∷ 32 ∷ []) ++ (decimal c ++ ((32 ∷ 97 ∷ 116 ∷ 32 ∷ []) ++ (decimal r ++ (10 ∷ []))))

-- "`x0 1 0` (variable, length, code points)"
abbrev pub string_line : ℕ → List ℕ → List ℕ
string_line k s = 120 ∷ (decimal k ++ (spaced (length s ∷ s) ++ (10 ∷ [])))

-- "Integers follow strings as `i0 -5`"
abbrev pub integer_line : ℕ → ℤ → List ℕ
integer_line k z = 105 ∷ (decimal k ++ (32 ∷ (integer z ++ (10 ∷ []))))

-- of the integers left, the first of which has number k
unfoldable pub integer_lines : ℕ → List ℤ → List ℕ
integer_lines k [] = []
integer_lines k (z ∷ zs) = integer_line k z ++ integer_lines (suc k) zs

-- "`end`"
abbrev pub end_line : List ℕ
end_line = 101 ∷ 110 ∷ 100 ∷ 10 ∷ []

-- ---- the answer

-- of the strings left, the first of which has number k
unfoldable pub string_lines : ℕ → List (List ℕ) → List ℕ
string_lines k [] = []
string_lines k (s ∷ ss) = string_line k s ++ string_lines (suc k) ss

-- the strings, "Integers follow strings", and the end
abbrev pub answer_lines : Assignment → List ℕ
answer_lines a = string_lines 0 a.strs ++ (integer_lines 0 a.ints ++ end_line)
