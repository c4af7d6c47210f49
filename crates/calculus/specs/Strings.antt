-- "The strings: a class with a literal gets it; a class of length 1 gets the character of its code; then each other class .."
use Rattle.std.specs.Prelude.{ℕ, zero, suc, ◌/◌, ◌%◌, ◌^◌, Bool, true, false, List, [], ◌∷◌, ◌++◌, get_or, ltb, eqb, ℤ, pos, nat_abs}
use Rattle.std.proofs.Math.Option.{Option, none, some}
use Rattle.lists.specs.Lists.{any, eq_list}
use Rattle.calculus.specs.Alphabet.{character_count, character}
use Rattle.calculus.specs.LinearForms.{eqℤ}
use Rattle.calculus.specs.Facts.{Question, Branch, len, code, literal}
use Rattle.calculus.specs.Classes.{labels, class_literal}
use Rattle.calculus.specs.Model.{model_value}
use Rattle.calculus.specs.SettledTest.{lowest_variable}

-- the k-th string of length l over n characters: "smallest .. by code points" is lexicographic
abbrev pub word : ℕ → ℕ → ℕ → List ℕ
word n zero k = []
word n (suc l) k = character n (k / character_count n ^ l) ∷ word n l (k % character_count n ^ l)

abbrev pub eq_string : List ℕ → List ℕ → Bool
eq_string s t = eq_list eqb s t

abbrev pub given : List ℕ → List (List ℕ) → Bool
given s ts = any (eq_string s) ts

-- the first string of length l from number k on that is not among ts, within fuel
abbrev pub fresh_from : ℕ → ℕ → ℕ → List (List ℕ) → ℕ → List ℕ
fresh_from zero n l ts k = word n l k
fresh_from (suc d) n l ts k = elim (given (word n l k) ts) [ true ↦ fresh_from d n l ts (suc k) | false ↦ word n l k ]

-- "a class with a literal gets it; a class of length 1 gets the character of its code"
abbrev pub one_char : Bool → ℤ → Option (List ℕ)
one_char true c = some (nat_abs c ∷ [])
one_char false c = none

abbrev pub fixed_by : Question → Option ℕ → ℤ → ℤ → Option (List ℕ)
fixed_by u (some l) z c = some (literal u l)
fixed_by u none z c = one_char (eqℤ z (pos 1)) c

abbrev pub fixed_string : Question → Branch → List ℤ → ℕ → Option (List ℕ)
fixed_string u b m x = fixed_by u (class_literal u b x) (model_value u m len x) (model_value u m code x)

-- what the first two rounds give to the first k variables
abbrev pub fixed_strings : Question → Branch → List ℤ → ℕ → List (List ℕ)
fixed_strings u b m zero = []
fixed_strings u b m (suc k) = elim (fixed_string u b m k) [ some s ↦ s ∷ fixed_strings u b m k | none ↦ fixed_strings u b m k ]

-- the string of the variable x, where done has those of the variables below it: "then each other class, by lowest variable, gets the smallest string
-- of its length, by code points, not yet given"
abbrev pub string_of : Question → Branch → List ℤ → ℕ → List (List ℕ) → List ℕ
string_of u b m x done = elim (fixed_string u b m x) [
  | some s ↦ s
  | none ↦
      elim (ltb (lowest_variable (labels b) x) x) [
        | true ↦ get_or done (lowest_variable (labels b) x) []
        | false ↦ fresh_from u.p u.n (nat_abs (model_value u m len x)) (fixed_strings u b m u.p ++ done) 0
      ]
]

abbrev pub strings_to : Question → Branch → List ℤ → ℕ → List (List ℕ)
strings_to u b m zero = []
strings_to u b m (suc x) = let done = strings_to u b m x in done ++ (string_of u b m x done ∷ [])

abbrev pub strings : Question → Branch → List ℤ → List (List ℕ)
strings u b m = strings_to u b m u.p
