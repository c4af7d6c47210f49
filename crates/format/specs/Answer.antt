-- The answer: "one record of kind 9 for each string variable (its characters, u32 each, 0 to 64), one of kind 10 (q i32 values), one of kind 8".
use Rattle.std.specs.Prelude.{ℕ, zero, suc, ◌+◌, ◌*◌, ◌%◌, Bool, true, false, ◌&&◌, length, leb, eqb, ℤ}
use Rattle.std.proofs.Math.Option.{Option, none, some}
use mathlib.Core.List.{List, [], ◌++◌, flat_map}
use Rattle.calculus.specs.Facts.{Question}
use Rattle.calculus.specs.Alphabet.{all_characters}
use Rattle.calculus.specs.Meaning.{Assignment}
use Rattle.calculus.specs.Limits.{length_limit, value_limit}
use Rattle.format.specs.Fields.{bytes_of, unsigned, i32s, all_within}
use Rattle.format.specs.Records.{size, kind, next, whole}
use Rattle.format.specs.Places.{skip, text_at, texts}

-- ---- strings and integers as bytes

abbrev pub record_bytes : ℕ → List ℕ → List ℕ
record_bytes k body = bytes_of 4 (length body) ++ (bytes_of 2 k ++ body)

unfoldable pub character_bytes : List ℕ → List ℕ
character_bytes s = flat_map (bytes_of 4) s

unfoldable pub integer_bytes : List ℤ → List ℕ
integer_bytes zs = flat_map (λ z. bytes_of 4 (unsigned z)) zs

unfoldable pub string_records : List (List ℕ) → List ℕ
string_records ss = flat_map (λ s. record_bytes 9 (character_bytes s)) ss

unfoldable pub encode : Assignment → List ℕ
encode a = string_records a.strs ++ (record_bytes 10 (integer_bytes a.ints) ++ record_bytes 8 [])

-- ---- bytes as strings and integers

-- a whole record of kind k and size m stands at a position
abbrev pub record_is : List ℕ → ℕ → ℕ → ℕ → Bool
record_is b at k m = whole b at && (eqb (kind b at) k && eqb (size b at) m)

-- a string's record: "its characters, u32 each, 0 to 64"
abbrev pub string_form : List ℕ → ℕ → Bool
string_form b at = whole b at && (eqb (kind b at) 9 && (eqb (size b at % 4) 0 && leb (size b at) (4 * length_limit)))

-- p records of strings from a position on, then one of q integers, then the end record, and nothing after
unfoldable pub answer_form : List ℕ → ℕ → ℕ → ℕ → Bool
answer_form b zero q at = record_is b at 10 (4 * q) && (record_is b (next b at) 8 0 && eqb (next b (next b at)) (length b))
answer_form b (suc p) q at = string_form b at && answer_form b p q (next b at)

abbrev pub integers_at : List ℕ → ℕ → ℕ → List ℤ
integers_at b q at = i32s b (at + 6) q

abbrev pub assignment_of : List ℕ → Question → Assignment
assignment_of b u = record { strs = texts b u.p 0; ints = integers_at b u.q (skip b u.p 0) }

-- "16 (the answer's first such record) when a character is not below n or an integer is outside ±100,000,000":
-- that record, from record r at a position on, where p of strings and one of integers are left
unfoldable pub outside : List ℕ → Question → ℕ → ℕ → ℕ → Option ℕ
outside b u zero r at = elim (all_within value_limit (integers_at b u.q at)) [ true ↦ none | false ↦ some r ]
outside b u (suc p) r at = elim (all_characters u.n (text_at b at)) [ true ↦ outside b u p (suc r) (next b at) | false ↦ some r ]
