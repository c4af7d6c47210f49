-- The answer's bytes: their lengths, and records one after another.
use mathlib.Core.Path.{◌≡◌, refl, ◌∙◌, ap, ap₂}
use mathlib.Core.List.{List, [], ◌∷◌, ◌++◌, flat_map}
use Prim.Native.Nat.{ℕ, zero, suc, ◌+◌, ◌*◌, ◌≤◌}
use native.Mathlib.Omega.{arith}
use lib.ListN.{length, length-append}
use lib.IntN.{ℤ}
use Rattle.lists.proofs.Lists.{length_flat_map, flat_map_snoc}
use Rattle.lists.specs.Lists.{All}
use Rattle.calculus.specs.Limits.{variable_limit, length_limit, answer_bytes}
use Rattle.calculus.specs.Meaning.{Assignment}
use Rattle.format.specs.Fields.{bytes_of, unsigned}
use Rattle.format.specs.Answer.{record_bytes, character_bytes, integer_bytes, string_records, encode}
use Rattle.format.specs.Written.{u16_bytes, pair_bytes}

pub length_bytes : (k v : ℕ) → length (bytes_of k v) ≡ k
unfolding bytes_of
length_bytes zero v = refl
length_bytes (suc k) v = ap suc (length_bytes k _)

-- ---- fields one after another

pub length_characters : (s : List ℕ) → length (character_bytes s) ≡ 4 * length s
unfolding character_bytes
length_characters s = length_flat_map (bytes_of 4) 4 (length_bytes 4) s

pub length_integers : (zs : List ℤ) → length (integer_bytes zs) ≡ 4 * length zs
unfolding integer_bytes
length_integers zs = length_flat_map (λ z. bytes_of 4 (unsigned z)) 4 (λ z. length_bytes 4 (unsigned z)) zs

pub length_shorts : (vs : List ℕ) → length (u16_bytes vs) ≡ 2 * length vs
unfolding u16_bytes
length_shorts vs = length_flat_map (bytes_of 2) 2 (length_bytes 2) vs

pub length_pair : (t : ℕ × ℤ) → length (bytes_of 2 t.0 ++ bytes_of 4 (unsigned t.1)) ≡ 6
length_pair t = length-append (bytes_of 2 t.0) (bytes_of 4 (unsigned t.1)) ∙ ap₂ ◌+◌ (length_bytes 2 t.0) (length_bytes 4 (unsigned t.1))

pub length_pair_bytes : (ts : List (ℕ × ℤ)) → length (pair_bytes ts) ≡ 6 * length ts
unfolding pair_bytes
length_pair_bytes ts = length_flat_map (λ t. bytes_of 2 t.0 ++ bytes_of 4 (unsigned t.1)) 6 length_pair ts

-- ---- records

pub length_record : (k : ℕ) (body : List ℕ) → length (record_bytes k body) ≡ 6 + length body
length_record k body =
    rw (length-append (bytes_of 4 (length body)) (bytes_of 2 k ++ body), length-append (bytes_of 2 k) body, length_bytes 4 (length body), length_bytes 2 k)
    (omega arith)

pub records_snoc : (ss : List (List ℕ)) (s : List ℕ) → string_records (ss ++ (s ∷ [])) ≡ string_records ss ++ record_bytes 9 (character_bytes s)
unfolding string_records flat_map
records_snoc ss s = flat_map_snoc (λ s. record_bytes 9 (character_bytes s)) ss s

-- ---- "at most 4,268 bytes"

pub length_strings : (ss : List (List ℕ)) → All (λ s. length s ≤ length_limit) ss → length (string_records ss) ≤ (6 + 4 * length_limit) * length ss
unfolding string_records flat_map
length_strings [] h = omega arith
length_strings (s ∷ ss) h =
    rw (length-append (record_bytes 9 (character_bytes s)) (string_records ss), length_record 9 (character_bytes s), length_characters s)
    (omega (arith, length_strings ss h.1, h.0))

pub length_encode : (a : Assignment) → length (encode a) ≡ length (string_records a.strs) + (12 + 4 * length a.ints)
unfolding encode
length_encode a =
    rw (
      length-append (string_records a.strs) (record_bytes 10 (integer_bytes a.ints) ++ record_bytes 8 []),
      length-append (record_bytes 10 (integer_bytes a.ints)) (record_bytes 8 []),
      length_record 10 (integer_bytes a.ints),
      length_record 8 [],
      length_integers a.ints,
    ) (omega arith)

pub encode_short : (a : Assignment)
    → length a.strs ≤ variable_limit
    → All (λ s. length s ≤ length_limit) a.strs
    → length a.ints ≤ variable_limit
    → length (encode a) ≤ answer_bytes
encode_short a p h q = omega (arith, length_encode a, length_strings a.strs h)
