-- The stores that write the answer.
use mathlib.Core.Path.{◌≡◌, sym, ◌∙◌, ap}
use mathlib.Core.List.{List, [], ◌∷◌, ◌++◌, flat_map}
use Prim.Native.Nat.{ℕ, zero, suc, ◌+◌, ◌*◌, ◌≤◌, ◌<◌}
use native.Mathlib.Numerals.{add-one}
use native.Mathlib.Nat.{zero-add}
use native.Mathlib.Omega.{arith}
use lib.ListN.{length, get_or, take, drop, length-drop}
use lib.Seq.{sets, take-suc, length-take-le}
use lib.IntN.{ℤ, pos}
use Rattle.lists.specs.Lists.{All}
use Rattle.lists.proofs.Stores.{sets_sets, sets_front}
use Rattle.calculus.specs.Limits.{variable_limit, length_limit, answer_bytes}
use Rattle.lists.proofs.Lists.{all_append, length_flat_map, flat_map_snoc, length_up_to}
use Rattle.format.specs.Fields.{bytes_of, unsigned}
use Rattle.format.specs.Answer.{record_bytes, character_bytes, integer_bytes, string_records, encode}
use Rattle.writing.proofs.Records.{record_put}
use Rattle.format.proofs.Encoded.{length_bytes, length_integers, length_record, records_snoc, encode_short}
use Rattle.answer.specs.Table.{row, table_strings, table_answer, Table, Integers}

-- a turn of the loop that writes the items of a list, 4 bytes each
module _ {A : Type 0} (item : A → ℕ) where
  abbrev bytes : List A → List ℕ
  bytes = flat_map (λ x. bytes_of 4 (item x))

  items_more : (b : List ℕ) (s : List A) (d : A) (at i : ℕ) → i < length s
      → sets (sets b at (bytes (take i s))) (at + 4 * i) (bytes_of 4 (item (get_or s i d))) ≡ sets b at (bytes (take (i + 1) s))
  items_more b s d at i h =
      let n : length (bytes (take i s)) ≡ 4 * i =
      length_flat_map (λ x. bytes_of 4 (item x)) 4 (λ x. length_bytes 4 (item x)) (take i s) ∙ ap (λ (k : ℕ). 4 * k) (length-take-le i s (omega arith)) in
      let e : bytes (take (i + 1) s) ≡ bytes (take i s) ++ bytes_of 4 (item (get_or s i d)) =
      rw (add-one, take-suc s i d h, flat_map_snoc (λ x. bytes_of 4 (item x)) (take i s) (get_or s i d)) in
      rw (← n, sets_sets, e)

pub characters_more : (b s : List ℕ) (at i : ℕ) → i < length s
    → sets (sets b at (character_bytes (take i s))) (at + 4 * i) (bytes_of 4 (get_or s i 0)) ≡ sets b at (character_bytes (take (i + 1) s))
unfolding character_bytes
characters_more b s at i h = items_more (λ c. c) b s 0 at i h

pub integers_more : (b : List ℕ) (zs : List ℤ) (at i : ℕ) → i < length zs
    → sets (sets b at (integer_bytes (take i zs))) (at + 4 * i) (bytes_of 4 (unsigned (get_or zs i (pos 0)))) ≡ sets b at (integer_bytes (take (i + 1) zs))
unfolding integer_bytes
integers_more b zs at i h = items_more unsigned b zs (pos 0) at i h

-- ---- the strings of a table

pub length_row : (characters : List ℕ) (x k : ℕ) → k ≤ length_limit → length_limit * x + length_limit ≤ length characters → length (row characters x k) ≡ k
length_row characters x k h r = length-take-le k (drop (length_limit * x) characters) (rw length-drop (omega arith))

module _ (characters sizes : List ℕ) where
  pub strings_more : (x : ℕ)
      → string_records (table_strings characters sizes (x + 1))
      ≡ string_records (table_strings characters sizes x) ++ record_bytes 9 (character_bytes (row characters x (get_or sizes x 0)))
  unfolding table_strings
  strings_more x = rw add-one (records_snoc (table_strings characters sizes x) (row characters x (get_or sizes x 0)))

  -- a turn of the loop that writes strings
  pub strings_put : (b : List ℕ) (x : ℕ)
      → sets (sets b 0 (string_records (table_strings characters sizes x))) (length (string_records (table_strings characters sizes x)))
      (record_bytes 9 (character_bytes (row characters x (get_or sizes x 0))))
      ≡ sets b 0 (string_records (table_strings characters sizes (x + 1)))
  strings_put b x =
      let w : List ℕ = string_records (table_strings characters sizes x) in
      let r : List ℕ = record_bytes 9 (character_bytes (row characters x (get_or sizes x 0))) in
      ap (λ (k : ℕ). sets (sets b 0 w) k r) (sym (zero-add (length w))) ∙ sets_sets w r b 0 ∙ ap (sets b 0) (sym (strings_more x))

  pub length_tables : (x : ℕ) → length (table_strings characters sizes x) ≡ x
  unfolding table_strings
  length_tables x = length_up_to (λ y. row characters y (get_or sizes y 0)) x

  short_strings : (p : ℕ) → Table characters sizes p → (x : ℕ) → x ≤ p → All (λ s. length s ≤ length_limit) (table_strings characters sizes x)
  unfolding table_strings
  short_strings p t zero h = tt
  short_strings p t (suc x) h =
      let k : get_or sizes x 0 ≤ length_limit = t.short x (omega arith) in
      let n : length (row characters x (get_or sizes x 0)) ≡ get_or sizes x 0 = length_row characters x (get_or sizes x 0) k (omega (arith, t.room)) in
      all_append (λ (s : List ℕ). length s ≤ length_limit) (table_strings characters sizes x) (row characters x (get_or sizes x 0) ∷ [])
      (short_strings p t x (omega arith)) (omega arith, tt)

  -- the records of the first x strings, and a further one after them, fit the buffer
  pub strings_most : (p : ℕ) → Table characters sizes p → (x : ℕ) → x ≤ p → length (string_records (table_strings characters sizes x)) ≤ (6 + 4 * length_limit) * x
  strings_most p t x h = rw (length_tables x) at (Rattle.format.proofs.Encoded.length_strings (table_strings characters sizes x) (short_strings p t x h))

-- ---- the integers and the end after the strings

pub tail_put : (b : List ℕ) (at q : ℕ) (zs : List ℤ) → length zs ≡ q
    → sets (sets (sets b at (bytes_of 4 (4 * q) ++ bytes_of 2 10)) (at + 6) (integer_bytes zs)) (at + 6 + 4 * q) (bytes_of 4 0 ++ bytes_of 2 8)
    ≡ sets b at (record_bytes 10 (integer_bytes zs) ++ record_bytes 8 [])
unfolding bytes_of
tail_put b at q zs e =
    let r : List ℕ = record_bytes 10 (integer_bytes zs) in
    let n : length (record_bytes 10 (integer_bytes zs)) ≡ 6 + 4 * q = length_record 10 (integer_bytes zs) ∙ omega (arith, length_integers zs) in
    let k : at + 6 + 4 * q ≡ at + length (record_bytes 10 (integer_bytes zs)) = omega arith in
    ap (λ (w : List ℕ). sets w (at + 6 + 4 * q) (record_bytes 8 [])) (record_put b at (4 * q) 10 (integer_bytes zs) (omega (arith, length_integers zs)))
    ∙ ap (λ (j : ℕ). sets (sets b at r) j (record_bytes 8 [])) k
    ∙ sets_sets r (record_bytes 8 []) b at

-- the whole answer
pub answer_put : (b characters sizes : List ℕ) (p : ℕ) (model : List ℤ) (q : ℕ) → Table characters sizes p → Integers model q → answer_bytes ≤ length b
    → sets (sets b 0 (string_records (table_strings characters sizes p))) (length (string_records (table_strings characters sizes p)))
    (record_bytes 10 (integer_bytes (take q model)) ++ record_bytes 8 [])
    ≡ encode (table_answer characters sizes p model q) ++ drop (length (encode (table_answer characters sizes p model q))) b
unfolding encode
answer_put b characters sizes p model q t z h =
    let w : List ℕ = string_records (table_strings characters sizes p) in
    let v : List ℕ = record_bytes 10 (integer_bytes (take q model)) ++ record_bytes 8 [] in
    let few : length (table_strings characters sizes p) ≤ variable_limit = omega (arith, length_tables characters sizes p, t.few) in
    let ints : length (take q model) ≤ variable_limit = omega (arith, length-take-le q model z.there, z.few) in
    let room : length (w ++ v) ≤ length b =
    omega (arith, encode_short (table_answer characters sizes p model q) few (short_strings characters sizes p t p (omega arith)) ints) in
    ap (λ (k : ℕ). sets (sets b 0 w) k v) (sym (zero-add (length w))) ∙ sets_sets w v b 0 ∙ sets_front (w ++ v) b room
