-- Bytes below 256 are those of the fields that are read from them, and a whole record is that of its kind and its body.
use Prim.Native.Nat.{ℕ, zero, suc, ◌+◌, ◌*◌, ◌-◌, ◌/◌, ◌%◌, ◌≤◌, ◌<◌}
use native.Mathlib.Nat.{mul-suc}
use native.Mathlib.Omega.{arith}
use mathlib.Core.Path.{◌≡◌, sym, ◌∙◌, ap, ap₂, subst}
use mathlib.Core.List.{List, ◌∷◌, ◌++◌, append_assoc, flat_map}
use lib.ListN.{length, get_or, drop}
use native.Mathlib.Decide.{dec_lt}
use lib.Seq.{drop-cons}
use Rattle.lists.specs.Lists.{All}
use Rattle.lists.proofs.Lists.{all_get_d, all_values_along}
use Rattle.format.specs.Fields.{bytes_of, unsigned, signed, u16, u32, i32, pair_at, fields, u16s, u32s, i32s, pairs_at, IsU32, IsI32}
use Rattle.format.specs.Records.{size, kind}
use Rattle.format.specs.Answer.{record_bytes, character_bytes, integer_bytes}
use Rattle.format.specs.Written.{u16_bytes, pair_bytes}
use Rattle.format.specs.Demands.{Bytes}
use Rattle.format.proofs.BytesRead.{record_leads}
use Rattle.format.proofs.Fields.{signed_low, signed_high}

signed_written : (v : ℕ) → IsU32 v → unsigned (signed v) ≡ v
signed_written v h = go (dec_lt v 2147483648)
  where
    go : Dec (v < 2147483648) → unsigned (signed v) ≡ v
    go (yes l) = ap unsigned (signed_low v l)
    go (no l) = ap unsigned (signed_high v (omega arith)) ∙ (let z : 4294967295 - (4294967295 - v) ≡ v = omega arith in z)

-- ---- one field

module _ (b : List ℕ) (bytes : Bytes b) where
  pub byte_below : (at : ℕ) → get_or b at 0 < 256
  byte_below at = all_get_d (λ k. k < 256) b at 0 (omega arith) bytes

  pub u16_below : (at : ℕ) → u16 b at < 65536
  u16_below at = omega (arith, byte_below at, byte_below (at + 1))

  pub u32_below : (at : ℕ) → IsU32 (u32 b at)
  unfolding u32
  u32_below at = omega (arith, byte_below at, byte_below (at + 1), byte_below (at + 2), byte_below (at + 3))

  -- one byte, where there is one
  one : (at k : ℕ) → at + k < length b → drop (at + k) b ≡ get_or b (at + k) 0 ∷ drop (at + (k + 1)) b
  one at k l = drop-cons b (at + k) 0 l ∙ ap (λ n. get_or b (at + k) 0 ∷ drop n b) (let z : suc (at + k) ≡ at + (k + 1) = omega arith in z)

  pub u16_written : (at : ℕ) → at + 2 ≤ length b → drop at b ≡ bytes_of 2 (u16 b at) ++ drop (at + 2) b
  unfolding bytes_of
  u16_written at l =
      let x = byte_below at in
      let y = byte_below (at + 1) in
      drop-cons b at 0 (omega arith)
      ∙ ap₂ (λ x xs. x ∷ xs) (let z : get_or b at 0 ≡ u16 b at % 256 = omega arith in z)
      (ap (λ n. drop n b) (let z : suc at ≡ at + 1 = omega arith in z)
      ∙ one at 1 (omega arith)
      ∙ ap (λ x. x ∷ drop (at + 2) b) (let z : get_or b (at + 1) 0 ≡ u16 b at / 256 % 256 = omega arith in z))

  pub u32_written : (at : ℕ) → at + 4 ≤ length b → drop at b ≡ bytes_of 4 (u32 b at) ++ drop (at + 4) b
  unfolding bytes_of u32
  u32_written at l =
      let w = byte_below at in
      let x = byte_below (at + 1) in
      let y = byte_below (at + 2) in
      let z = byte_below (at + 3) in
      drop-cons b at 0 (omega arith)
      ∙ ap₂ (λ x xs. x ∷ xs) (let z : get_or b at 0 ≡ u32 b at % 256 = omega arith in z)
      (ap (λ n. drop n b) (let z : suc at ≡ at + 1 = omega arith in z)
      ∙ one at 1 (omega arith)
      ∙ ap₂ (λ x xs. x ∷ xs) (let z : get_or b (at + 1) 0 ≡ u32 b at / 256 % 256 = omega arith in z)
      (one at 2 (omega arith)
      ∙ ap₂ (λ x xs. x ∷ xs) (let z : get_or b (at + 2) 0 ≡ u32 b at / 256 / 256 % 256 = omega arith in z)
      (one at 3 (omega arith)
      ∙ ap (λ x. x ∷ drop (at + 4) b) (let z : get_or b (at + 3) 0 ≡ u32 b at / 256 / 256 / 256 % 256 = omega arith in z))))

  pub i32_written : (at : ℕ) → at + 4 ≤ length b → drop at b ≡ bytes_of 4 (unsigned (i32 b at)) ++ drop (at + 4) b
  i32_written at l = u32_written at l ∙ ap (λ v. bytes_of 4 v ++ drop (at + 4) b) (sym (signed_written (u32 b at) (u32_below at)))

  pub pair_written : (at : ℕ) → at + 6 ≤ length b → drop at b ≡ (bytes_of 2 (pair_at b at).0 ++ bytes_of 4 (unsigned (pair_at b at).1)) ++ drop (at + 6) b
  pair_written at l =
      u16_written at (omega arith)
      ∙ ap (λ xs. bytes_of 2 (u16 b at) ++ xs) (i32_written (at + 2) (omega arith)
      ∙ ap (λ n. bytes_of 4 (unsigned (i32 b (at + 2))) ++ drop n b) (let z : at + 2 + 4 ≡ at + 6 = omega arith in z))
      ∙ sym (append_assoc (bytes_of 2 (u16 b at)) (bytes_of 4 (unsigned (i32 b (at + 2)))) (drop (at + 6) b))

-- ---- fields one after another

fields_written : {A : Type 0} (width : ℕ) (write : A → List ℕ) (b : List ℕ) (read : ℕ → A)
    → ((at : ℕ) → at + width ≤ length b → drop at b ≡ write (read at) ++ drop (at + width) b)
    → (at count : ℕ) → at + width * count ≤ length b
    → drop at b ≡ flat_map write (fields width read at count) ++ drop (at + width * count) b
unfolding flat_map
fields_written width write b read f at zero l = ap (λ n. drop n b) (let z : at ≡ at + width * 0 = omega arith in z)
fields_written width write b read f at (suc count) l =
    let k : width * suc count ≡ width * count + width = mul-suc width count in
    let rest : List ℕ = flat_map write (fields width read (at + width) count) in
    f at (omega arith)
    ∙ ap (λ xs. write (read at) ++ xs) (fields_written width write b read f (at + width) count (omega arith)
    ∙ ap (λ n. rest ++ drop n b) (let z : at + width + width * count ≡ at + width * suc count = omega arith in z))
    ∙ sym (append_assoc (write (read at)) rest (drop (at + width * suc count) b))

-- and what is read, a u32 or an i32 holds
signed_held : (v : ℕ) → IsU32 v → IsI32 (signed v)
signed_held v h = go (dec_lt v 2147483648)
  where
    go : Dec (v < 2147483648) → IsI32 (signed v)
    go (yes l) = subst IsI32 (sym (signed_low v l)) l
    go (no l) = subst IsI32 (sym (signed_high v (omega arith))) (omega arith)

module _ (b : List ℕ) (bytes : Bytes b) (at count : ℕ) where
  pub u32s_held : All IsU32 (u32s b at count)
  unfolding u32s
  u32s_held = all_values_along (λ i. i + 4) (u32 b) IsU32 at count (λ j _. u32_below b bytes _)

  pub i32s_held : All IsI32 (i32s b at count)
  unfolding i32s
  i32s_held = all_values_along (λ i. i + 4) (i32 b) IsI32 at count (λ j _. signed_held _ (u32_below b bytes _))

  pub u16s_written : at + 2 * count ≤ length b → drop at b ≡ u16_bytes (u16s b at count) ++ drop (at + 2 * count) b
  unfolding u16s u16_bytes
  u16s_written l = fields_written 2 (bytes_of 2) b (u16 b) (u16_written b bytes) at count l

  pub u32s_written : at + 4 * count ≤ length b → drop at b ≡ character_bytes (u32s b at count) ++ drop (at + 4 * count) b
  unfolding u32s character_bytes
  u32s_written l = fields_written 4 (bytes_of 4) b (u32 b) (u32_written b bytes) at count l

  pub i32s_written : at + 4 * count ≤ length b → drop at b ≡ integer_bytes (i32s b at count) ++ drop (at + 4 * count) b
  unfolding i32s integer_bytes
  i32s_written l = fields_written 4 (λ z. bytes_of 4 (unsigned z)) b (i32 b) (i32_written b bytes) at count l

  pub pairs_written : at + 6 * count ≤ length b → drop at b ≡ pair_bytes (pairs_at b at count) ++ drop (at + 6 * count) b
  unfolding pairs_at pair_bytes
  pairs_written l = fields_written 6 (λ t. bytes_of 2 t.0 ++ bytes_of 4 (unsigned t.1)) b (pair_at b) (pair_written b bytes) at count l

-- ---- records

module _ (b : List ℕ) (bytes : Bytes b) (at : ℕ) where
  pub leading_written : at + 6 ≤ length b → drop at b ≡ bytes_of 4 (size b at) ++ (bytes_of 2 (kind b at) ++ drop (at + 6) b)
  leading_written l =
      u32_written b bytes at (omega arith)
      ∙ ap (λ xs. bytes_of 4 (size b at) ++ xs) (u16_written b bytes (at + 4) (omega arith)
      ∙ ap (λ n. bytes_of 2 (kind b at) ++ drop n b) (let z : at + 4 + 2 ≡ at + 6 = omega arith in z))

  -- a record whose body is known
  pub body_written : (k : ℕ) (body rest : List ℕ)
      → at + 6 ≤ length b
      → kind b at ≡ k
      → size b at ≡ length body
      → drop (at + 6) b ≡ body ++ rest
      → drop at b ≡ record_bytes k body ++ rest
  body_written k body rest l is_kind is_size e =
      leading_written l
      ∙ ap₂ (λ m xs. bytes_of 4 m ++ xs) is_size (ap₂ (λ k xs. bytes_of 2 k ++ xs) is_kind e)
      ∙ sym (record_leads k body rest)
