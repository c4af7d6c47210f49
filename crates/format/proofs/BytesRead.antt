-- What is read where written bytes stand: fields, and a record with its kind, its size and its body.
use Prim.Native.Nat.{ℕ, ◌+◌, ◌-◌, ◌≤◌, ◌<◌}
use native.Mathlib.Nat.{add-zero}
use native.Mathlib.Omega.{arith}
use mathlib.Core.Path.{◌≡◌, refl, sym, ◌∙◌, ap, ap₂, subst}
use mathlib.Core.Bool.{true}
use mathlib.Core.List.{List, [], ◌∷◌, ◌++◌, append_assoc, flat_map}
use lib.ListN.{length, get_or, drop, length-append, length-drop}
use lib.Seq.{drop_at, drop-drop, get_or-drop}
use lib.IntN.{ℤ, pos, negsuc}
use borrow.Author.Tests.{le-leb}
use Rattle.lists.specs.Lists.{All}
use Rattle.lists.proofs.Lists.{all_map}
use Rattle.calculus.specs.Limits.{Small}
use Rattle.format.specs.Fields.{bytes_of, unsigned, signed, u16, u32, i32, pair_at, fields, u16s, u32s, i32s, pairs_at, IsU16, IsU32, IsI32}
use Rattle.format.specs.Records.{size, kind, next, whole}
use Rattle.format.specs.Answer.{record_bytes, character_bytes, integer_bytes}
use Rattle.format.specs.Written.{u16_bytes, pair_bytes}
use Rattle.format.proofs.Encoded.{length_bytes, length_pair, length_record}
use Rattle.format.proofs.Fields.{signed_low, signed_high}

-- ---- what stands at a position

-- after the first n bytes of it
pub behind : (b : List ℕ) (at n : ℕ) (xs rest : List ℕ) → length xs ≡ n → drop at b ≡ xs ++ rest → drop (at + n) b ≡ rest
behind b at n xs rest l e = sym (drop-drop n at b) ∙ ap (drop n) e ∙ drop_at xs rest n l

pub byte : (b : List ℕ) (at i : ℕ) (xs : List ℕ) → drop at b ≡ xs → get_or b (at + i) 0 ≡ get_or xs i 0
byte b at i xs e = sym (get_or-drop at b i 0) ∙ ap (λ l. get_or l i 0) e

-- ---- one field

pub u16_back : (b : List ℕ) (at v : ℕ) (rest : List ℕ) → v < 65536 → drop at b ≡ bytes_of 2 v ++ rest → u16 b at ≡ v
unfolding bytes_of
u16_back b at v rest h e =
    let l : List ℕ = bytes_of 2 v ++ rest in
    omega (arith, rw add-zero at (byte b at 0 l e), byte b at 1 l e)

pub u32_back : (b : List ℕ) (at v : ℕ) (rest : List ℕ) → IsU32 v → drop at b ≡ bytes_of 4 v ++ rest → u32 b at ≡ v
unfolding bytes_of u32
u32_back b at v rest h e =
    let l : List ℕ = bytes_of 4 v ++ rest in
    omega (arith, rw add-zero at (byte b at 0 l e), byte b at 1 l e, byte b at 2 l e, byte b at 3 l e)

signed_back : (z : ℤ) → IsI32 z → signed (unsigned z) ≡ z
signed_back (pos v) h = signed_low v (omega arith)
signed_back (negsuc v) h =
    let e : 4294967295 - (4294967295 - v) ≡ v = omega arith in
    signed_high (4294967295 - v) (omega arith) ∙ ap negsuc e

unsigned_held : (z : ℤ) → IsI32 z → IsU32 (unsigned z)
unsigned_held (pos v) h = omega arith
unsigned_held (negsuc v) h = omega arith

pub small_held : (k : ℕ) (z : ℤ) → k < 2147483648 → Small k z → IsI32 z
small_held k (pos v) l h = omega arith
small_held k (negsuc v) l h = omega arith

pub all_held : (k : ℕ) (zs : List ℤ) → k < 2147483648 → All (Small k) zs → All IsI32 zs
all_held k zs l h = all_map zs (λ z. small_held k z l) h

pub i32_back : (b : List ℕ) (at : ℕ) (z : ℤ) (rest : List ℕ) → IsI32 z → drop at b ≡ bytes_of 4 (unsigned z) ++ rest → i32 b at ≡ z
i32_back b at z rest h e = ap signed (u32_back b at (unsigned z) rest (unsigned_held z h) e) ∙ signed_back z h

pair_back : (b : List ℕ) (at : ℕ) (t : ℕ × ℤ) (rest : List ℕ)
    → IsU16 t.0 × IsI32 t.1
    → drop at b ≡ (bytes_of 2 t.0 ++ bytes_of 4 (unsigned t.1)) ++ rest
    → pair_at b at ≡ t
pair_back b at (k, z) rest (h, g) e =
    let f : drop at b ≡ bytes_of 2 k ++ (bytes_of 4 (unsigned z) ++ rest) = e ∙ append_assoc (bytes_of 2 k) (bytes_of 4 (unsigned z)) rest in
    ap₂ (λ (k : ℕ) (z : ℤ). (k, z)) (u16_back b at k _ h f)
    (i32_back b (at + 2) z rest g (behind b at 2 (bytes_of 2 k) (bytes_of 4 (unsigned z) ++ rest) (length_bytes 2 k) f))

-- ---- fields one after another

-- each of so many bytes, and read back where it stands
fields_back : {A : Type 0} (P : A → Type 0) (bytes : ℕ) (write : A → List ℕ) (b : List ℕ) (read : ℕ → A)
    → ((x : A) → length (write x) ≡ bytes)
    → ((at : ℕ) (x : A) (rest : List ℕ) → P x → drop at b ≡ write x ++ rest → read at ≡ x)
    → (at : ℕ) (xs : List A) (rest : List ℕ) → All P xs → drop at b ≡ flat_map write xs ++ rest → fields bytes read at (length xs) ≡ xs
unfolding flat_map
fields_back P bytes write b read l f at [] rest h e = refl
fields_back P bytes write b read l f at (x ∷ xs) rest (h, hs) e =
    let g : drop at b ≡ write x ++ (flat_map write xs ++ rest) = e ∙ append_assoc (write x) (flat_map write xs) rest in
    ap₂ ◌∷◌ (f at x (flat_map write xs ++ rest) h g)
    (fields_back P bytes write b read l f (at + bytes) xs rest hs (behind b at bytes (write x) (flat_map write xs ++ rest) (l x) g))

module _ (b : List ℕ) (at : ℕ) where
  pub u16s_back : (vs rest : List ℕ) → All IsU16 vs → drop at b ≡ u16_bytes vs ++ rest → u16s b at (length vs) ≡ vs
  unfolding u16s u16_bytes
  u16s_back vs rest h e = fields_back IsU16 2 (bytes_of 2) b (u16 b) (length_bytes 2) (u16_back b) at vs rest h e

  pub u32s_back : (vs rest : List ℕ) → All IsU32 vs → drop at b ≡ character_bytes vs ++ rest → u32s b at (length vs) ≡ vs
  unfolding u32s character_bytes
  u32s_back vs rest h e = fields_back IsU32 4 (bytes_of 4) b (u32 b) (length_bytes 4) (u32_back b) at vs rest h e

  pub i32s_back : (zs : List ℤ) (rest : List ℕ) → All IsI32 zs → drop at b ≡ integer_bytes zs ++ rest → i32s b at (length zs) ≡ zs
  unfolding i32s integer_bytes
  i32s_back zs rest h e =
      fields_back IsI32 4 (λ z. bytes_of 4 (unsigned z)) b (i32 b) (λ z. length_bytes 4 (unsigned z)) (i32_back b) at zs rest h e

  pub pairs_back : (ts : List (ℕ × ℤ)) (rest : List ℕ)
      → All (λ t. IsU16 t.0 × IsI32 t.1) ts
      → drop at b ≡ pair_bytes ts ++ rest
      → pairs_at b at (length ts) ≡ ts
  unfolding pairs_at pair_bytes
  pairs_back ts rest h e =
      fields_back (λ t. IsU16 t.0 × IsI32 t.1) 6 (λ t. bytes_of 2 t.0 ++ bytes_of 4 (unsigned t.1)) b (pair_at b) length_pair
      (pair_back b) at ts rest h e

-- ---- a record that stands at a position

pub record RecordAt (b : List ℕ) (at k : ℕ) (body rest : List ℕ) : Type 0 where
  pub is_kind : kind b at ≡ k
  pub is_size : size b at ≡ length body
  pub is_whole : whole b at ≡ true
  pub body_stands : drop (at + 6) b ≡ body ++ rest
  pub rest_stands : drop (next b at) b ≡ rest
  pub ends : next b at + length rest ≡ length b

-- the six leading bytes
pub record LeadingAt (b : List ℕ) (at m k : ℕ) (more : List ℕ) : Type 0 where
  pub is_kind : kind b at ≡ k
  pub more_stands : drop (at + 6) b ≡ more
  pub six_there : at + 6 ≤ length b
  pub size_stands : drop at b ≡ bytes_of 4 m ++ (bytes_of 2 k ++ more)

pub leading_read : (b : List ℕ) (at m k : ℕ) (more : List ℕ) → k < 65536 → drop at b ≡ bytes_of 4 m ++ (bytes_of 2 k ++ more) → LeadingAt b at m k more
leading_read b at m k more few e =
    let from-kind : drop (at + 4) b ≡ bytes_of 2 k ++ more = behind b at 4 (bytes_of 4 m) (bytes_of 2 k ++ more) (length_bytes 4 m) e in
    let six : at + 4 + 2 ≡ at + 6 = omega arith in
    record {
      is_kind = u16_back b (at + 4) k more few from-kind;
      more_stands = subst (λ n. drop n b ≡ more) six (behind b (at + 4) 2 (bytes_of 2 k) more (length_bytes 2 k) from-kind);
      six_there =
          omega (
            arith,
            ap length e,
            length-drop at b,
            length-append (bytes_of 4 m) (bytes_of 2 k ++ more),
            length-append (bytes_of 2 k) more,
            length_bytes 4 m,
            length_bytes 2 k,
          );
      size_stands = e;
    }

-- a record's bytes begin with six
pub record_leads : (k : ℕ) (body rest : List ℕ) → record_bytes k body ++ rest ≡ bytes_of 4 (length body) ++ (bytes_of 2 k ++ (body ++ rest))
record_leads k body rest =
    append_assoc (bytes_of 4 (length body)) (bytes_of 2 k ++ body) rest ∙ ap (λ l. bytes_of 4 (length body) ++ l) (append_assoc (bytes_of 2 k) body rest)

pub record_read : (b : List ℕ) (at k : ℕ) (body rest : List ℕ)
    → k < 65536
    → length body < 4294967296
    → drop at b ≡ record_bytes k body ++ rest
    → RecordAt b at k body rest
record_read b at k body rest few short e =
    let lead =
    leading_read b at (length body) k (body ++ rest) few (e ∙ record_leads k body rest) in
    let z : size b at ≡ length body = u32_back b at (length body) (bytes_of 2 k ++ (body ++ rest)) short lead.size_stands in
    let total : next b at + length rest ≡ length b =
    omega (arith, ap length e, length-drop at b, length-append (record_bytes k body) rest, length_record k body) in
    record {
      is_kind = lead.is_kind;
      is_size = z;
      is_whole = le-leb (next b at) (length b) (omega arith);
      body_stands = lead.more_stands;
      rest_stands = behind b (at + 6) (size b at) body rest (sym z) lead.more_stands;
      ends = total;
    }
