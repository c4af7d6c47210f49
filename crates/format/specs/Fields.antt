-- "Fields are little-endian": numbers read from a list of bytes, by position, and numbers as bytes. Past the end a byte reads as 0.
use Rattle.std.specs.Prelude.{ℕ, zero, suc, ◌+◌, ◌*◌, ◌-◌, ◌/◌, ◌%◌, ◌<◌, Bool, cond, List, [], ◌∷◌, get_or, ltb, leb, ℤ, pos, negsuc, nat_abs}
use Rattle.lists.specs.Lists.{all, values_along}

abbrev pub u16 : List ℕ → ℕ → ℕ
u16 b at = get_or b at 0 + 256 * get_or b (at + 1) 0

unfoldable pub u32 : List ℕ → ℕ → ℕ
u32 b at = get_or b at 0 + 256 * get_or b (at + 1) 0 + 65536 * get_or b (at + 2) 0 + 16777216 * get_or b (at + 3) 0

-- the number whose two's complement at 32 bits is v
unfoldable pub signed : ℕ → ℤ
signed v = cond (ltb v 2147483648) (pos v) (negsuc (4294967295 - v))

abbrev pub i32 : List ℕ → ℕ → ℤ
i32 b at = signed (u32 b at)

-- count fields one after another, the first at a position: each is read by a function and has so many bytes
abbrev pub fields : {A : Type 0} → ℕ → (ℕ → A) → ℕ → ℕ → List A
fields bytes read at count = values_along (λ i. i + bytes) read at count

unfoldable pub u16s : List ℕ → ℕ → ℕ → List ℕ
u16s b at count = fields 2 (u16 b) at count

unfoldable pub u32s : List ℕ → ℕ → ℕ → List ℕ
u32s b at count = fields 4 (u32 b) at count

unfoldable pub i32s : List ℕ → ℕ → ℕ → List ℤ
i32s b at count = fields 4 (i32 b) at count

-- pairs of a u16 and an i32
abbrev pub pair_at : List ℕ → ℕ → ℕ × ℤ
pair_at b at = (u16 b at, i32 b (at + 2))

unfoldable pub pairs_at : List ℕ → ℕ → ℕ → List (ℕ × ℤ)
pairs_at b at count = fields 6 (pair_at b) at count

-- z is at least −k and at most k; each of several numbers is
abbrev pub within : ℕ → ℤ → Bool
within k z = leb (nat_abs z) k

unfoldable pub all_within : ℕ → List ℤ → Bool
all_within k zs = all (within k) zs

-- ---- what a field can hold

-- a number that a u16 holds; one that a u32 holds; one that an i32 holds, −2,147,483,648 to 2,147,483,647, where negsuc k is −1 − k
abbrev pub IsU16 : ℕ → Type 0
IsU16 k = k < 65536

abbrev pub IsU32 : ℕ → Type 0
IsU32 k = k < 4294967296

abbrev pub IsI32 : ℤ → Type 0
IsI32 (pos k) = k < 2147483648
IsI32 (negsuc k) = k < 2147483648

-- ---- numbers as bytes

-- the count lowest bytes of v
unfoldable pub bytes_of : ℕ → ℕ → List ℕ
bytes_of zero v = []
bytes_of (suc count) v = (v % 256) ∷ bytes_of count (v / 256)

-- two's complement at 32 bits
abbrev pub unsigned : ℤ → ℕ
unsigned (pos v) = v
unsigned (negsuc v) = 4294967295 - v
