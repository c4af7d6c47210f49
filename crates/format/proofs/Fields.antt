-- The numbers of 32 bits, and the lengths of what is read: as many numbers as were asked for, and forms with a constant and 48 coefficients.
use Prim.Native.Nat.{ℕ, suc, ◌+◌, ◌-◌, ◌≤◌, ◌<◌, ◌*◌}
use mathlib.Core.Path.{◌≡◌, refl, ◌∙◌, ap}
use mathlib.Core.List.{List, [], ◌∷◌}
use lib.ListN.{length, set, length-set, get_or}
use lib.IntN.{ℤ, pos, negsuc}
use borrow.Author.Tests.{lt-ltb, le-ltb}
use Rattle.lists.proofs.Lists.{length_values_along, get_d_values_along, place_after_by}
use Rattle.calculus.specs.Limits.{column_limit}
use Rattle.calculus.specs.LinearForms.{zeros}
use Rattle.format.specs.Fields.{signed, u16s, i32s, u32s, pairs_at, fields, u16, u32, i32, pair_at}
use Rattle.format.specs.Question.{fill_coefficients, form_of}

pub signed_low : (v : ℕ) → v < 2147483648 → signed v ≡ pos v
unfolding signed
signed_low v h = simp (lt-ltb v 2147483648 h)

pub signed_high : (v : ℕ) → 2147483648 ≤ v → signed v ≡ negsuc (4294967295 - v)
unfolding signed
signed_high v h = simp (le-ltb v 2147483648 h)

pub length_u16s : (b : List ℕ) (at k : ℕ) → length (u16s b at k) ≡ k
unfolding u16s
length_u16s b at k = length_values_along (λ i. i + 2) (u16 b) at k

pub length_u32s : (b : List ℕ) (at k : ℕ) → length (u32s b at k) ≡ k
unfolding u32s
length_u32s b at k = length_values_along (λ i. i + 4) (u32 b) at k

pub length_i32s : (b : List ℕ) (at k : ℕ) → length (i32s b at k) ≡ k
unfolding i32s
length_i32s b at k = length_values_along (λ i. i + 4) (i32 b) at k

pub length_pairs : (b : List ℕ) (at k : ℕ) → length (pairs_at b at k) ≡ k
unfolding pairs_at
length_pairs b at k = length_values_along (λ i. i + 6) (pair_at b) at k

-- the fields themselves
pub field_at : {A : Type 0} (w : ℕ) (read : ℕ → A) (at k j : ℕ) (d : A) → j < k → get_or (fields w read at k) j d ≡ read (at + w * j)
field_at w read at k j d h = get_d_values_along (λ i. i + w) read at k j d h ∙ ap read (place_after_by w at j)

length_fill : (row : List ℤ) (ts : List (ℕ × ℤ)) → length (fill_coefficients row ts) ≡ length row
unfolding fill_coefficients
length_fill row [] = refl
length_fill row (t ∷ ts) = length_fill (set row t.0 t.1) ts ∙ length-set row t.0 t.1

pub length_form : (b : List ℕ) (at count : ℕ) → length (form_of b at count) ≡ suc column_limit
length_form b at count = ap suc (length_fill (zeros column_limit) (pairs_at b (at + 4) count))
