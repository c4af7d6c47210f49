-- The lowest bytes of a number, and a run of stores made by one copy.
use mathlib.Core.Path.{◌≡◌, refl, sym, ◌∙◌, ap, ap₂}
use mathlib.Core.List.{List, ◌∷◌, append_assoc}
use Prim.Native.Nat.{ℕ, zero, suc, ◌+◌, ◌-◌, ◌≤◌, ◌/◌, ◌%◌, ◌^◌}
use native.Mathlib.Omega.{arith}
use borrow.Rule.Slice.PartMut.{put_mid}
use mir.Syntax.{w64}
use lib.ListN.{length, drop, take}
use lib.Seq.{sets, sets-eq}
use Rattle.std.specs.Int.{byte_at, bytes_low_first, to_le_bytes}
use Rattle.std.proofs.Math.Nat.{div-div-eq-div-mul, div-one, pow-suc}
use Rattle.std.proofs.lemmas.Slice.{put_mid-paste}
use Rattle.std.proofs.lemmas.List.Edits.{paste_all}
use Rattle.format.specs.Fields.{bytes_of}

-- a part that is copied over is a run of stores
pub copied : {A : Type 0} (b : List A) (at n : ℕ) (w v : List A) → v ≡ w → n ≡ length w → at + n ≤ length b → put_mid at (at + n - at) b v ≡ sets b at w
copied b at n w v f e h =
    put_mid-paste at (at + n - at) b v w n f (omega arith) e
    ∙ paste_all b at w n e
    ∙ rw e (sym (sets-eq w b at (omega arith) ∙ append_assoc (take at b) w (drop (at + length w) b)))

-- the k lowest of m bytes from byte i on
lowest_from : (k i m v : ℕ) → k ≤ m → take k (bytes_low_first i m v) ≡ bytes_of k (v / 256 ^ i)
unfolding bytes_of
lowest_from zero i zero v h = refl
lowest_from zero i (suc m) v h = refl
lowest_from (suc k) i zero v h = absurd (omega arith)
lowest_from (suc k) i (suc m) v h =
    ap₂ ◌∷◌ (here i) (lowest_from k (suc i) m v (omega arith) ∙ ap (bytes_of k) (ap (λ (n : ℕ). v / n) (pow-suc 256 i) ∙ sym (div-div-eq-div-mul v (256 ^ i) 256)))
  where
    here : (i : ℕ) → byte_at i v ≡ v / 256 ^ i % 256
    here zero = ap (λ (n : ℕ). n % 256) (sym (div-one v))
    here (suc i) = refl

pub lowest : (k v : ℕ) → k ≤ 8 → take k (to_le_bytes w64 v) ≡ bytes_of k v
lowest k v h = lowest_from k 0 8 v h ∙ ap (bytes_of k) (div-one v)
