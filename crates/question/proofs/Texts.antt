-- The code of a text: "code (the code point of a one-character string, else −1)".
use Prim.Native.Nat.{ℕ, zero, suc, ◌≤◌, ◌<◌}
use native.Mathlib.Omega.{arith}
use mathlib.Core.Path.{◌≡◌, refl}
use mathlib.Core.Bool.{true}
use mathlib.Core.List.{List, [], ◌∷◌}
use lib.IntN.{pos, negsuc}
use Rattle.lists.proofs.Tests.{true→, and_both}
use Rattle.calculus.specs.Limits.{alphabet_limit, Small}
use Rattle.calculus.specs.Alphabet.{is_character, all_characters}
use Rattle.calculus.specs.Facts.{code_of}
use Rattle.calculus.proofs.Alphabet.{character_below, character→}
use Rattle.format.specs.Fields.{u32, u32s}

pub code_one : (b : List ℕ) (at k : ℕ) → k ≡ 1 → code_of (u32s b at k) ≡ pos (u32 b at)
unfolding u32s
code_one b at k e = rw e

pub code_other : (b : List ℕ) (at k : ℕ) → (k ≡ 1 → ⊥) → code_of (u32s b at k) ≡ negsuc 0
unfolding u32s
code_other b at zero h = refl
code_other b at (suc zero) h = absurd (h refl)
code_other b at (suc (suc k)) h = refl

-- over an alphabet within its limit
pub code_small : (n : ℕ) (t : List ℕ) → n ≤ alphabet_limit → all_characters n t ≡ true → Small alphabet_limit (code_of t)
unfolding all_characters
code_small n [] h e = omega arith
code_small n (c ∷ []) h e = let l : c < n = character_below n c (character→ n c (true→ (and_both (is_character n c) true e).0)) in omega arith
code_small n (c ∷ d ∷ t) h e = omega arith
