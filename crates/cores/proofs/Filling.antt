-- Words as code holds them: of one constraint, and stored in the array of all facts' words.
use Prim.Native.Nat.{ℕ, zero, suc, ◌+◌, ◌*◌, ◌%◌, ◌^◌, ◌<◌, ◌≤◌}
use native.Mathlib.Nat.{add-zero, add-suc, one-mul, pow-suc}
use native.Mathlib.Omega.{arith}
use native.Mathlib.Decide.{ℕ_discrete}
use mathlib.Core.Path.{◌≡◌, refl, sym, ◌∙◌, ap, ap₂}
use mathlib.Core.Logic.{◌≢◌}
use mathlib.Core.Bool.{false}
use mathlib.Core.List.{List, ◌∷◌}
use lib.ListN.{length, take, drop, set, replicate, drop_of_length-le}
use lib.Pow.{shl_exact}
use lib.Seq.{take_all, get_or-set_same, get_or-set_other}
use Rattle.calculus.specs.Cores.{Set, only}
use Rattle.calculus.proofs.Cores.{length_only}
use Rattle.format.specs.Cores.{word}
use Rattle.cores.specs.declared.Words.{Words}
use Rattle.cores.specs.Words.{words_of}
use Rattle.cores.specs.Sets.{words_at}
use Rattle.cores.proofs.Laws.{two_words}

-- ---- one constraint

word_false : (k : ℕ) → word (replicate k false) ≡ 0
unfolding word
word_false zero = refl
word_false (suc k) = omega (arith, word_false k)

word_only : (k : ℕ) → word (only k) ≡ 2 ^ k
unfolding word
word_only zero = refl
word_only (suc k) = omega (arith, word_only k, pow-suc 2 k)

take_only : (n k : ℕ) → take n (only (k + n)) ≡ replicate n false
take_only zero k = refl
take_only (suc n) k = ap (λ (i : ℕ). take (suc n) (only i)) (add-suc k n) ∙ ap (λ (s : Set). false ∷ s) (take_only n k)

drop_only : (n k : ℕ) → drop n (only (k + n)) ≡ only k
drop_only zero k = ap only (add-zero k)
drop_only (suc n) k = ap (λ (i : ℕ). drop (suc n) (only i)) (add-suc k n) ∙ drop_only n k

short_only : (k : ℕ) → k < 64 → length (only k) ≤ 64
short_only k h = omega (arith, length_only k)

pub words_only_low : (k : ℕ) → k < 64 → words_of (only k) ≡ two_words (2 ^ k) 0
unfolding word
words_only_low k h =
    ap₂ two_words (ap word (take_all 64 (only k) (short_only k h)) ∙ word_only k)
    (ap (λ (s : Set). word (take 64 s)) (drop_of_length-le (only k) (short_only k h)))

pub words_only_high : (k : ℕ) → k < 64 → words_of (only (k + 64)) ≡ two_words 0 (2 ^ k)
words_only_high k h =
    ap₂ two_words (ap word (take_only 64 k) ∙ word_false 64)
    (ap (λ (s : Set). word (take 64 s)) (drop_only 64 k) ∙ ap word (take_all 64 (only k) (short_only k h)) ∙ word_only k)

-- one bit shifted, as the machine has it
pub one_shifted : (k : ℕ) → k < 64 → 1 * 2 ^ k % 18446744073709551616 ≡ 2 ^ k
one_shifted k h = shl_exact 1 k 64 (omega arith) (omega arith) ∙ one-mul (2 ^ k)

-- ---- one fact's words are stored

pub stored_here : (v : List Words) (k : ℕ) (x : Words) → k < length v → words_at (set v k x) k ≡ x
stored_here v k x h = get_or-set_same v k x (two_words 0 0) h

pub stored_other : (v : List Words) (k : ℕ) (x : Words) (j : ℕ) → j ≢ k → words_at (set v k x) j ≡ words_at v j
stored_other v k x j n = get_or-set_other v k j x (two_words 0 0) n

-- where the places from from up to k have the words that they are to have, and place k is given its own
pub stored_more : (g : ℕ → Words) (v : List Words) (from k : ℕ) (x : Words) → k < length v → x ≡ g k → ((j : ℕ) → from ≤ j → j < k → words_at v j ≡ g j)
    → (j : ℕ) → from ≤ j → j < k + 1 → words_at (set v k x) j ≡ g j
stored_more g v from k x room e h j a b = go (ℕ_discrete j k)
  where
    go : Dec (j ≡ k) → words_at (set v k x) j ≡ g j
    go (yes same) = ap (words_at (set v k x)) same ∙ stored_here v k x room ∙ e ∙ ap g (sym same)
    go (no n) = stored_other v k x j n ∙ h j a (omega arith)
