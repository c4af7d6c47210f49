-- The words of a union, of sets and of the sets of a branch's facts.
use Prim.Native.Nat.{ℕ, zero, suc, ◌+◌, ◌*◌, max}
use mathlib.Core.Path.{◌≡◌, refl, sym, ◌∙◌, ap, ap₂}
use mathlib.Core.Bool.{Bool, true, false, cond, ◌||◌, or_assoc}
use mathlib.Core.List.{[], ◌∷◌, ◌++◌}
use lib.ListN.{take, drop}
use lib.Bits.{bit_or, or_step, or_zero_l, or_zero_r}
use Rattle.calculus.specs.Facts.{Fact}
use Rattle.calculus.specs.Cores.{Set, union, Rested, sets_of}
use Rattle.format.specs.Cores.{flag, word}
use Rattle.format.proofs.Cores.{first_bit, half}
use Rattle.cores.specs.declared.Words.{Words}
use Rattle.cores.specs.Words.{words_of, union_of}

-- ---- unions

pub union_nil : (s : Set) → union s [] ≡ s
unfolding union
union_nil [] = refl
union_nil (x ∷ s) = refl

pub union_assoc : (s t q : Set) → union (union s t) q ≡ union s (union t q)
unfolding union
union_assoc [] t q = refl
union_assoc (x ∷ s) [] q = refl
union_assoc (x ∷ s) (y ∷ t) [] = refl
union_assoc (x ∷ s) (y ∷ t) (z ∷ q) = ap₂ (λ (b : Bool) (l : Set). b ∷ l) (or_assoc x y z) (union_assoc s t q)

-- ---- their words

-- of a low and a high number
abbrev pub two_words : ℕ → ℕ → Words
two_words l h = record { low = l; high = h }

flag_or : (x y : Bool) → flag (x || y) ≡ max (flag x) (flag y)
flag_or true true = refl
flag_or true false = refl
flag_or false true = refl
flag_or false false = refl

word_union : (s t : Set) → word (union s t) ≡ bit_or (word s) (word t)
unfolding word union
word_union [] t = sym (or_zero_l (word t))
word_union (x ∷ s) [] = sym (or_zero_r (word s * 2 + flag x))
word_union (x ∷ s) (y ∷ t) =
    let a : ℕ = word s * 2 + flag x in
    let b : ℕ = word t * 2 + flag y in
    sym (or_step a b
    ∙ ap₂ (λ (p q : ℕ). p * 2 + q) (ap₂ bit_or (half (word s) x) (half (word t) y) ∙ sym (word_union s t))
    (ap₂ max (first_bit (word s) x) (first_bit (word t) y) ∙ sym (flag_or x y)))

take_union : (k : ℕ) (s t : Set) → take k (union s t) ≡ union (take k s) (take k t)
unfolding union
take_union zero s t = refl
take_union (suc k) [] t = refl
take_union (suc k) (x ∷ s) [] = refl
take_union (suc k) (x ∷ s) (y ∷ t) = ap (λ l. (x || y) ∷ l) (take_union k s t)

drop_union : (k : ℕ) (s t : Set) → drop k (union s t) ≡ union (drop k s) (drop k t)
unfolding union
drop_union zero s t = refl
drop_union (suc k) [] t = refl
drop_union (suc k) (x ∷ s) [] = sym (union_nil (drop k s))
drop_union (suc k) (x ∷ s) (y ∷ t) = drop_union k s t

pub words_union : (s t : Set) → words_of (union s t) ≡ union_of (words_of s) (words_of t)
words_union s t =
    let first : word (take 64 (union s t)) ≡ bit_or (word (take 64 s)) (word (take 64 t)) = ap word (take_union 64 s t) ∙ word_union (take 64 s) (take 64 t) in
    let second : word (take 64 (drop 64 (union s t))) ≡ bit_or (word (take 64 (drop 64 s))) (word (take 64 (drop 64 t))) =
    ap (λ l. word (take 64 l)) (drop_union 64 s t) ∙ ap word (take_union 64 (drop 64 s) (drop 64 t)) ∙ word_union (take 64 (drop 64 s)) (take 64 (drop 64 t)) in
    ap₂ two_words first second

-- ---- over the facts of a branch

pub sets_append : (t : Fact → Bool) (r q : Rested) → sets_of t (r ++ q) ≡ union (sets_of t r) (sets_of t q)
unfolding sets_of union
sets_append t [] q = refl
sets_append t (f ∷ r) q = ap (union (cond (t f.0) f.1 [])) (sets_append t r q) ∙ sym (union_assoc (cond (t f.0) f.1 []) (sets_of t r) (sets_of t q))
