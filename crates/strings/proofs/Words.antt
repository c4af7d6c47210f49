-- Words filled from the right, strings compared from the front, and the first that is not given: one turn of each loop.
use Prim.Native.Nat.{ℕ, zero, suc, ◌+◌, ◌*◌, ◌-◌, ◌/◌, ◌%◌, ◌^◌, ◌≤◌, ◌<◌}
use native.Mathlib.Nat.{pow-zero, pow-suc, pow-succ', one-le-pow, mod-lt, div-one, mul-one, div-div-eq-div-mul, zero-div, zero-mod}
use native.Mathlib.Omega.{arith}
use mathlib.Core.Path.{◌≡◌, refl, sym, ◌∙◌, ap, ap₂}
use mathlib.Core.Bool.{Bool, true, false}
use mathlib.Core.List.{List, [], ◌∷◌, ◌++◌, append_assoc, append-nil}
use lib.Arith.{mod-mul, digits_div, digits_mod}
use lib.ListN.{length, take, drop, set, replicate, length-set, drop_of_length-le, take-append-drop}
use lib.Seq.{take-set-lt, take-set-le, take-take, drop-cons, get_or-set_same, drop-set-lt, length-take-le}
use Rattle.lists.proofs.Lists.{down}
use Rattle.lists.proofs.Every.{take_zero}
use Rattle.calculus.specs.Alphabet.{character}
use Rattle.calculus.specs.Strings.{word, given, fresh_from}
use Rattle.calculus.proofs.Alphabet.{count_is, character_is}

-- ---- the first character of a word is the quotient by a power of n

word_more : (n m k : ℕ) → word n (suc m) k ≡ k / n ^ m ∷ word n m (k % n ^ m)
word_more n m k =
    ap (λ (c : ℕ). character n (k / c ^ m) ∷ word n m (k % c ^ m)) (count_is n)
    ∙ ap (λ (c : ℕ). c ∷ word n m (k % n ^ m)) (character_is n (k / n ^ m))

-- ---- the last is the remainder by n

module _ (n : ℕ) (p : 1 ≤ n) where
  digits : (m k : ℕ) → k % n ^ suc m ≡ (k / n % n ^ m) * n + k % n
  digits m k = ap (λ z. k % z) (pow-suc n m) ∙ mod-mul k (one-le-pow m n p) p

  high : (m k : ℕ) → k % n ^ suc m / n ≡ k / n % n ^ m
  high m k = ap (λ z. z / n) (digits m k) ∙ digits_div (k / n % n ^ m) (mod-lt k p)

  low : (m k : ℕ) → k % n ^ suc m % n ≡ k % n
  low m k = ap (λ z. z % n) (digits m k) ∙ digits_mod (k / n % n ^ m) (mod-lt k p)

  first : (m k : ℕ) → k / n ^ suc m ≡ k / n / n ^ m
  first m k = ap (λ z. k / z) (pow-succ' n m) ∙ sym (div-div-eq-div-mul k n (n ^ m))

  behind : (m k : ℕ) → word n (suc m) (k % n ^ suc m) ≡ word n m (k / n % n ^ m) ++ (k % n ∷ [])
  behind zero k =
      word_more n 0 (k % n ^ 1)
      ∙ ap (λ c. c ∷ []) (ap (λ z. k % n ^ 1 / z) (pow-zero n) ∙ div-one (k % n ^ 1) ∙ ap (λ z. k % z) (pow-succ' n 0 ∙ ap (λ z. n * z) (pow-zero n) ∙ mul-one n))
  behind (suc m) k =
      let j = k % n ^ suc (suc m) in
      word_more n (suc m) j
      ∙ ap₂ ◌∷◌ (first m j ∙ ap (λ z. z / n ^ m) (high (suc m) k))
      (behind m j ∙ ap₂ (λ a c. word n m (a % n ^ m) ++ (c ∷ [])) (high (suc m) k) (low (suc m) k))
      ∙ sym (ap (λ (w : List ℕ). w ++ (k % n ∷ [])) (word_more n m (k / n % n ^ suc m)))

  word_snoc : (m k : ℕ) → word n (suc (suc m)) k ≡ word n (suc m) (k / n) ++ (k % n ∷ [])
  word_snoc m k =
      word_more n (suc m) k
      ∙ ap₂ ◌∷◌ (first m k) (behind m k)
      ∙ sym (ap (λ (w : List ℕ). w ++ (k % n ∷ [])) (word_more n m (k / n)))

-- ---- filling from the right

filled_left : (out : List ℕ) (m j v : ℕ) → j < m → m ≤ length out → drop j (take m (set out j v)) ≡ v ∷ drop (suc j) (take m out)
filled_left out m j v h k =
    let n : length (take m out) ≡ m = length-take-le m out k in
    let e : take m (set out j v) ≡ set (take m out) j v = take-set-lt m out j v h in
    ap (λ (l : List ℕ). drop j l) e
    ∙ drop-cons (set (take m out) j v) j 0 (rw length-set (omega arith))
    ∙ ap₂ ◌∷◌ (get_or-set_same (take m out) j v 0 (omega arith)) (drop-set-lt (suc j) (take m out) j v (omega arith))

pub digits_start : (n m k : ℕ) (out : List ℕ) → m ≤ length out → word n m k ++ drop m (take m out) ≡ word n m k
digits_start n m k out h =
    ap (λ (l : List ℕ). word n m k ++ l) (drop_of_length-le (take m out) {i = m} (rw (length-take-le m out h) (omega arith)))
    ∙ append-nil (word n m k)

-- one character more
pub digit : (n m k i rest : ℕ) (out : List ℕ) → 1 ≤ n → 1 < i → i ≤ m → m ≤ length out
    → word n i rest ++ drop i (take m out) ≡ word n m k
    → word n (i - 1) (rest / n) ++ drop (i - 1) (take m (set out (i - 1) (rest % n))) ≡ word n m k
digit n m k zero rest out p z h r e = absurd (omega arith)
digit n m k (suc zero) rest out p z h r e = absurd (omega arith)
digit n m k (suc (suc j)) rest out p z h r e =
    ap (λ (i : ℕ). word n i (rest / n) ++ drop i (take m (set out i (rest % n)))) (down (suc j))
    ∙ ap (λ (l : List ℕ). word n (suc j) (rest / n) ++ l) (filled_left out m (suc j) (rest % n) (omega arith) r)
    ∙ sym (ap (λ (l : List ℕ). l ++ drop (suc (suc j)) (take m out)) (word_snoc n p j rest)
    ∙ append_assoc (word n (suc j) (rest / n)) (rest % n ∷ []) (drop (suc (suc j)) (take m out)))
    ∙ e

-- the first character
pub digits_done : (n m k i rest : ℕ) (out : List ℕ) → 1 ≤ i → i ≤ 1 → i ≤ m → m ≤ length out
    → word n i rest ++ drop i (take m out) ≡ word n m k → take m (set out 0 rest) ≡ word n m k
digits_done n m k zero rest out g h l r e = absurd (omega arith)
digits_done n m k (suc zero) rest out g h l r e =
    filled_left out m 0 rest (omega arith) r
    ∙ sym (ap (λ (w : List ℕ). w ++ drop 1 (take m out)) (word_more n 0 rest)
    ∙ ap (λ (c : ℕ). c ∷ drop 1 (take m out)) (ap (λ (z : ℕ). rest / z) (pow-zero n) ∙ div-one rest))
    ∙ e
digits_done n m k (suc (suc i)) rest out g h l r e = absurd (omega arith)

-- the front is zeros
pub zeros : (i k : ℕ) → i ≤ k → take {A = ℕ} i (replicate k 0) ≡ replicate i 0
zeros zero k h = take_zero (replicate k 0)
zeros (suc i) zero h = absurd (omega arith)
zeros (suc i) (suc k) h = ap (λ (l : List ℕ). 0 ∷ l) (zeros i k (omega arith))

pub zeros_left : (out : List ℕ) (i v : ℕ) → take i out ≡ replicate i 0 → take (i - 1) (set out (i - 1) v) ≡ replicate (i - 1) 0
zeros_left out i v e =
    take-set-le (i - 1) out (i - 1) v (omega arith)
    ∙ sym (take-take (i - 1) i out (omega arith)) ∙ ap (λ (l : List ℕ). take (i - 1) l) e ∙ zeros (i - 1) i (omega arith)

zero_word : (n m : ℕ) → word n m 0 ≡ replicate m 0
zero_word n zero = refl
zero_word n (suc m) = word_more n m 0 ∙ ap₂ ◌∷◌ (zero-div (n ^ m)) (ap (λ (k : ℕ). word n m k) (zero-mod (n ^ m)) ∙ zero_word n m)

-- nothing is left of the number
pub digits_over : (n m k i rest : ℕ) (out : List ℕ) → rest ≡ 0 → i ≤ m → take i out ≡ replicate i 0
    → word n i rest ++ drop i (take m out) ≡ word n m k → take m out ≡ word n m k
digits_over n m k i rest out z h f e =
    sym (take-append-drop i (take m out))
    ∙ ap (λ (l : List ℕ). l ++ drop i (take m out)) (take-take i m out h ∙ f ∙ sym (zero_word n i) ∙ ap (λ (r : ℕ). word n i r) (sym z))
    ∙ e

pub no_digits : (n m k : ℕ) (out : List ℕ) → m ≡ 0 → take m out ≡ word n m k
no_digits n m k out e = ap (λ (i : ℕ). take i out) e ∙ take_zero out ∙ sym (ap (λ (i : ℕ). word n i k) e)

-- ---- the first that is not given

module _ (n m : ℕ) (ts : List (List ℕ)) (k : ℕ) where
  pub fresh_done : (d : ℕ) → d ≤ 0 → fresh_from d n m ts k ≡ word n m k
  fresh_done zero h = refl
  fresh_done (suc d) h = absurd (omega arith)

  abbrev onward : ℕ → Bool → List ℕ
  onward d t = elim t as (λ _. List ℕ) [ true ↦ fresh_from d n m ts (suc k) | false ↦ word n m k ]

  pub fresh_yes : (d : ℕ) → given (word n m k) ts ≡ false → fresh_from d n m ts k ≡ word n m k
  fresh_yes zero e = refl
  fresh_yes (suc d) e = ap (onward d) e

  pub fresh_no : (d : ℕ) → 0 < d → given (word n m k) ts ≡ true → fresh_from d n m ts k ≡ fresh_from (d - 1) n m ts (k + 1)
  fresh_no zero h e = absurd (omega arith)
  fresh_no (suc d) h e = ap (onward d) e ∙ ap₂ (λ (a i : ℕ). fresh_from a n m ts i) (sym (down d)) one
    where
      one : suc k ≡ k + 1
      one = omega arith

-- it depends on which strings are given only
pub fresh_same : (n m d : ℕ) (ts ss : List (List ℕ)) (k : ℕ) → ((w : List ℕ) → given w ts ≡ given w ss) → fresh_from d n m ts k ≡ fresh_from d n m ss k
fresh_same n m zero ts ss k h = refl
fresh_same n m (suc d) ts ss k h =
    ap₂ (λ (t : Bool) (s : List ℕ). elim t as (λ _. List ℕ) [ true ↦ s | false ↦ word n m k ]) (h (word n m k)) (fresh_same n m d ts ss (suc k) h)
