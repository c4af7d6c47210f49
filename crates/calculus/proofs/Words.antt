-- Strings over the alphabet: those of one length in order, each there once, so that different ones are at most as many; and the first that is not among given
-- ones.
use Prim.Native.Nat.{ℕ, zero, suc, ◌+◌, ◌*◌, ◌/◌, ◌%◌, ◌^◌, ◌<◌, ◌≤◌}
use native.Mathlib.Omega.{arith}
use native.Mathlib.Decide.{ℕ_discrete}
use native.Mathlib.Nat.{mod-lt, mod-eq_of_lt, div-eq_of_lt, div-add-mod, div-lt_iff_lt-mul, add-mul-div_left}
use native.Mathlib.Nat.{add-mul-mod_self_left, mul-le-mul_left, mul_comm, pow-succ', pow-zero, one-le-pow}
use mathlib.Core.Path.{◌≡◌, refl, sym, ◌∙◌, ap, ap₂, subst}
use mathlib.Core.Logic.{◌≢◌, ◌⊎◌, inl, inr}
use mathlib.Core.Bool.{Bool, true, false}
use mathlib.Core.List.{List, [], ◌∷◌, head-eq_of_cons-eq, tail-eq_of_cons-eq}
use lib.ListN.{length}
use lib.Dec.{T, eqb, eqb→eq, eqb_refl}
use lib.IntN.{negsuc}
use Rattle.lists.specs.Lists.{All, NotIn, Distinct}
use Rattle.lists.proofs.Lists.{In, all_in, at_most, all→, →all, any→, →any, eq_list→, eq_list_refl}
use Rattle.lists.proofs.Tests.{true→}
use Rattle.calculus.specs.Alphabet.{character_count, character, is_character, Over, all_characters}
use Rattle.calculus.specs.Facts.{code_of}
use Rattle.calculus.specs.Strings.{word, eq_string, given, fresh_from}
use Rattle.calculus.proofs.Alphabet.{some_character, character_at, place_of, character_place, at_place, character_injective, character→, →character}

pub over→ : (n : ℕ) (s : List ℕ) → T (all_characters n s) → Over n s
unfolding all_characters
over→ n s t = all→ (is_character n) s (character→ n) t

pub →over : (n : ℕ) (s : List ℕ) → Over n s → T (all_characters n s)
unfolding all_characters
→over n s h = →all (is_character n) s (→character n) h

-- a string has one character, or its code is −1
pub one_or_no_code : (s : List ℕ) → ((c : ℕ) × (s ≡ c ∷ [])) ⊎ ((length s ≢ 1) × (code_of s ≡ negsuc 0))
one_or_no_code [] = inr ((λ e. omega arith), refl)
one_or_no_code (c ∷ []) = inl (c, refl)
one_or_no_code (c ∷ d ∷ s) = inr ((λ e. omega arith), refl)

-- ---- the strings of one length, in order

pub length_word : (n l k : ℕ) → length (word n l k) ≡ l
length_word n zero k = refl
length_word n (suc l) k = ap suc (length_word n l (k % character_count n ^ l))

pub word_over : (n l k : ℕ) → 0 < n → k < character_count n ^ l → Over n (word n l k)
word_over n zero k z h = tt
word_over n (suc l) k z h =
    let some = one-le-pow l (character_count n) (some_character n z) in
    (character_at n (k / character_count n ^ l) ((div-lt_iff_lt-mul some).1 (rw pow-succ' at h)), word_over n l (k % character_count n ^ l) z (mod-lt k some))

word_injective : (n l i j : ℕ) → 0 < n → i < character_count n ^ l → j < character_count n ^ l → word n l i ≡ word n l j → i ≡ j
word_injective n zero i j z h g e = let a : i < 1 = rw pow-zero at h in let b : j < 1 = rw pow-zero at g in omega arith
word_injective n (suc l) i j z h g e =
    let some = one-le-pow l (character_count n) (some_character n z) in
    let q : i / character_count n ^ l ≡ j / character_count n ^ l =
    character_injective n (i / character_count n ^ l) (j / character_count n ^ l) (head-eq_of_cons-eq e) in
    let r : i % character_count n ^ l ≡ j % character_count n ^ l =
    word_injective n l (i % character_count n ^ l) (j % character_count n ^ l) z (mod-lt i some) (mod-lt j some) (tail-eq_of_cons-eq e) in
    sym (div-add-mod i (character_count n ^ l)) ∙ ap₂ (λ x y. character_count n ^ l * x + y) q r ∙ div-add-mod j (character_count n ^ l)

-- ---- the number of a string among those of its length

pub place : ℕ → List ℕ → ℕ
place n [] = 0
place n (c ∷ s) = place n s + character_count n ^ length s * place_of n c

place_below : (n : ℕ) (s : List ℕ) → Over n s → place n s < character_count n ^ length s
unfolding place
place_below n [] h = rw pow-zero (omega arith)
place_below n (c ∷ s) (h, hs) =
    let f : place n s < character_count n ^ length s = place_below n s hs in
    let g : character_count n ^ length s * suc (place_of n c) ≤ character_count n ^ length s * character_count n =
    mul-le-mul_left (character_count n ^ length s) (character_place n c h) in
    let e : character_count n ^ suc (length s) ≡ character_count n ^ length s * character_count n =
    pow-succ' (character_count n) (length s) ∙ mul_comm (character_count n) (character_count n ^ length s) in
    omega arith

pub word_place : (n : ℕ) (s : List ℕ) → Over n s → word n (length s) (place n s) ≡ s
unfolding place
word_place n [] h = refl
word_place n (c ∷ s) (h, hs) =
    let f : place n s < character_count n ^ length s = place_below n s hs in
    let z : 0 < character_count n ^ length s = omega arith in
    let k : ℕ = place_of n c in
    let q : (place n s + character_count n ^ length s * k) / character_count n ^ length s ≡ k =
    add-mul-div_left (place n s) k z ∙ ap (λ x. x + k) (div-eq_of_lt f) ∙ (let y : 0 + k ≡ k = omega arith in y) in
    let r : (place n s + character_count n ^ length s * k) % character_count n ^ length s ≡ place n s =
    add-mul-mod_self_left (place n s) (character_count n ^ length s) k ∙ mod-eq_of_lt f in
    ap₂ (λ d j. character n d ∷ word n (length s) j) q r ∙ ap₂ (λ d t. d ∷ t) (at_place n c h) (word_place n s hs)

-- ---- the first k strings of length l

pub words : ℕ → ℕ → ℕ → List (List ℕ)
words n l zero = []
words n l (suc k) = word n l k ∷ words n l k

pub length_words : (n l k : ℕ) → length (words n l k) ≡ k
unfolding words
length_words n l zero = refl
length_words n l (suc k) = ap suc (length_words n l k)

pub in_words→ : (n l k : ℕ) (s : List ℕ) → In s (words n l k) → (j : ℕ) × (j < k) × (s ≡ word n l j)
unfolding words
in_words→ n l zero s h = absurd h
in_words→ n l (suc k) s (inl e) = (k, omega arith, e)
in_words→ n l (suc k) s (inr h) = let (j, g, e) = in_words→ n l k s h in (j, omega arith, e)

→in_words : (n l k j : ℕ) (s : List ℕ) → j < k → s ≡ word n l j → In s (words n l k)
unfolding words
→in_words n l zero j s h e = absurd (omega arith)
→in_words n l (suc k) j s h e = go (ℕ_discrete j k) (→in_words n l k j s)
  where
    go : Dec (j ≡ k) → (j < k → s ≡ word n l j → In s (words n l k)) → (s ≡ word n l k) ⊎ In s (words n l k)
    go (yes p) ih = inl (e ∙ ap (word n l) p)
    go (no f) ih = inr (ih (omega arith) e)

words_not_in : (n l k i : ℕ) → 0 < n → i < character_count n ^ l → k ≤ i → NotIn (word n l i) (words n l k)
unfolding words
words_not_in n l zero i z h g = tt
words_not_in n l (suc k) i z h g = ((λ e. let c : i ≡ k = word_injective n l i k z h (omega arith) e in omega arith), words_not_in n l k i z h (omega arith))

pub words_distinct : (n l k : ℕ) → 0 < n → k ≤ character_count n ^ l → Distinct (words n l k)
unfolding words
words_distinct n l zero z h = tt
words_distinct n l (suc k) z h = (words_not_in n l k k z h (omega arith), words_distinct n l k z (omega arith))

-- ---- different strings of one length are at most as many as the alphabet to its power

-- a string of length l over n characters
abbrev pub Word : ℕ → ℕ → List ℕ → Type 0
Word n l s = Over n s × (length s ≡ l)

pub count : (n l : ℕ) (ss : List (List ℕ)) → All (Word n l) ss → Distinct ss → length ss ≤ character_count n ^ l
count n l ss ws d =
    subst (λ k. length ss ≤ k) (length_words n l (character_count n ^ l))
    (at_most ss (words n l (character_count n ^ l)) d (λ s i. among s (all_in (Word n l) ss s ws i)))
  where
    among : (s : List ℕ) → Word n l s → In s (words n l (character_count n ^ l))
    among s (o, e) =
        →in_words n l (character_count n ^ l) (place n s) s (subst (λ l. place n s < character_count n ^ l) e (place_below n s o))
        (sym (word_place n s o) ∙ ap (λ l. word n l (place n s)) e)

-- ---- the first word that is not given

pub eq_string→ : (s t : List ℕ) → T (eq_string s t) → s ≡ t
eq_string→ s t h = eq_list→ eqb eqb→eq s t h

pub →eq_string : {s t : List ℕ} → s ≡ t → T (eq_string s t)
→eq_string {s} e = subst (λ t. T (eq_string s t)) e (eq_list_refl eqb eqb_refl s)

pub given→ : (s : List ℕ) (ts : List (List ℕ)) → T (given s ts) → In s ts
given→ s ts h = any→ (eq_string s) ts (λ t. eq_string→ s t) h

pub →given : (s : List ℕ) (ts : List (List ℕ)) → In s ts → T (given s ts)
→given s ts h = →any (eq_string s) ts (λ t e. →eq_string e) h

-- the first word that is not given, or all that were tried are given
abbrev pub Fresh : ℕ → ℕ → List (List ℕ) → ℕ → List ℕ → Type 0
Fresh n l ts top s = ((j : ℕ) × (s ≡ word n l j) × (In s ts → ⊥) × ((i : ℕ) → i < j → In (word n l i) ts)) ⊎ ((i : ℕ) → i < top → In (word n l i) ts)

fresh_from_law : (d n l : ℕ) (ts : List (List ℕ)) (k : ℕ) → ((i : ℕ) → i < k → In (word n l i) ts) → Fresh n l ts (k + d) (fresh_from d n l ts k)
fresh_from_law zero n l ts k h = inr (λ i g. h i (omega arith))
fresh_from_law (suc d) n l ts k h = go (given (word n l k) ts) refl (fresh_from_law d n l ts (suc k))
  where
    more : In (word n l k) ts → (i : ℕ) → i < suc k → In (word n l i) ts
    more g i a = by (ℕ_discrete i k)
      where
        by : Dec (i ≡ k) → In (word n l i) ts
        by (yes p) = subst (λ i. In (word n l i) ts) (sym p) g
        by (no f) = h i (omega arith)

    go : (t : Bool) → given (word n l k) ts ≡ t → (((i : ℕ) → i < suc k → In (word n l i) ts) → Fresh n l ts (suc k + d) (fresh_from d n l ts (suc k)))
        → Fresh n l ts (k + suc d) (elim t as (λ _. List ℕ) [ true ↦ fresh_from d n l ts (suc k) | false ↦ word n l k ])
    go true e ih =
        subst (λ top. Fresh n l ts top (fresh_from d n l ts (suc k))) (let z : suc k + d ≡ k + suc d = omega arith in z)
        (ih (more (given→ (word n l k) ts (true→ e))))
    go false e ih = inl (k, refl, (λ i. subst T e (→given (word n l k) ts i)), h)

pub fresh : (d n l : ℕ) (ts : List (List ℕ)) → Fresh n l ts d (fresh_from d n l ts 0)
fresh d n l ts =
    subst (λ top. Fresh n l ts top (fresh_from d n l ts 0)) (let z : 0 + d ≡ d = omega arith in z)
    (fresh_from_law d n l ts 0 (λ i h. absurd (let g : i < 0 = h in omega arith)))

pub length_fresh : (d n l : ℕ) (ts : List (List ℕ)) (k : ℕ) → length (fresh_from d n l ts k) ≡ l
length_fresh zero n l ts k = length_word n l k
length_fresh (suc d) n l ts k = go (given (word n l k) ts) (length_fresh d n l ts (suc k))
  where
    go : (t : Bool)
        → length (fresh_from d n l ts (suc k)) ≡ l
        → length {A = ℕ} (elim t as (λ _. List ℕ) [ true ↦ fresh_from d n l ts (suc k) | false ↦ word n l k ]) ≡ l
    go true ih = ih
    go false ih = length_word n l k
