-- Extended constraints: the test says the same as the statement; case, character by character; numbers written in decimal are read back, and numeric strings
-- are written back.
use Prim.Native.Nat.{ℕ, zero, suc, ◌+◌, ◌*◌, ◌-◌, ◌/◌, ◌%◌, ◌<◌, ◌≤◌}
use native.Mathlib.Omega.{arith}
use mathlib.Core.Path.{◌≡◌, refl, sym, ◌∙◌, ap, ap₂, subst}
use mathlib.Core.Logic.{◌≢◌, ◌⊎◌, inl, inr}
use mathlib.Core.Bool.{Bool, true, false, not, cond, ◌&&◌, ◌||◌, or-true, and-false, false≢true}
use mathlib.Core.List.{List, [], ◌∷◌, ◌++◌, append-nil, append_assoc, map-append, map}
use lib.ListN.{length, length-append, length-map}
use lib.IntN.{ℤ, pos, negsuc, nat_abs, pos-ne-negsuc}
use lib.Dec.{T, ltb, leb, eqb, eqb→eq}
use borrow.Author.Tests.{ltb-true, ltb-false, leb-true, eqb-true, eqb-false, lt-ltb, le-ltb, le-leb, lt-leb, eq-eqb, ne_eqb}
use Rattle.lists.specs.Lists.{All, all}
use Rattle.lists.proofs.Lists.{all_append, all_true→, →all_true}
use Rattle.lists.proofs.Tests.{→true, true→, and→, →and, and_both, equal_tests}
use Rattle.calculus.specs.Facts.{Question}
use Rattle.calculus.specs.LinearForms.{eqℤ}
use Rattle.calculus.specs.Strings.{eq_string}
use Rattle.calculus.specs.Meaning.{Assignment, str}
use Rattle.calculus.specs.Extended.{upper_character, lower_character, upper, lower}
use Rattle.calculus.specs.Extended.{zero_digit, is_digit, numeric, numeral_from, numeral, to_int, decimal_within, decimal, from_int}
use Rattle.calculus.specs.Extended.{Precedes, equal, prefix, smaller, precedes, Extended, is_upper, is_lower, is_value, is_decimal, in_order}
use Rattle.calculus.specs.Extended.{int, MeetsExtended, meets_extended, basic, extended, constraints_of}
use Rattle.calculus.proofs.LinearForms.{eqℤ→, →eqℤ}
use Rattle.calculus.proofs.Words.{eq_string→, →eq_string}

-- ---- case

-- a character between two others is turned, and no other
turned : (first last c : ℕ) (t : ℕ) → first ≤ c → c ≤ last → cond (leb first c && leb c last) t c ≡ t
turned first last c t h g = rw (le-leb first c h, le-leb c last g)

kept : (first last c : ℕ) (t : ℕ) → (c < first) ⊎ (last < c) → cond (leb first c && leb c last) t c ≡ c
kept first last c t (inl h) = rw (lt-leb first c h)
kept first last c t (inr h) = ap (λ x. cond x t c) (ap (λ y. leb first c && y) (lt-leb c last h) ∙ and-false (leb first c))

pub upper_letter : (d : ℕ) → d < 26 → upper ((97 + d) ∷ []) ≡ (65 + d) ∷ []
unfolding upper
upper_letter d h = ap (λ c. c ∷ []) (turned 97 122 (97 + d) (97 + d - 32) (omega arith) (omega arith) ∙ (let z : 97 + d - 32 ≡ 65 + d = omega arith in z))

pub upper_other : (c : ℕ) → (c < 97) ⊎ (97 + 25 < c) → upper (c ∷ []) ≡ c ∷ []
unfolding upper
upper_other c h = ap (λ d. d ∷ []) (kept 97 122 c (c - 32) h)

pub upper_append : (s t : List ℕ) → upper (s ++ t) ≡ upper s ++ upper t
unfolding upper
upper_append s t = map-append upper_character s t

pub upper_empty : upper [] ≡ []
unfolding upper
upper_empty = refl

pub lower_letter : (d : ℕ) → d < 26 → lower ((65 + d) ∷ []) ≡ (97 + d) ∷ []
unfolding lower
lower_letter d h = ap (λ c. c ∷ []) (turned 65 90 (65 + d) (65 + d + 32) (omega arith) (omega arith) ∙ (let z : 65 + d + 32 ≡ 97 + d = omega arith in z))

pub lower_other : (c : ℕ) → (c < 65) ⊎ (65 + 25 < c) → lower (c ∷ []) ≡ c ∷ []
unfolding lower
lower_other c h = ap (λ d. d ∷ []) (kept 65 90 c (c + 32) h)

pub lower_append : (s t : List ℕ) → lower (s ++ t) ≡ lower s ++ lower t
unfolding lower
lower_append s t = map-append lower_character s t

pub lower_empty : lower [] ≡ []
unfolding lower
lower_empty = refl

-- ---- order

-- a character that both begin with changes nothing
pub precedes_behind : {c d : ℕ} {s t : List ℕ} → c ≡ d → Precedes s t → Precedes (c ∷ s) (d ∷ t)
precedes_behind q (equal e) = equal (ap₂ ◌∷◌ q e)
precedes_behind q (prefix x rest e) = prefix x rest (ap₂ ◌∷◌ (sym q) e)
precedes_behind {c} q (smaller front x y s' t' e f h) = smaller (c ∷ front) x y s' t' (ap (λ r. c ∷ r) e) (ap₂ ◌∷◌ (sym q) f) h

precedes→ : (s t : List ℕ) → precedes s t ≡ true → Precedes s t
unfolding precedes
precedes→ [] [] e = equal refl
precedes→ [] (d ∷ t) e = prefix d t refl
precedes→ (c ∷ s) [] e = absurd (false≢true e)
precedes→ (c ∷ s) (d ∷ t) e = go (ltb c d) refl (eqb c d) refl (precedes→ s t) e
  where
    go : (a : Bool) → ltb c d ≡ a → (b : Bool) → eqb c d ≡ b → (precedes s t ≡ true → Precedes s t) → (a || (b && precedes s t)) ≡ true
        → Precedes (c ∷ s) (d ∷ t)
    go true h b g ih e = smaller [] c d s t refl refl (ltb-true c d h)
    go false h true g ih e = precedes_behind (eqb-true c d g) (ih e)
    go false h false g ih e = absurd (false≢true e)

-- nor does a string that both begin with
precedes_front : (front s t : List ℕ) → precedes (front ++ s) (front ++ t) ≡ precedes s t
unfolding precedes
precedes_front [] s t = refl
precedes_front (c ∷ front) s t =
    ap₂ (λ a b. a || (b && precedes (front ++ s) (front ++ t))) (le-ltb c c (omega arith)) (eq-eqb c c refl) ∙ precedes_front front s t

precedes_prefix : (s t : List ℕ) → precedes s (s ++ t) ≡ true
unfolding precedes
precedes_prefix s t = subst (λ r. precedes r (s ++ t) ≡ true) (append-nil s) (precedes_front s [] t)

→precedes : (s t : List ℕ) → Precedes s t → precedes s t ≡ true
unfolding precedes
→precedes s t (equal e) = subst (λ r. precedes s r ≡ true) (append-nil s ∙ e) (precedes_prefix s [])
→precedes s t (prefix c rest e) = subst (λ r. precedes s r ≡ true) (sym e) (precedes_prefix s (c ∷ rest))
→precedes s t (smaller front c d s' t' e f h) =
    ap₂ precedes e f ∙ precedes_front front (c ∷ s') (d ∷ t') ∙ ap (λ a. a || (eqb c d && precedes s' t')) (lt-ltb c d h)

-- two strings, each equal to or before the other, are one
precedes_same : (s t : List ℕ) → precedes s t ≡ true → precedes t s ≡ true → s ≡ t
unfolding precedes
precedes_same [] [] e f = refl
precedes_same [] (d ∷ t) e f = absurd (false≢true f)
precedes_same (c ∷ s) [] e f = absurd (false≢true e)
precedes_same (c ∷ s) (d ∷ t) e f = go (ltb c d) refl (eqb c d) refl (ltb d c) refl (eqb d c) refl (precedes_same s t) e f
  where
    go : (a : Bool) → ltb c d ≡ a → (b : Bool) → eqb c d ≡ b → (a' : Bool) → ltb d c ≡ a' → (b' : Bool) → eqb d c ≡ b'
        → (precedes s t ≡ true → precedes t s ≡ true → s ≡ t)
        → (a || (b && precedes s t)) ≡ true → (a' || (b' && precedes t s)) ≡ true → c ∷ s ≡ d ∷ t
    go true h b g true h' b' g' ih e f = absurd (let i = ltb-true c d h in let j = ltb-true d c h' in omega arith)
    go true h b g false h' true g' ih e f = absurd (let i = ltb-true c d h in let j = eqb-true d c g' in omega arith)
    go true h b g false h' false g' ih e f = absurd (false≢true f)
    go false h true g true h' b' g' ih e f = absurd (let i = ltb-true d c h' in let j = eqb-true c d g in omega arith)
    go false h true g false h' true g' ih e f = ap₂ ◌∷◌ (eqb-true c d g) (ih e f)
    go false h true g false h' false g' ih e f = absurd (false≢true f)
    go false h false g a' h' b' g' ih e f = absurd (false≢true e)

pub precedes_both : (s t : List ℕ) → Precedes s t → Precedes t s → s ≡ t
precedes_both s t p q = precedes_same s t (→precedes s t p) (→precedes t s q)

-- ---- the test of an extended constraint

pub extended→ : (a : Assignment) (e : Extended) → meets_extended a e ≡ true → MeetsExtended a e
extended→ a (is_upper x y) h = eq_string→ (str a x) (upper (str a y)) (true→ h)
extended→ a (is_lower x y) h = eq_string→ (str a x) (lower (str a y)) (true→ h)
extended→ a (is_value x y) h = eqℤ→ (int a x) (to_int (str a y)) (true→ h)
extended→ a (is_decimal x y) h = eq_string→ (str a x) (from_int (int a y)) (true→ h)
extended→ a (in_order x y) h = precedes→ (str a x) (str a y) h

pub →extended : (a : Assignment) (e : Extended) → MeetsExtended a e → meets_extended a e ≡ true
→extended a (is_upper x y) h = →true (eq_string (str a x) (upper (str a y))) (→eq_string h)
→extended a (is_lower x y) h = →true (eq_string (str a x) (lower (str a y))) (→eq_string h)
→extended a (is_value x y) h = →true (eqℤ (int a x) (to_int (str a y))) (→eqℤ h)
→extended a (is_decimal x y) h = →true (eq_string (str a x) (from_int (int a y))) (→eq_string h)
→extended a (in_order x y) h = →precedes (str a x) (str a y) h

-- ---- numeric strings

abbrev Digit : ℕ → Type 0
Digit c = (zero_digit ≤ c) × (c ≤ 57)

digit→ : (c : ℕ) → is_digit c ≡ true → Digit c
digit→ c e = let (p, q) = and_both (leb zero_digit c) (leb c 57) e in (leb-true zero_digit c p, leb-true c 57 q)

→digit : (c : ℕ) → Digit c → is_digit c ≡ true
→digit c (p, q) = ap₂ ◌&&◌ (le-leb zero_digit c p) (le-leb c 57 q)

-- digits, the first of which is not 0: what is numeric is such a string, or 0 alone
abbrev Leading : List ℕ → Type 0
Leading [] = ⊥
Leading (c ∷ s) = ((zero_digit < c) × (c ≤ 57)) × All Digit s

leading_numeric : (s : List ℕ) → Leading s → numeric s ≡ true
unfolding numeric
leading_numeric [] h = absurd h
leading_numeric (c ∷ s) ((p, q), h) =
    ap₂ ◌&&◌ (lt-ltb 0 (suc (length s)) (omega arith))
    (ap₂ ◌&&◌ (→all_true is_digit (c ∷ s) →digit ((omega arith, q), h))
    (simp (ne_eqb c zero_digit (λ e. omega arith), or-true)))

numeric→ : (s : List ℕ) → numeric s ≡ true → (s ≡ zero_digit ∷ []) ⊎ Leading s
unfolding numeric
numeric→ [] e = absurd (false≢true e)
numeric→ (c ∷ s) e =
    let (some, others) = and_both (ltb 0 (suc (length s))) (all is_digit (c ∷ s) && (eqb (suc (length s)) 1 || not (eqb c zero_digit))) e in
    let (digits, first) = and_both (all is_digit (c ∷ s)) (eqb (suc (length s)) 1 || not (eqb c zero_digit)) others in
    let (h, hs) : All Digit (c ∷ s) = all_true→ is_digit (c ∷ s) digit→ digits in go (eqb c zero_digit) refl s first h hs
  where
    go : (a : Bool) → eqb c zero_digit ≡ a → (s : List ℕ) → (eqb (suc (length s)) 1 || not a) ≡ true → Digit c → All Digit s
        → (◌≡◌ {A = List ℕ} (c ∷ s) (zero_digit ∷ [])) ⊎ Leading (c ∷ s)
    go true q [] g h hs = inl (ap (λ x. x ∷ []) (eqb-true c zero_digit q))
    go true q (d ∷ s) g h hs = absurd (false≢true (sym (ap (λ a. a || false) (ne_eqb (suc (suc (length s))) 1 (λ e. omega arith))) ∙ g))
    go false q s g (p, r) hs = inr ((omega (arith, eqb-false c zero_digit q), r), hs)

-- ---- values

numeral_append : (v : ℕ) (s t : List ℕ) → numeral_from v (s ++ t) ≡ numeral_from (numeral_from v s) t
unfolding numeral_from
numeral_append v [] t = refl
numeral_append v (c ∷ s) t = numeral_append (10 * v + (c - zero_digit)) s t

pub numeral_grows : (v : ℕ) (s : List ℕ) → v ≤ numeral_from v s
unfolding numeral_from
numeral_grows v [] = omega arith
numeral_grows v (c ∷ s) = omega (arith, numeral_grows (10 * v + (c - zero_digit)) s)

-- ---- a number in decimal is one digit, or others and a last one

module _ (d k : ℕ) where
  abbrev turn : Bool → List ℕ
  turn t = elim t as (λ _. List ℕ) [ true ↦ (zero_digit + k) ∷ [] | false ↦ decimal_within d (k / 10) ++ ((zero_digit + k % 10) ∷ []) ]

  decimal_one : k < 10 → decimal_within (suc d) k ≡ ((zero_digit + k) ∷ [])
  unfolding decimal_within
  decimal_one h = ap turn (lt-ltb k 10 h)

  decimal_more : 10 ≤ k → decimal_within (suc d) k ≡ decimal_within d (k / 10) ++ ((zero_digit + k % 10) ∷ [])
  unfolding decimal_within
  decimal_more h = ap turn (le-ltb k 10 h)

-- a number below 10 is its digit
pub decimal_digit : (d : ℕ) → d < 10 → decimal d ≡ ((zero_digit + d) ∷ [])
decimal_digit d h = decimal_one d d h

-- beyond the number itself, how many digits it may have changes nothing
decimal_enough : (d e k : ℕ) → k < d → k < e → decimal_within d k ≡ decimal_within e k
decimal_enough zero e k h g = absurd (omega arith)
decimal_enough (suc d) zero k h g = absurd (omega arith)
decimal_enough (suc d) (suc e) k h g = go (ltb k 10) refl (decimal_enough d e (k / 10))
  where
    go : (a : Bool) → ltb k 10 ≡ a → (k / 10 < d → k / 10 < e → decimal_within d (k / 10) ≡ decimal_within e (k / 10))
        → decimal_within (suc d) k ≡ decimal_within (suc e) k
    go true q ih = decimal_one d k (ltb-true k 10 q) ∙ sym (decimal_one e k (ltb-true k 10 q))
    go false q ih =
        let large : 10 ≤ k = ltb-false k 10 q in
        decimal_more d k large ∙ ap (λ s. s ++ ((zero_digit + k % 10) ∷ [])) (ih (omega arith) (omega arith)) ∙ sym (decimal_more e k large)

-- a further digit is written after the others
pub decimal_behind : (v d : ℕ) → 1 ≤ v → d ≤ 9 → decimal (10 * v + d) ≡ decimal v ++ ((zero_digit + d) ∷ [])
decimal_behind v d h g =
    let q : (10 * v + d) / 10 ≡ v = omega arith in
    let r : (10 * v + d) % 10 ≡ d = omega arith in
    decimal_more (10 * v + d) (10 * v + d) (omega arith)
    ∙ ap₂ (λ s c. s ++ ((zero_digit + c) ∷ []))
    (ap (decimal_within (10 * v + d)) q ∙ decimal_enough (10 * v + d) (suc v) v (omega arith) (omega arith)) r

-- so are further digits
decimal_from : (v : ℕ) (s : List ℕ) → 1 ≤ v → All Digit s → decimal (numeral_from v s) ≡ decimal v ++ s
unfolding numeral_from
decimal_from v [] h g = sym (append-nil (decimal v))
decimal_from v (c ∷ s) h ((p, q), g) =
    let same : zero_digit + (c - zero_digit) ≡ c = omega arith in
    decimal_from (10 * v + (c - zero_digit)) s (omega arith) g
    ∙ ap (λ t. t ++ s) (decimal_behind v (c - zero_digit) h (omega arith) ∙ ap (λ x. decimal v ++ (x ∷ [])) same)
    ∙ append_assoc (decimal v) (c ∷ []) s

-- ---- what is written is numeric and is read back

leading_behind : (s : List ℕ) (c : ℕ) → Leading s → Digit c → Leading (s ++ (c ∷ []))
leading_behind [] c h g = absurd h
leading_behind (x ∷ s) c (p, h) g = (p, all_append Digit s (c ∷ []) h (g, tt))

decimal_leading : (d k : ℕ) → 1 ≤ k → k < d → Leading (decimal_within d k)
decimal_leading zero k h g = absurd (omega arith)
decimal_leading (suc d) k h g = go (ltb k 10) refl (decimal_leading d (k / 10))
  where
    go : (a : Bool) → ltb k 10 ≡ a → (1 ≤ k / 10 → k / 10 < d → Leading (decimal_within d (k / 10))) → Leading (decimal_within (suc d) k)
    go true q ih = let small : k < 10 = ltb-true k 10 q in subst Leading (sym (decimal_one d k small)) ((omega arith, omega arith), tt)
    go false q ih =
        let large : 10 ≤ k = ltb-false k 10 q in
        subst Leading (sym (decimal_more d k large))
        (leading_behind (decimal_within d (k / 10)) (zero_digit + k % 10) (ih (omega arith) (omega arith)) (omega arith, omega arith))

decimal_numeric : (k : ℕ) → numeric (decimal k) ≡ true
unfolding numeric decimal_within
decimal_numeric zero = refl
decimal_numeric (suc k) = leading_numeric (decimal (suc k)) (decimal_leading (suc (suc k)) (suc k) (omega arith) (omega arith))

value_within : (d k : ℕ) → k < d → numeral (decimal_within d k) ≡ k
unfolding numeral_from
value_within zero k h = absurd (omega arith)
value_within (suc d) k h = go (ltb k 10) refl (value_within d (k / 10))
  where
    go : (a : Bool) → ltb k 10 ≡ a → (k / 10 < d → numeral (decimal_within d (k / 10)) ≡ k / 10) → numeral (decimal_within (suc d) k) ≡ k
    go true q ih = ap numeral (decimal_one d k (ltb-true k 10 q)) ∙ (let z : 10 * 0 + (zero_digit + k - zero_digit) ≡ k = omega arith in z)
    go false q ih =
        let large : 10 ≤ k = ltb-false k 10 q in
        ap numeral (decimal_more d k large) ∙ numeral_append 0 (decimal_within d (k / 10)) ((zero_digit + k % 10) ∷ [])
        ∙ ap (λ v. 10 * v + (zero_digit + k % 10 - zero_digit)) (ih (omega arith))
        ∙ (let z : 10 * (k / 10) + (zero_digit + k % 10 - zero_digit) ≡ k = omega arith in z)

decimal_value : (k : ℕ) → numeral (decimal k) ≡ k
decimal_value k = value_within (suc k) k (omega arith)

-- ---- what is numeric is written again

leading_decimal : (s : List ℕ) → Leading s → decimal (numeral s) ≡ s
unfolding numeral_from
leading_decimal [] h = absurd h
leading_decimal (c ∷ s) ((p, q), h) =
    let same : zero_digit + (10 * 0 + (c - zero_digit)) ≡ c = omega arith in
    decimal_from (10 * 0 + (c - zero_digit)) s (omega arith) h
    ∙ ap (λ t. t ++ s) (decimal_one (10 * 0 + (c - zero_digit)) (10 * 0 + (c - zero_digit)) (omega arith) ∙ ap (λ x. x ∷ []) same)

numeric_decimal : (s : List ℕ) → numeric s ≡ true → decimal (numeral s) ≡ s
unfolding numeral_from decimal_within
numeric_decimal s e = go (numeric→ s e)
  where
    go : (s ≡ zero_digit ∷ []) ⊎ Leading s → decimal (numeral s) ≡ s
    go (inl q) = ap (λ t. decimal (numeral t)) q ∙ sym q
    go (inr h) = leading_decimal s h

-- a string is read as the number that it is the decimal of, and else as −1
module _ (s : List ℕ) where
  abbrev read : Bool → ℤ
  read t = cond t (pos (numeral s)) (negsuc 0)

  pub to_int→ : (k : ℕ) → to_int s ≡ pos k → s ≡ decimal k
  to_int→ k e = go (numeric s) refl e
    where
      go : (t : Bool) → numeric s ≡ t → read t ≡ pos k → s ≡ decimal k
      go true h e = sym (numeric_decimal s h) ∙ ap decimal (ap nat_abs e)
      go false h e = absurd (pos-ne-negsuc k 0 (sym e))

  pub →to_int : (k : ℕ) → s ≡ decimal k → to_int s ≡ pos k
  →to_int k e = ap read (ap numeric e ∙ decimal_numeric k) ∙ ap pos (ap numeral e ∙ decimal_value k)

  pub to_int_else : ((k : ℕ) → s ≢ decimal k) → to_int s ≡ negsuc 0
  to_int_else h = go (numeric s) refl
    where
      go : (t : Bool) → numeric s ≡ t → read t ≡ negsuc 0
      go true e = absurd (h (numeral s) (sym (numeric_decimal s e)))
      go false e = refl

pub decimal_is : (s : List ℕ) (k : ℕ) → eq_string s (decimal k) ≡ (numeric s && eqb (numeral s) k)
decimal_is s k =
    equal_tests (eq_string s (decimal k)) (numeric s && eqb (numeral s) k) (λ h. is (eq_string→ s (decimal k) h))
    (λ h. let (p, q) = and→ (numeric s) (eqb (numeral s) k) h in
    →eq_string (sym (numeric_decimal s (→true (numeric s) p)) ∙ ap decimal (eqb→eq (numeral s) k q)))
  where
    is : s ≡ decimal k → T (numeric s && eqb (numeral s) k)
    is e =
        →and (numeric s) (eqb (numeral s) k) (true→ (ap numeric e ∙ decimal_numeric k))
        (true→ (eq-eqb (numeral s) k (ap numeral e ∙ decimal_value k)))

-- the constraints of the question and the extended ones
pub length_constraints_of : (u : Question) (es : List Extended) → length (constraints_of u es) ≡ length u.constraints + length es
length_constraints_of u es =
    length-append (map basic u.constraints) (map extended es) ∙ ap₂ ◌+◌ (length-map u.constraints basic) (length-map es extended)
