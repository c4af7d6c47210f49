-- Texts by std's words for a chain of iterators: cased characters, digits, the order.
use mathlib.Core.Path.{◌≡◌, refl, ◌∙◌, ap}
use mathlib.Core.Bool.{Bool, true, false, ◌&&◌, ◌||◌, or-false}
use mathlib.Core.List.{List, [], ◌∷◌, map, cons≢nil}
use mathlib.Core.Logic.{◌⊎◌, inl, inr}
use Prim.Native.Nat.{ℕ, ◌+◌, ◌≤◌, ◌<◌}
use native.Mathlib.Omega.{arith}
use lib.Dec.{ltb, leb, eqb}
use lib.ListN.{length, length-map}
use borrow.Author.Tests.{lt-ltb, le-ltb, eq-eqb, ne_eqb, le-leb, lt-leb, leb-true}
use Rattle.std.specs.List.{list_all, zip}
use Rattle.std.specs.Ordering.{nat_cmp, is_le, MatchOrdering, ordering_then}
use Rattle.std.specs.declared.cmp.Ordering.{Ordering}
use Rattle.std.specs.declared.cmp.Ordering.TheVariants.{Less, Equal, Greater}
use Rattle.std.specs.Cmp.{ranks}
use Rattle.std.specs.Cmp.Lexicographic.{slice_cmp}
use Rattle.lists.specs.Lists.{all}
use Rattle.lists.proofs.Tests.{and_both}
use Rattle.lists.proofs.Lists.{eq_list_lengths}
use Rattle.calculus.specs.Strings.{eq_string}
use Rattle.calculus.specs.Extended.{zero_digit, is_digit, precedes}

-- ---- case

module _ (f : ℕ → ℕ) where
  -- texts of different lengths differ
  pub cased_lengths : (s r : List ℕ) → (length s ≡ length r → ⊥) → eq_string s (map f r) ≡ false
  cased_lengths s r h = eq_list_lengths eqb s (map f r) (λ e. h (e ∙ length-map r f))

  -- a character beside one that is changed
  abbrev pub same_cased : ℕ × ℕ → Bool
  same_cased p = eqb p.0 (f p.1)

  -- texts of one length, character beside character
  pub cased_is : (s r : List ℕ) → length s ≡ length r → list_all same_cased (zip s r) ≡ eq_string s (map f r)
  cased_is [] [] h = refl
  cased_is [] (d ∷ r) h = absurd (omega arith)
  cased_is (c ∷ s) [] h = absurd (omega arith)
  cased_is (c ∷ s) (d ∷ r) h = ap (λ a. same_cased (c, d) && a) (cased_is s r (omega arith))

-- ---- digits

-- the first of digits, and those after it
pub digits→ : (c : ℕ) (s : List ℕ) → all is_digit (c ∷ s) ≡ true → (zero_digit ≤ c) × (c ≤ 57) × (all is_digit s ≡ true)
digits→ c s e =
    let (d, rest) = and_both (is_digit c) (all is_digit s) e in
    let (low, high) = and_both (leb zero_digit c) (leb c 57) d in
    (leb-true zero_digit c low, leb-true c 57 high, rest)

-- ---- order

-- texts that begin alike are in the order of what is left of them
pub order_on : (c d : ℕ) (s t : List ℕ) → c ≡ d → precedes (c ∷ s) (d ∷ t) ≡ precedes s t
unfolding precedes
order_on c d s t e = rw (le-ltb c d (omega arith), eq-eqb c d e)

-- others by their first characters
pub order_apart : (c d : ℕ) (s t : List ℕ) → (c ≡ d → ⊥) → precedes (c ∷ s) (d ∷ t) ≡ ltb c d
unfolding precedes
order_apart c d s t n = ap (λ a. ltb c d || (a && precedes s t)) (ne_eqb c d n) ∙ or-false (ltb c d)

-- where one of two texts ends, their lengths tell the order: m and k are these, with as many characters before both
pub order_ends : (s t : List ℕ) (m k : ℕ) → (s ≡ []) ⊎ (t ≡ []) → length s + k ≡ length t + m → leb m k ≡ precedes s t
unfolding precedes
order_ends [] t m k h e = le-leb m k (omega arith)
order_ends (c ∷ s) [] m k h e = lt-leb m k (omega arith)
order_ends (c ∷ s) (d ∷ t) m k (inl h) e = absurd (cons≢nil h)
order_ends (c ∷ s) (d ∷ t) m k (inr h) e = absurd (cons≢nil h)

-- the order of std's `cmp` on lists
pub order_is : (s t : List ℕ) → is_le (slice_cmp nat_cmp s t) ≡ precedes s t
unfolding precedes
order_is [] [] = refl
order_is [] (d ∷ t) = refl
order_is (c ∷ s) [] = refl
order_is (c ∷ s) (d ∷ t) = go (nat_cmp c d) (ranks c d) (order_is s t)
  where
    go : (o : Ordering) → MatchOrdering o (c < d) (c ≡ d) (d < c) → is_le (slice_cmp nat_cmp s t) ≡ precedes s t
        → is_le (ordering_then o (slice_cmp nat_cmp s t)) ≡ (ltb c d || (eqb c d && precedes s t))
    go Less h i = rw (lt-ltb c d h)
    go Equal h i = i ∙ rw (le-ltb c d (omega arith), eq-eqb c d h)
    go Greater h i = rw (le-ltb c d (omega arith), ne_eqb c d (λ e. omega arith))
