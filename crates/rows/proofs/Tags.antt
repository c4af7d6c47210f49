-- What a row's tag says of its fact.
use Prim.Native.Nat.{ℕ, zero, suc, ◌+◌, ◌-◌, ◌≤◌, ◌<◌}
use native.Mathlib.Omega.{arith}
use mathlib.Core.Path.{◌≡◌, refl, sym, ◌∙◌, ap, ap₂, subst}
use mathlib.Core.Bool.{Bool, true, false, cond}
use mathlib.Core.List.{List, [], ◌∷◌}
use borrow.Author.Tests.{lt-ltb, ltb-true}
use lib.ListN.{length, get_or, drop, set}
use lib.Dec.{ltb}
use lib.IntN.{ℤ, pos, negsuc, nat_abs}
use Rattle.std.specs.Int.{FitsUnsignedBits}
use mir.Syntax.{w64}
use mir.Val.{SFits, to_z, of_z}
use mir.Facts.{to_z-of_z, to_z_pos}
use Rattle.calculus.specs.Limits.{variable_limit}
use Rattle.calculus.specs.Facts.{same, not_same, is_literal, arithmetic, Relation, ge, eq, ne}
use Rattle.format.specs.Question.{string_fact, relation_of}
use Rattle.rows.specs.Rows.{index, tagged, fact_of}
use Rattle.rows.specs.Work.{tag_of}

-- a signed number by its bits
pub from_bits : (z : ℤ) (n : ℕ) → SFits w64 z → of_z w64 z ≡ n → n < 9223372036854775808 → z ≡ pos n
from_bits z n f e h = sym (to_z-of_z f) ∙ ap (to_z w64) e ∙ to_z_pos w64 h

-- ---- rows with a known tag

pub relation_fact : (r : ℕ) (e : List ℤ) → r ≤ 2 → fact_of (pos r ∷ e) ≡ arithmetic (relation_of r) e
unfolding fact_of tagged
relation_fact zero e h = refl
relation_fact (suc zero) e h = refl
relation_fact (suc (suc zero)) e h = refl
relation_fact (suc (suc (suc r))) e h = absurd (omega arith)

-- the tag of a relation, before any form
relation_tag : (r : Relation) (a e : List ℤ) → fact_of (pos (tag_of (arithmetic r a)) ∷ e) ≡ arithmetic r e
unfolding tag_of
relation_tag ge a e = relation_fact 0 e (omega arith)
relation_tag eq a e = relation_fact 1 e (omega arith)
relation_tag ne a e = relation_fact 2 e (omega arith)

-- and set in a row
pub tag_set : (r : Relation) (a row : List ℤ) → length row ≡ 50 → fact_of (set row 0 (pos (tag_of (arithmetic r a)))) ≡ arithmetic r (drop 1 row)
tag_set r a [] h = absurd (omega arith)
tag_set r a (x ∷ e) h = relation_tag r a e

pub relation_low : (r : Relation) (e : List ℤ) → tag_of (arithmetic r e) ≤ 2
unfolding tag_of
relation_low ge e = omega arith
relation_low eq e = omega arith
relation_low ne e = omega arith

pub index_of : (a : ℕ) → a < 16 → index (pos a) ≡ a
index_of a h = ap (λ t. cond t a 0) (lt-ltb a 16 h)

pub string_fact_law : (r a b : ℕ) (l : List ℤ) → r ≤ 2 → a < 16 → b < 16 → fact_of (pos (r + 3) ∷ pos a ∷ pos b ∷ l) ≡ string_fact r a b
unfolding fact_of tagged
string_fact_law zero a b l h g k = ap₂ same (index_of a g) (index_of b k)
string_fact_law (suc zero) a b l h g k = ap₂ not_same (index_of a g) (index_of b k)
string_fact_law (suc (suc zero)) a b l h g k = ap₂ is_literal (index_of a g) (index_of b k)
string_fact_law (suc (suc (suc r))) a b l h g k = absurd (omega arith)

-- ---- the tag from a row's first number

module _ (row : List ℤ) where
  tag_from : (z : ℤ) → get_or row 0 (pos 0) ≡ z → tag_of (fact_of row) ≡ tag_of (tagged z (index (get_or row 1 (pos 0))) (index (get_or row 2 (pos 0))) (drop 1 row))
  unfolding fact_of
  tag_from z e = ap (λ t. tag_of (tagged t (index (get_or row 1 (pos 0))) (index (get_or row 2 (pos 0))) (drop 1 row))) e

  known : (k a b : ℕ) (e : List ℤ) → k ≤ 5 → tag_of (tagged (pos k) a b e) ≡ k
  unfolding tagged tag_of
  known zero a b e h = refl
  known (suc zero) a b e h = refl
  known (suc (suc zero)) a b e h = refl
  known (suc (suc (suc zero))) a b e h = refl
  known (suc (suc (suc (suc zero)))) a b e h = refl
  known (suc (suc (suc (suc (suc zero))))) a b e h = refl
  known (suc (suc (suc (suc (suc (suc k)))))) a b e h = absurd (omega arith)

  -- a number that is no tag is the tag of ≠
  other : (z : ℤ) (a b : ℕ) (e : List ℤ) → (FitsUnsignedBits 64 z → 5 < nat_abs z) → tag_of (tagged z a b e) ≡ 2
  unfolding tagged tag_of
  other (pos zero) a b e h = let g = h (omega arith) in absurd (omega arith)
  other (pos (suc zero)) a b e h = let g = h (omega arith) in absurd (omega arith)
  other (pos (suc (suc zero))) a b e h = refl
  other (pos (suc (suc (suc zero)))) a b e h = let g = h (omega arith) in absurd (omega arith)
  other (pos (suc (suc (suc (suc zero))))) a b e h = let g = h (omega arith) in absurd (omega arith)
  other (pos (suc (suc (suc (suc (suc zero)))))) a b e h = let g = h (omega arith) in absurd (omega arith)
  other (pos (suc (suc (suc (suc (suc (suc k))))))) a b e h = refl
  other (negsuc k) a b e h = refl

  known_at : (z : ℤ) (a b : ℕ) (e : List ℤ) → FitsUnsignedBits 64 z → nat_abs z ≤ 5 → tag_of (tagged z a b e) ≡ nat_abs z
  known_at (pos k) a b e f h = known k a b e h
  known_at (negsuc k) a b e f h = absurd f

  pub tag_known : (z : ℤ) → get_or row 0 (pos 0) ≡ z → FitsUnsignedBits 64 z → nat_abs z ≤ 5 → tag_of (fact_of row) ≡ nat_abs z
  tag_known z e f h = tag_from z e ∙ known_at z (index (get_or row 1 (pos 0))) (index (get_or row 2 (pos 0))) (drop 1 row) f h

  pub tag_other : (z : ℤ) → get_or row 0 (pos 0) ≡ z → (FitsUnsignedBits 64 z → 5 < nat_abs z) → tag_of (fact_of row) ≡ 2
  tag_other z e h = tag_from z e ∙ other z (index (get_or row 1 (pos 0))) (index (get_or row 2 (pos 0))) (drop 1 row) h

tag_alone : (z : ℤ) (a b c d : ℕ) (e f : List ℤ) → tag_of (tagged z a b e) ≡ tag_of (tagged z c d f)
unfolding tagged tag_of
tag_alone (pos zero) a b c d e f = refl
tag_alone (pos (suc zero)) a b c d e f = refl
tag_alone (pos (suc (suc zero))) a b c d e f = refl
tag_alone (pos (suc (suc (suc zero)))) a b c d e f = refl
tag_alone (pos (suc (suc (suc (suc zero))))) a b c d e f = refl
tag_alone (pos (suc (suc (suc (suc (suc zero)))))) a b c d e f = refl
tag_alone (pos (suc (suc (suc (suc (suc (suc k))))))) a b c d e f = refl
tag_alone (negsuc k) a b c d e f = refl

-- rows with one first number have one tag
pub tag_kept : (row other : List ℤ) → get_or row 0 (pos 0) ≡ get_or other 0 (pos 0) → tag_of (fact_of row) ≡ tag_of (fact_of other)
tag_kept row other h = tag_from row (get_or other 0 (pos 0)) h ∙ tag_alone (get_or other 0 (pos 0)) _ _ _ _ _ _ ∙ sym (tag_from other _ refl)

-- ---- the fact from the tag

tag_relation : (z : ℤ) (a b : ℕ) (e : List ℤ) → tag_of (tagged z a b e) ≤ 2 → tagged z a b e ≡ arithmetic (relation_of (tag_of (tagged z a b e))) e
unfolding tagged tag_of
tag_relation (pos zero) a b e h = refl
tag_relation (pos (suc zero)) a b e h = refl
tag_relation (pos (suc (suc zero))) a b e h = refl
tag_relation (pos (suc (suc (suc zero)))) a b e h = absurd (omega arith)
tag_relation (pos (suc (suc (suc (suc zero))))) a b e h = absurd (omega arith)
tag_relation (pos (suc (suc (suc (suc (suc zero)))))) a b e h = absurd (omega arith)
tag_relation (pos (suc (suc (suc (suc (suc (suc n))))))) a b e h = refl
tag_relation (negsuc n) a b e h = refl

-- a row of tag 0, 1 or 2 is ≥, = or ≠ of the form after its tag
pub row_relation : (row : List ℤ) (k : ℕ) → k ≡ tag_of (fact_of row) → k ≤ 2 → fact_of row ≡ arithmetic (relation_of k) (drop 1 row)
unfolding fact_of
row_relation row k e h =
    tag_relation (get_or row 0 (pos 0)) (index (get_or row 1 (pos 0))) (index (get_or row 2 (pos 0))) (drop 1 row) (subst (λ n. n ≤ 2) e h)
    ∙ ap (λ n. arithmetic (relation_of n) (drop 1 row)) (sym e)

tag_string : (z : ℤ) (a b : ℕ) (e : List ℤ) → 2 < tag_of (tagged z a b e) → tagged z a b e ≡ string_fact (tag_of (tagged z a b e) - 3) a b
unfolding tagged tag_of
tag_string (pos zero) a b e h = absurd (omega arith)
tag_string (pos (suc zero)) a b e h = absurd (omega arith)
tag_string (pos (suc (suc zero))) a b e h = absurd (omega arith)
tag_string (pos (suc (suc (suc zero)))) a b e h = refl
tag_string (pos (suc (suc (suc (suc zero))))) a b e h = refl
tag_string (pos (suc (suc (suc (suc (suc zero)))))) a b e h = refl
tag_string (pos (suc (suc (suc (suc (suc (suc n))))))) a b e h = absurd (omega arith)
tag_string (negsuc n) a b e h = absurd (omega arith)

-- a row of tag 3, 4 or 5 is ≈, ≉ or ≈ literal of the operands in numbers 1 and 2
pub row_string : (row : List ℤ) (k : ℕ)
    → k ≡ tag_of (fact_of row)
    → 2 < k
    → fact_of row ≡ string_fact (k - 3) (index (get_or row 1 (pos 0))) (index (get_or row 2 (pos 0)))
unfolding fact_of
row_string row k e h =
    tag_string (get_or row 0 (pos 0)) (index (get_or row 1 (pos 0))) (index (get_or row 2 (pos 0))) (drop 1 row) (subst (λ n. 2 < n) e h)
    ∙ ap (λ n. string_fact (n - 3) (index (get_or row 1 (pos 0))) (index (get_or row 2 (pos 0)))) (sym e)

-- ---- a row's number as an index

pub index_low : (z : ℤ) → index z < variable_limit
index_low (pos k) = go (ltb k variable_limit) refl
  where
    go : (t : Bool) → ltb k variable_limit ≡ t → cond t k 0 < variable_limit
    go true e = ltb-true k variable_limit e
    go false e = omega arith
index_low (negsuc k) = omega arith
