-- Texts, and one turn of each loop over records: what is left from a position equals what is left from the next.
use mathlib.Core.Path.{◌≡◌, refl, ◌∙◌, ap}
use mathlib.Core.Bool.{Bool, true, false, ◌&&◌, and-false}
use mathlib.Core.List.{List, [], ◌∷◌}
use Prim.Native.Nat.{ℕ, zero, suc, ◌+◌, ◌*◌, ◌-◌, ◌≤◌, ◌<◌}
use native.Mathlib.Omega.{arith}
use native.Mathlib.Numerals.{add-one}
use lib.Dec.{eqb}
use lib.ListN.{length, get_or}
use borrow.Author.Tests.{le-ltb, eq-eqb, ne_eqb, le-leb, lt-leb}
use Rattle.lists.proofs.Lists.{down}
use Rattle.calculus.specs.Strings.{eq_string, given}
use Rattle.format.specs.Fields.{u32, u32s}
use Rattle.format.specs.Records.{size, next}
use Rattle.format.specs.Question.{text_of}
use Rattle.format.specs.Places.{skip, texts}
use Rattle.format.proofs.Places.{skip_room, skip_snoc}
use Rattle.format.proofs.Fields.{field_at}

-- the tests of a definition, each from a fact in scope
pub ruleset tests = (eq-eqb, ne_eqb, le-leb, lt-leb, le-ltb)

-- ---- two texts

-- strings that differ at a place differ
pub same_differs : (s t : List ℕ) (i : ℕ) → (get_or s i 0 ≡ get_or t i 0 → ⊥) → eq_string s t ≡ false
same_differs [] [] i h = absurd (h refl)
same_differs [] (d ∷ t) i h = refl
same_differs (c ∷ s) [] i h = refl
same_differs (c ∷ s) (d ∷ t) zero h = ap (λ (e : Bool). e && eq_string s t) (ne_eqb c d h)
same_differs (c ∷ s) (d ∷ t) (suc i) h = ap (λ (e : Bool). eqb c d && e) (same_differs s t i h) ∙ and-false (eqb c d)

-- a character of a text
pub text_char : (b : List ℕ) (at k i : ℕ) → i < k → get_or (u32s b at k) i 0 ≡ u32 b (at + 4 * i)
unfolding u32s
text_char b at k i h = field_at 4 (u32 b) at k i 0 h

-- ---- records one after another

module _ (b : List ℕ) (from k j : ℕ) (e : j ≡ skip b k from) where
  -- one more was passed
  pub record_passed : (m : ℕ) → m ≡ size b j → j + (6 + m) ≡ skip b (k + 1) from
  record_passed m f = rw (add-one k) (omega (arith, skip_snoc b k from, ap (next b) e))

  -- one of the first n is within the bytes
  pub record_within : (n : ℕ) → k < n → skip b n from ≤ length b → next b j ≤ length b
  record_within n h g = rw e (omega (arith, skip_room b k n from h))

-- ---- literals one after another

module _ (b : List ℕ) (t : List ℕ) (at : ℕ) where
  pub given_done : (k : ℕ) → k ≤ 0 → given t (texts b k at) ≡ false
  unfolding texts
  given_done zero h = refl
  given_done (suc k) h = absurd (omega arith)

  pub given_yes : (k : ℕ) → 0 < k → eq_string t (text_of b (at + 6) (size b at)) ≡ true → given t (texts b k at) ≡ true
  unfolding texts
  given_yes zero h e = absurd (omega arith)
  given_yes (suc k) h e = rw e

  pub given_no : (k : ℕ) → 0 < k → eq_string t (text_of b (at + 6) (size b at)) ≡ false → given t (texts b k at) ≡ given t (texts b (k - 1) (next b at))
  unfolding texts
  given_no zero h e = absurd (omega arith)
  given_no (suc k) h e = rw (e, down k)
