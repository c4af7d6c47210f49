-- Where the records of an answer of its form stand, and that the one out of range is among them.
use Prim.Native.Nat.{ℕ, zero, suc, ◌+◌, ◌*◌, ◌%◌, ◌≤◌, ◌<◌}
use native.Mathlib.Omega.{arith}
use mathlib.Core.Path.{◌≡◌, refl}
use mathlib.Core.Bool.{Bool, true, false, ◌&&◌}
use mathlib.Core.Option.{Option, none, some}
use mathlib.Core.List.{List}
use lib.ListN.{length}
use lib.Dec.{leb, eqb}
use borrow.Author.Tests.{leb-true, leb-false, eqb-true}
use Rattle.lists.proofs.Tests.{and_both}
use Rattle.calculus.specs.Limits.{length_limit, value_limit}
use Rattle.calculus.specs.Alphabet.{all_characters}
use Rattle.calculus.specs.Facts.{Question}
use Rattle.format.specs.Fields.{all_within}
use Rattle.format.specs.Records.{size, kind, next, whole}
use Rattle.format.specs.Places.{skip, text_at}
use Rattle.format.specs.Answer.{record_is, string_form, answer_form, integers_at, outside}
use Rattle.format.proofs.Places.{skip_room}

-- a record that passed its test is whole and of its size
pub record_there : (b : List ℕ) (at k m : ℕ) → record_is b at k m ≡ true → (next b at ≤ length b) × (size b at ≡ m)
record_there b at k m e =
    let (w, t) = and_both (whole b at) (eqb (kind b at) k && eqb (size b at) m) e in
    (leb-true (next b at) (length b) w, eqb-true (size b at) m (and_both (eqb (kind b at) k) (eqb (size b at) m) t).1)

pub string_there : (b : List ℕ) (at : ℕ) → string_form b at ≡ true → next b at ≤ length b
string_there b at e =
    leb-true (next b at) (length b) (and_both (whole b at) (eqb (kind b at) 9 && (eqb (size b at % 4) 0 && leb (size b at) (4 * length_limit))) e).0

-- ---- where the records of a formed answer stand

pub form_tail : (b : List ℕ) (q p at : ℕ) → answer_form b p q at ≡ true → answer_form b 0 q (skip b p at) ≡ true
unfolding answer_form skip
form_tail b q zero at e = e
form_tail b q (suc p) at e = form_tail b q p (next b at) (and_both (string_form b at) (answer_form b p q (next b at)) e).1

pub tail_there : (b : List ℕ) (q at : ℕ) → answer_form b 0 q at ≡ true → (next b at ≤ length b) × (size b at ≡ 4 * q)
unfolding answer_form
tail_there b q at e =
    record_there b at 10 (4 * q) (and_both (record_is b at 10 (4 * q)) (record_is b (next b at) 8 0 && eqb (next b (next b at)) (length b)) e).0

-- ---- the records of a formed answer are all there

module _ (b : List ℕ) (p q : ℕ) (formed : answer_form b p q 0 ≡ true) where
  pub integers_there : skip b p 0 + 6 + 4 * q ≤ length b
  integers_there = let (h, m) = tail_there b q (skip b p 0) (form_tail b q p 0 formed) in omega arith

  pub text_there : (x : ℕ) → x < p → next b (skip b x 0) ≤ length b
  text_there x h = omega (arith, skip_room b x p 0 h, integers_there)

  -- each of them is whole
  pub record_whole : (r : ℕ) → r ≤ p → next b (skip b r 0) ≤ length b
  record_whole r h = go (leb (suc r) p) refl
    where
      go : (x : Bool) → leb (suc r) p ≡ x → next b (skip b r 0) ≤ length b
      go true e = text_there r (leb-true (suc r) p e)
      go false e =
          let same : r ≡ p = omega (arith, leb-false (suc r) p e) in
          rw same (tail_there b q (skip b p 0) (form_tail b q p 0 formed)).0

-- ---- the record out of range

-- it is one of the strings' records or the integers'
pub outside_place : (b : List ℕ) (u : Question) (p r at k : ℕ) → outside b u p r at ≡ some k → k ≤ r + p
unfolding outside
outside_place b u zero r at k e = go (all_within value_limit (integers_at b u.q at)) e
  where
    go : (x : Bool) → ◌≡◌ {A = Option ℕ} (elim x as (λ _. Option ℕ) [ true ↦ none | false ↦ some r ]) (some k) → k ≤ r + 0
    go true e = absurd (let z : ◌≡◌ {A = ℕ} 0 1 = cc in omega arith)
    go false e = let z : r ≡ k = cc in omega arith
outside_place b u (suc p) r at k e = go (all_characters u.n (text_at b at)) e (λ f. outside_place b u p (suc r) (next b at) k f)
  where
    go : (x : Bool)
        → ◌≡◌ {A = Option ℕ} (elim x as (λ _. Option ℕ) [ true ↦ outside b u p (suc r) (next b at) | false ↦ some r ]) (some k)
        → (outside b u p (suc r) (next b at) ≡ some k → k ≤ suc r + p)
        → k ≤ r + suc p
    go true e ih = omega (arith, ih e)
    go false e ih = let z : r ≡ k = cc in omega arith
