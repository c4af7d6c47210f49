-- The child field under claim 2: the test says what document 01 says of it, and a u16 holds it.
use Prim.Native.Nat.{ℕ, zero, suc, ◌+◌, ◌*◌, ◌<◌, ◌≤◌}
use native.Mathlib.Omega.{arith}
use mathlib.Core.Path.{◌≡◌, ap, ap₂}
use mathlib.Core.Logic.{◌⊎◌, inl, inr}
use mathlib.Core.Bool.{true, ◌&&◌}
use mathlib.Core.List.{List, [], ◌∷◌, map}
use lib.ListN.{length, length-replicate}
use lib.Dec.{leb}
use borrow.Author.Tests.{leb-true, eqb-true, le-leb, eq-eqb}
use Rattle.lists.proofs.Tests.{and_both}
use Rattle.calculus.specs.Limits.{variable_limit}
use Rattle.calculus.specs.Alphabet.{character_count, code_ranges}
use Rattle.calculus.specs.Facts.{Question}
use Rattle.calculus.specs.Steps.{Step, Sum, BranchOn, Apart, AConf, SConf, SProp, LIntro, LValid, CCollapse, CValid, CInj, Card, Join}
use Rattle.calculus.specs.Steps.{pair_count, last_count, shape}
use Rattle.calculus.proofs.Alphabet.{ranges_are}
use Rattle.format.specs.Fields.{IsU16}
use Rattle.format.specs.StepForms.{is_child, child_in_range}
use Rattle.format.specs.Written.{OperandsInRange, ChildInRange, TakenInRange}

-- ---- the test and the words

is_child→ : (cs : List ℕ) (k : ℕ) → is_child cs k ≡ true → (1 ≤ k) × ((k ≤ length cs) ⊎ (k ≡ 1))
is_child→ [] k e = let one : k ≡ 1 = eqb-true k 1 e in (omega arith, inr one)
is_child→ (c ∷ cs) k e =
    let (least, most) = and_both (leb 1 k) (leb k (suc (length cs))) e in
    (leb-true 1 k least, inl (leb-true k (suc (length cs)) most))

→is_child : (cs : List ℕ) (k : ℕ) → 1 ≤ k → (k ≤ length cs) ⊎ (k ≡ 1) → is_child cs k ≡ true
→is_child [] k h (inl l) = absurd (omega arith)
→is_child [] k h (inr e) = eq-eqb k 1 e
→is_child (c ∷ cs) k h (inl l) = ap₂ ◌&&◌ (le-leb 1 k h) (le-leb k (suc (length cs)) l)
→is_child (c ∷ cs) k h (inr e) = ap₂ ◌&&◌ (le-leb 1 k h) (le-leb k (suc (length cs)) (omega arith))

pub child→ : (u : Question) (t : Step × ℕ) → child_in_range u.n t.0 t.1 ≡ true → ChildInRange u t
child→ u t e = let (h, g) = is_child→ (shape u.n t.0) t.1 e in record { from_one = h; a_child = g }

pub →child : (u : Question) (t : Step × ℕ) → ChildInRange u t → child_in_range u.n t.0 t.1 ≡ true
→child u t h = →is_child (shape u.n t.0) t.1 h.from_one h.a_child

-- ---- how many children there are

few_pairs : (m : ℕ) → m ≤ variable_limit → pair_count m ≤ variable_limit * m
few_pairs zero h = omega arith
few_pairs (suc m) h = omega (arith, few_pairs m (omega arith))

last_few : (n : ℕ) → last_count n ≤ 1
last_few zero = omega arith
last_few (suc zero) = omega arith
last_few (suc (suc n)) = omega arith

few_ranges : (n : ℕ) → length (map {B = ℕ} (λ r. 3) (code_ranges n)) ≡ 1
few_ranges n = ap (λ l. length (map {B = ℕ} (λ r. 3) l)) (ranges_are n)

few_children : (u : Question) (st : Step) → OperandsInRange u st → length (shape u.n st) < 65536
unfolding shape OperandsInRange
few_children u (Sum d ts) h = omega arith
few_children u (BranchOn e) h = omega arith
few_children u (Apart k) h = omega arith
few_children u (AConf k) h = omega arith
few_children u SConf h = omega arith
few_children u (SProp f x y) h = omega arith
few_children u (LIntro x) h = omega arith
few_children u (LValid x) h = omega arith
few_children u (CCollapse x) h = omega arith
few_children u (CValid x) h = omega (arith, few_ranges u.n)
few_children u (CInj x y) h = omega arith
few_children u (Card xs) (_, most, _) =
    omega (
      arith,
      length-replicate {A = ℕ} (pair_count (length xs) + last_count (character_count u.n)) 1,
      few_pairs (length xs) most,
      last_few (character_count u.n),
      most,
    )
few_children u (Join j k) h = omega arith

pub child_short : (u : Question) (t : Step × ℕ) → TakenInRange u t → IsU16 t.1
child_short u t (o, h) = go h.a_child
  where
    go : (t.1 ≤ length (shape u.n t.0)) ⊎ (t.1 ≡ 1) → IsU16 t.1
    go (inl l) = omega (arith, few_children u t.0 o)
    go (inr e) = omega arith
