-- The number of children and of the facts that each adds: Card's pairs, the child numbers in range, and how many there can be.
use Prim.Native.Nat.{ℕ, zero, suc, ◌+◌, ◌*◌, ◌-◌, ◌/◌, ◌≤◌, ◌<◌}
use native.Mathlib.Omega.{arith}
use native.Mathlib.Nat.{mul-suc, suc-mul, mul-le-mul, div-eq_of_eq-mul_right}
use mathlib.Core.Path.{◌≡◌, refl, sym, ◌∙◌, ap}
use mathlib.Core.Bool.{true, false}
use mathlib.Core.List.{List, [], ◌∷◌, map}
use lib.ListN.{length, get_or, replicate, length-replicate}
use Rattle.lists.specs.Lists.{All}
use Rattle.lists.proofs.Lists.{down}
use Rattle.calculus.specs.Alphabet.{character_count}
use Rattle.calculus.proofs.Alphabet.{ranges_are}
use Rattle.calculus.specs.Steps.{pair_count, last_count, shape}
use Rattle.format.specs.StepForms.{Rule, sum, branch, apart, a_conf, s_conf, s_prop, l_intro, l_valid, c_collapse, c_valid, c_inj, card}
use Rattle.format.specs.StepForms.{join, unknown, form_for, fits_form, rule, length_fits, card_variables, step_of, step_at}
use Rattle.format.proofs.Fields.{length_u16s}
use Rattle.format.proofs.Faults.{not_both}
use Rattle.format.proofs.Decoded.{at_least}
use Rattle.steps.specs.Rules.{one_each}
use Rattle.steps.proofs.Table.{at_most}

twice : (m : ℕ) → 2 * pair_count (suc m) ≡ suc m * m
twice zero = refl
twice (suc m) =
    let h : 2 * pair_count (suc m) ≡ suc m * m = twice m in
    let e : 2 * pair_count (suc (suc m)) ≡ 2 * suc m + 2 * pair_count (suc m) = omega arith in
    omega (arith, mul-suc (suc (suc m)) m, suc-mul (suc m) m)

-- a product of small numbers
pub pairs_few : (m : ℕ) → m ≤ 16 → m * (m - 1) ≤ 240
pairs_few m h = mul-le-mul {n₂ = 16} {m₂ = 15} h (omega arith)

-- the number of pairs among m
pub pairs_halved : (m : ℕ) → m * (m - 1) / 2 ≡ pair_count m
pairs_halved zero = refl
pairs_halved (suc m) = rw (down m) (div-eq_of_eq-mul_right {n = 2} (omega arith) (sym (twice m)))

pub last_left_out : (n : ℕ) → n < 2 → last_count n ≡ 0
last_left_out zero h = refl
last_left_out (suc zero) h = refl
last_left_out (suc (suc n)) h = absurd (omega arith)

pub last_there : (n : ℕ) → 2 ≤ n → last_count n ≡ 1
last_there zero h = absurd (omega arith)
last_there (suc zero) h = absurd (omega arith)
last_there (suc (suc n)) h = refl

-- Card's children, by the length of its body
pub card_count : (b : List ℕ) (n body m : ℕ) → length (shape n (step_of b card body m)) ≡ pair_count ((m - 4) / 2) + last_count (character_count n)
unfolding shape step_of
card_count b n body m =
    length-replicate (pair_count (length (card_variables b body m)) + last_count (character_count n)) 1
    ∙ ap (λ k. pair_count k + last_count (character_count n)) (length_u16s b (body + 4) ((m - 4) / 2))

-- C-Valid's first child adds two facts, its second three
pub c_valid_shape : (b : List ℕ) (n body m : ℕ) → shape n (step_of b c_valid body m) ≡ 2 ∷ 3 ∷ []
unfolding shape step_of
c_valid_shape b n body m = ap (λ (rs : List (ℕ × ℕ)). 2 ∷ map (λ r. 3) rs) (ranges_are n)

-- ---- how many there are

last_few : (n : ℕ) → last_count n ≤ 1
last_few zero = omega arith
last_few (suc zero) = omega arith
last_few (suc (suc n)) = omega arith

card_few : (b : List ℕ) (n body m : ℕ) → fits_form (form_for card) m ≡ true → length (shape n (step_of b card body m)) ≤ 121
card_few b n body m f =
    let long = at_least (form_for card) m f in
    let short = at_most (form_for card) m f in
    let variables : (m - 4) / 2 ≤ 16 = omega arith in
    omega (arith, card_count b n body m, pairs_halved ((m - 4) / 2), pairs_few ((m - 4) / 2) variables, last_few (character_count n))

-- no step has more than 121 children
module _ (b : List ℕ) (n body m : ℕ) where
  pub few_by : (r : Rule) → fits_form (form_for r) m ≡ true → length (shape n (step_of b r body m)) ≤ 121
  unfolding shape step_of
  few_by sum f = omega arith
  few_by branch f = omega arith
  few_by apart f = omega arith
  few_by a_conf f = omega arith
  few_by s_conf f = omega arith
  few_by s_prop f = omega arith
  few_by l_intro f = omega arith
  few_by l_valid f = omega arith
  few_by c_collapse f = omega arith
  few_by c_valid f = let two = ap length (c_valid_shape b n body m) in omega arith
  few_by c_inj f = omega arith
  few_by card f = card_few b n body m f
  few_by join f = omega arith
  few_by unknown f = omega arith

  pub few_children : length_fits b body m ≡ true → length (shape n (step_at b body m)) ≤ 121
  unfolding shape step_of
  few_children f = few_by (rule b body) f

-- ---- how many facts each adds

ones : (k : ℕ) → All {A = ℕ} (λ x. x ≡ 1) (replicate k 1)
ones zero = tt
ones (suc k) = (refl, ones k)

one_at : (ls : List ℕ) (i : ℕ) → All (λ x. x ≡ 1) ls → i < length ls → 1 ≡ get_or ls i 0
one_at [] i h g = absurd (omega arith)
one_at (x ∷ ls) zero h g = sym h.0
one_at (x ∷ ls) (suc i) h g = one_at ls i h.1 (omega arith)

module _ (b : List ℕ) (n body m : ℕ) where
  pub one_each_law : (r : Rule) → one_each r ≡ true → All (λ x. x ≡ 1) (shape n (step_of b r body m))
  unfolding shape step_of
  one_each_law sum e = (refl, tt)
  one_each_law branch e = (refl, (refl, tt))
  one_each_law apart e = (refl, (refl, tt))
  one_each_law a_conf e = tt
  one_each_law s_conf e = tt
  one_each_law s_prop e = (refl, tt)
  one_each_law l_intro e = (refl, tt)
  one_each_law l_valid e = (refl, (refl, tt))
  one_each_law c_collapse e = (refl, tt)
  one_each_law c_valid e = absurd (not_both false e refl)
  one_each_law c_inj e = (refl, (refl, (refl, tt)))
  one_each_law card e = ones (pair_count (length (card_variables b body m)) + last_count (character_count n))
  one_each_law join e = (refl, tt)
  one_each_law unknown e = tt

  module _ (r : Rule) (k : ℕ) where
    pub adds_one : one_each r ≡ true → 1 ≤ k → k ≤ length (shape n (step_of b r body m)) → 1 ≡ get_or (shape n (step_of b r body m)) (k - 1) 0
    adds_one e l h = one_at (shape n (step_of b r body m)) (k - 1) (one_each_law r e) (omega arith)

    pub adds_two : r ≡ c_valid → k ≡ 1 → 2 ≡ get_or (shape n (step_of b r body m)) (k - 1) 0
    adds_two f g = rw (f, c_valid_shape b n body m, g)

    pub adds_three : r ≡ c_valid → (k ≡ 1 → ⊥) → 1 ≤ k → k ≤ length (shape n (step_of b r body m)) → 3 ≡ get_or (shape n (step_of b r body m)) (k - 1) 0
    adds_three f g l h =
        let two : k ≤ 2 = rw (f, c_valid_shape b n body m) at h in
        let second : k ≡ 2 = omega arith in
        rw (f, c_valid_shape b n body m, second)
