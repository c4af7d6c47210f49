-- The variables of a step, read one after another from the bytes.
use Prim.Native.Nat.{ℕ, zero, suc, ◌+◌, ◌*◌, ◌-◌, ◌/◌, ◌≤◌, ◌<◌}
use native.Mathlib.Numerals.{add-one}
use native.Mathlib.Omega.{arith}
use mathlib.Core.Path.{◌≡◌, refl, sym, ◌∙◌, ap, subst}
use mathlib.Core.Bool.{true, false, not, ◌&&◌, ◌||◌}
use mathlib.Core.List.{List, [], ◌∷◌}
use borrow.Author.Tests.{eq-eqb, ltb-true, not-true}
use lib.ListN.{length, get_or}
use lib.Dec.{ltb}
use lib.IntN.{ℤ}
use Rattle.lists.proofs.Lists.{down}
use Rattle.lists.proofs.Tests.{and_both}
use Rattle.calculus.specs.Rules.{among, distinct}
use Rattle.format.specs.Fields.{u16, u16s}
use Rattle.format.specs.StepForms.{card, form_for, rule, are_variables, operands_in_range}
use Rattle.format.proofs.Faults.{not_both}
use Rattle.format.proofs.Fields.{field_at}
use Rattle.question.specs.declared.Progress.{Progress}
use Rattle.steps.specs.Ready.{Ready}
use Rattle.steps.proofs.Table.{at_most}
use Rattle.steps.proofs.Bodies.{fitting, long, ranged}

-- the first of them and the others
pub u16s_more : (b : List ℕ) (i left : ℕ) → 0 < left → u16s b i left ≡ u16 b i ∷ u16s b (i + 2) (left - 1)
unfolding u16s
u16s_more b i zero h = absurd (omega arith)
u16s_more b i (suc n) h = rw (down n)

pub u16s_done : (b : List ℕ) (i left : ℕ) → left ≤ 0 → u16s b i left ≡ []
unfolding u16s
u16s_done b i zero h = refl
u16s_done b i (suc n) h = absurd (omega arith)

pub u16s_one_more : (b : List ℕ) (i others : ℕ) → u16s b i (others + 1) ≡ u16 b i ∷ u16s b (i + 2) others
unfolding u16s
u16s_one_more b i others = rw add-one

pub u16s_at : (b : List ℕ) (i n j : ℕ) → j < n → get_or (u16s b i n) j 0 ≡ u16 b (i + 2 * j)
unfolding u16s
u16s_at b i n j h = field_at 2 (u16 b) i n j 0 h

-- ---- a variable among others

pub among_yes : (b : List ℕ) (i left x : ℕ) → 0 < left → u16 b i ≡ x → among x (u16s b i left) ≡ true
among_yes b i left x h e = ap (among x) (u16s_more b i left h) ∙ ap (λ t. t || among x (u16s b (i + 2) (left - 1))) (eq-eqb x (u16 b i) (sym e))

-- ---- different variables

pub distinct_no : (b : List ℕ) (i left : ℕ) → 0 < left → among (u16 b i) (u16s b (i + 2) (left - 1)) ≡ true → distinct (u16s b i left) ≡ false
distinct_no b i left h e = ap distinct (u16s_more b i left h) ∙ ap (λ t. not t && distinct (u16s b (i + 2) (left - 1))) e

pub distinct_yes : (b : List ℕ) (i left : ℕ)
    → 0 < left
    → among (u16 b i) (u16s b (i + 2) (left - 1)) ≡ false
    → distinct (u16s b i left) ≡ distinct (u16s b (i + 2) (left - 1))
distinct_yes b i left h e = ap distinct (u16s_more b i left h) ∙ ap (λ t. not t && distinct (u16s b (i + 2) (left - 1))) e

distinct_parts : (b : List ℕ) (i others : ℕ)
    → distinct (u16s b i (others + 1)) ≡ true
    → (among (u16 b i) (u16s b (i + 2) others) ≡ false) × (distinct (u16s b (i + 2) others) ≡ true)
distinct_parts b i others e =
    let (p, q) =
    and_both (not (among (u16 b i) (u16s b (i + 2) others))) (distinct (u16s b (i + 2) others)) (sym (ap distinct (u16s_one_more b i others)) ∙ e) in
    (not-true _ p, q)

-- one fewer, and one
pub recount : (others : ℕ) → 0 < others → others - 1 + 1 ≡ others
recount others h = omega arith

pub distinct_rest : (b : List ℕ) (i others : ℕ) → 0 < others → distinct (u16s b i (others + 1)) ≡ true → distinct (u16s b (i + 2) (others - 1 + 1)) ≡ true
distinct_rest b i others h e = ap (λ n. distinct (u16s b (i + 2) n)) (recount others h) ∙ (distinct_parts b i others e).1

pub neighbours_differ : (b : List ℕ) (i others : ℕ) → 0 < others → distinct (u16s b i (others + 1)) ≡ true → u16 b i ≡ u16 b (i + 2) → ⊥
neighbours_differ b i others h e q =
    let f : among (u16 b i) (u16s b (i + 2) others) ≡ true = among_yes b (i + 2) others (u16 b i) h (sym q) in
    not_both (among (u16 b i) (u16s b (i + 2) others)) f (distinct_parts b i others e).0

-- ---- variables below p

pub below_first : (b : List ℕ) (p i left : ℕ) → 0 < left → are_variables p (u16s b i left) ≡ true → u16 b i < p
below_first b p i left h e =
    ltb-true (u16 b i) p (and_both (ltb (u16 b i) p) (are_variables p (u16s b (i + 2) (left - 1))) (sym (ap (are_variables p) (u16s_more b i left h)) ∙ e)).0

pub below_others : (b : List ℕ) (p i left : ℕ) → 0 < left → are_variables p (u16s b i left) ≡ true → are_variables p (u16s b (i + 2) (left - 1)) ≡ true
below_others b p i left h e = (and_both (ltb (u16 b i) p) (are_variables p (u16s b (i + 2) (left - 1))) (sym (ap (are_variables p) (u16s_more b i left h)) ∙ e)).1

pub below_at : (b : List ℕ) (p i n j : ℕ) → j < n → are_variables p (u16s b i n) ≡ true → u16 b (i + 2 * j) < p
below_at b p i zero j h e = absurd (omega arith)
below_at b p i (suc n) zero h e = let q : i + 2 * 0 ≡ i = omega arith in rw q (below_first b p i (suc n) (omega arith) e)
below_at b p i (suc n) (suc j) h e =
    let q : i + 2 * suc j ≡ i + 2 + 2 * j = omega arith in
    rw q
    (below_at b p (i + 2) n j (omega arith) (subst (λ l. are_variables p (u16s b (i + 2) l) ≡ true) (down n) (below_others b p i (suc n) (omega arith) e)))

pub below_later : (b : List ℕ) (p i others j : ℕ) → j < others → are_variables p (u16s b i (others + 1)) ≡ true → u16 b (i + 2 + 2 * j) < p
below_later b p i others j h e =
    let q : i + 2 * (j + 1) ≡ i + 2 + 2 * j = omega arith in
    subst (λ k. u16 b k < p) q (below_at b p i (others + 1) (j + 1) (omega arith) e)

pub below_second : (b : List ℕ) (p i others : ℕ) → 0 < others → are_variables p (u16s b i (others + 1)) ≡ true → u16 b (i + 2) < p
below_second b p i others h e =
    let q : i + 2 + 2 * 0 ≡ i + 2 = omega arith in
    subst (λ k. u16 b k < p) q (below_later b p i others 0 h e)

pub below_rest : (b : List ℕ) (p i others : ℕ)
    → 0 < others
    → are_variables p (u16s b i (others + 1)) ≡ true
    → are_variables p (u16s b (i + 2) (others - 1 + 1)) ≡ true
below_rest b p i others h e =
    let q : others + 1 - 1 ≡ others - 1 + 1 = omega arith in
    subst (λ n. are_variables p (u16s b (i + 2) n) ≡ true) q (below_others b p i (others + 1) (omega arith) e)

-- ---- those of Card

module _ {b : List ℕ} {s : Progress} {body m : ℕ} {w : List ℤ} {count : ℕ} (h : Ready b s body m w count) where
  pub card_operands : card ≡ rule b body
      → (2 ≤ (m - 4) / 2)
      × ((m - 4) / 2 ≤ 16)
      × (body + 4 + 2 * ((m - 4) / 2) ≤ length b)
      × (are_variables s.p (u16s b (body + 4) ((m - 4) / 2)) ≡ true)
      × (4 ≤ m)
  unfolding operands_in_range
  card_operands e =
      let l : 8 ≤ m = long h card e in
      let most : (m - 8) / 2 ≤ 14 = at_most (form_for card) m (fitting h card e) in
      let whole = h.formed.within in
      (omega arith, omega arith, omega arith, ranged h card e, omega arith)
