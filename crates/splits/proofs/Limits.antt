-- "9 when a new number passes the limit": no rule but Branch and Apart can, and these have two children.
use Prim.Native.Nat.{ℕ, zero, suc, ◌+◌, ◌-◌, ◌/◌, ◌^◌, ◌≤◌, ◌<◌}
use native.Mathlib.Omega.{arith}
use native.Mathlib.Decide.{dec_lt}
use mathlib.Core.Logic.{◌⊎◌, inl, inr}
use mathlib.Core.Path.{◌≡◌, refl, sym, ◌∙◌, ap, ap₂, subst}
use mathlib.Core.Bool.{Bool, true, false, ◌&&◌, and-true}
use mathlib.Core.Option.{Option, some}
use mathlib.Core.List.{List, [], ◌∷◌}
use lib.ListN.{length, get_or}
use lib.Dec.{leb}
use lib.IntN.{ℤ, pos, negsuc, neg_ℤ, nat_abs, ◌+ℤ◌, ◌*ℤ◌}
use Rattle.lists.proofs.Tests.{and_both}
use Rattle.integers.proofs.Laws.{abs_neg, minus_one_*ℤ}
use Rattle.calculus.specs.Limits.{number_limit}
use Rattle.calculus.specs.LinearForms.{scale, above, below}
use Rattle.calculus.specs.Facts.{Fact, is_literal, arithmetic, ge}
use Rattle.calculus.specs.Children.{l_valid_children, c_valid_children, c_inj_children, pair_children_with, pair_children}
use Rattle.calculus.specs.Rules.{least_power, last_child}
use Rattle.format.specs.Fields.{u16, u16s, within, all_within}
use Rattle.format.specs.StepForms.{l_valid, c_valid, c_inj, card, rule}
use Rattle.format.specs.Checking.{fits, or_none, child_in, fact_within, facts_within, children_within}
use Rattle.rows.proofs.Small.{within_single, within_difference}
use Rattle.rows.proofs.Forms.{above_form, below_form, above_column, minus_number, columns_difference}
use Rattle.question.specs.declared.Progress.{Progress}
use Rattle.question.specs.Columns.{column_at}
use Rattle.question.specs.Posed.{numbered}
use types.Run.{OneOf}
use denote.Enum.Declared.{tag_of}
use Rattle.steps.specs.declared.Rule.{Rule}
use Rattle.steps.specs.declared.Rule.TheVariants.{Branch, Apart}
use Rattle.steps.specs.Rules.{rule_named}
use Rattle.steps.specs.Ready.{Ready}
use Rattle.steps.specs.contracts.Rule.{the_type}
use Rattle.steps.proofs.Rules.{in_arm}
use Rattle.steps.proofs.Bodies.{given, l_valid_variable, c_valid_variable}
use Rattle.steps.proofs.Variables.{below_first, card_operands}
use Rattle.splits.proofs.Forms.{c_valid_children_law, last_is, last_none}
use Rattle.splits.proofs.Operands.{c_inj_operands, branch_child, apart_child}
use Rattle.splits.proofs.Operands.{l_valid_child, c_valid_child, c_inj_differ, c_inj_child, card_child}

-- ---- one child of all

pub one_within : (f : Fact) → fact_within f ≡ facts_within (f ∷ [])
unfolding facts_within
one_within f = sym (and-true (fact_within f))

pub two_within : (o : Option (List (List Fact))) (c d : List Fact)
    → o ≡ some (c ∷ d ∷ [])
    → children_within (or_none o) ≡ (facts_within (or_none (child_in o 1)) && facts_within (or_none (child_in o 2)))
unfolding children_within
two_within o c d e =
    subst
    (λ (p : Option (List (List Fact))). children_within (or_none p) ≡ (facts_within (or_none (child_in p 1)) && facts_within (or_none (child_in p 2))))
    (sym e)
    (ap (λ t. facts_within c && t) (and-true (facts_within d)))

-- ---- Branch and Apart: only the constant of e − 1 and of −e − 1 can pass the limit

scale_within : (e : List ℤ) → all_within number_limit (scale (negsuc 0) e) ≡ all_within number_limit e
unfolding all_within
scale_within [] = refl
scale_within (z ∷ e) = ap₂ (λ (n : ℕ) (t : Bool). leb n number_limit && t) (ap nat_abs (minus_one_*ℤ z) ∙ abs_neg z) (scale_within e)

first_within : (v : ℤ) (cs : List ℤ) → all_within number_limit cs ≡ true → within number_limit v ≡ facts_within (arithmetic ge (v ∷ cs) ∷ [])
unfolding facts_within all_within
first_within v cs h =
    sym (and-true (within number_limit v)) ∙ ap (λ t. within number_limit v && t) (sym h) ∙ sym (and-true (within number_limit v && all_within number_limit cs))

pub above_within : (e : List ℤ) (v : ℤ)
    → length e ≡ 49
    → all_within number_limit e ≡ true
    → v ≡ get_or e 0 (pos 0) +ℤ negsuc 0
    → within number_limit v ≡ facts_within (arithmetic ge (above e) ∷ [])
unfolding all_within
above_within [] v l h q = absurd (omega arith)
above_within (c ∷ cs) v l h q =
    first_within v cs (and_both (within number_limit c) (all_within number_limit cs) h).1
    ∙ ap (λ (r : List ℤ). facts_within (arithmetic ge r ∷ [])) (ap (λ (z : ℤ). z ∷ cs) q ∙ sym (above_form c cs (omega arith)))

pub below_within : (e : List ℤ) (v : ℤ)
    → length e ≡ 49
    → all_within number_limit e ≡ true
    → v ≡ (negsuc 0 *ℤ get_or e 0 (pos 0)) +ℤ negsuc 0
    → within number_limit v ≡ facts_within (arithmetic ge (below e) ∷ [])
unfolding all_within
below_within [] v l h q = absurd (omega arith)
below_within (c ∷ cs) v l h q =
    first_within v (scale (negsuc 0) cs) (scale_within cs ∙ (and_both (within number_limit c) (all_within number_limit cs) h).1)
    ∙ ap (λ (r : List ℤ). facts_within (arithmetic ge r ∷ [])) (ap (λ (z : ℤ). z ∷ scale (negsuc 0) cs) q ∙ sym (below_form c cs (omega arith)))

-- ---- the children of each rule

module _ (s : Progress) (x : ℕ) (hl : s.q + x < 48) where
  l_valid_within : children_within (l_valid_children (numbered s) x) ≡ true
  unfolding children_within facts_within
  l_valid_within =
      ap (λ (e : List ℤ). children_within ((is_literal x 0 ∷ []) ∷ (arithmetic ge e ∷ []) ∷ [])) (above_column (s.q + x) hl)
      ∙ ap (λ t. (t && true) && true) (within_single (negsuc 0) (s.q + x) (pos 1) (omega arith) (omega arith))

  c_valid_within : s.q + (s.p + x) < 48 → s.n ≤ 196608 → children_within (c_valid_children (numbered s) x) ≡ true
  unfolding children_within facts_within column_at
  c_valid_within hc hn =
      ap children_within (c_valid_children_law s x (s.q + x) (s.q + (s.p + x)) refl refl hl hc)
      ∙ rw (
        within_single (negsuc 0) (s.q + x) (pos 1) (omega arith) (omega arith),
        within_single (pos 1) (s.q + (s.p + x)) (pos 1) (omega arith) (omega arith),
        within_single (pos 0) (s.q + (s.p + x)) (pos 1) (omega arith) (omega arith),
        within_single (pos (s.n - 1)) (s.q + (s.p + x)) (negsuc 0) (omega arith) (omega arith),
      )

c_inj_within : (s : Progress) (x y : ℕ) → s.q + (s.p + x) < 48 → s.q + (s.p + y) < 48 → (x ≡ y → ⊥) → children_within (c_inj_children (numbered s) x y) ≡ true
unfolding children_within facts_within
c_inj_within s x y hx hy n =
    rw (
      minus_number (s.q + (s.p + x)) hx (negsuc 0),
      columns_difference (s.q + (s.p + x)) (s.q + (s.p + y)) hx hy (λ q. n (omega arith)),
      within_single (pos 1) (s.q + (s.p + x)) (pos 1) (omega arith) (omega arith),
      within_difference (s.q + (s.p + x)) (s.q + (s.p + y)),
    )

with_within : (x : ℕ) (ys : List ℕ) (more : List (List Fact)) → children_within (pair_children_with x ys more) ≡ children_within more
unfolding children_within facts_within
with_within x [] more = refl
with_within x (y ∷ ys) more = with_within x ys more

pairs_within : (xs : List ℕ) (more : List (List Fact)) → children_within (pair_children xs more) ≡ children_within more
pairs_within [] more = refl
pairs_within (x ∷ xs) more = with_within x xs (pair_children xs more) ∙ pairs_within xs more

least_power_bound : (d n m k : ℕ) → least_power d n m k ≤ k + d
least_power_bound zero n m k = omega arith
least_power_bound (suc d) n m k = go (leb m (n ^ k)) (least_power_bound d n m (suc k))
  where
    go : (t : Bool) → least_power d n m (suc k) ≤ suc k + d → elim t [ true ↦ k | false ↦ least_power d n m (suc k) ] ≤ k + suc d
    go true h = omega arith
    go false h = omega arith

last_within : (s : Progress) (x m : ℕ) → s.q + x < 48 → m ≤ 16 → children_within (last_child (numbered s) x m) ≡ true
unfolding children_within facts_within
last_within s x m h g = go (dec_lt 1 s.n)
  where
    go : Dec (1 < s.n) → children_within (last_child (numbered s) x m) ≡ true
    go (yes n) =
        let l : least_power m s.n m 0 ≤ 0 + m = least_power_bound m s.n m 0 in
        let a : nat_abs (neg_ℤ (pos (least_power m s.n m 0))) ≡ least_power m s.n m 0 = abs_neg (pos (least_power m s.n m 0)) in
        ap children_within (last_is s x m n h)
        ∙ ap (λ t. (t && true) && true) (within_single (neg_ℤ (pos (least_power m s.n m 0))) (s.q + x) (pos 1) (omega arith) (omega arith))
    go (no n) = ap children_within (last_none s x m (omega arith))

-- ---- by the rule

module _ {b : List ℕ} {s : Progress} {body m : ℕ} {w : List ℤ} {count : ℕ} (h : Ready b s body m w count) (f : fits (given h) ≡ true) where
  of : (cs : List (List Fact)) → given h ≡ some cs → children_within cs ≡ true
      → children_within (or_none (given h)) ≡ true
  of cs e t = ap (λ (o : Option (List (List Fact))). children_within (or_none o)) e ∙ t

  l_valid_small : l_valid ≡ rule b body → children_within (or_none (given h)) ≡ true
  l_valid_small e =
      let few = h.posed.stands.few_strings in
      let fewer = h.posed.stands.few_integers in
      let l : u16 b (body + 4) < s.p = (l_valid_variable h e).1 in
      of _ (l_valid_child h e) (l_valid_within s (u16 b (body + 4)) (omega arith))

  c_valid_small : c_valid ≡ rule b body → children_within (or_none (given h)) ≡ true
  c_valid_small e =
      let few = h.posed.stands.few_strings in
      let fewer = h.posed.stands.few_integers in
      let l : u16 b (body + 4) < s.p = (c_valid_variable h e).1 in
      of _ (c_valid_child h e) (c_valid_within s (u16 b (body + 4)) (omega arith) (omega arith) h.posed.stands.few_characters)

  c_inj_small : c_inj ≡ rule b body → children_within (or_none (given h)) ≡ true
  c_inj_small e =
      let few = h.posed.stands.few_strings in
      let fewer = h.posed.stands.few_integers in
      let l : u16 b (body + 4) < s.p = (c_inj_operands h e).1 in
      let r : u16 b (body + 6) < s.p = (c_inj_operands h e).2 in
      of _ (c_inj_child h f e) (c_inj_within s (u16 b (body + 4)) (u16 b (body + 6)) (omega arith) (omega arith) (c_inj_differ h f e))

  card_small : card ≡ rule b body → children_within (or_none (given h)) ≡ true
  card_small e =
      let o = card_operands h e in
      let two : 2 ≤ (m - 4) / 2 = o.0 in
      let most : (m - 4) / 2 ≤ 16 = o.1 in
      let few = h.posed.stands.few_strings in
      let fewer = h.posed.stands.few_integers in
      let l : u16 b (body + 4) < s.p = below_first b s.p (body + 4) ((m - 4) / 2) (omega arith) o.3 in
      of _ (card_child h f e) (pairs_within (u16s b (body + 4) ((m - 4) / 2)) (last_child (numbered s) (u16 b (body + 4)) ((m - 4) / 2))
      ∙ last_within s (u16 b (body + 4)) ((m - 4) / 2) (omega arith) most)

  module _ (r : Rule) (n : rule_named r ≡ rule b body) where
    -- L-Valid, C-Valid, C-Inj and Card
    pub others_within : OneOf (7 ∷ 9 ∷ 10 ∷ 11 ∷ []) (tag_of the_type r) → children_within (or_none (given h)) ≡ true
    others_within o =
        in_arm (λ (r : Rule). rule_named r ≡ rule b body → children_within (or_none (given h)) ≡ true) (7 ∷ 9 ∷ 10 ∷ 11 ∷ []) r
        (l_valid_small, (c_valid_small, (c_inj_small, (card_small, tt)))) o n

    -- Branch and Apart
    pub two_children : (r ≡ Branch) ⊎ (r ≡ Apart) → (c : List Fact) × (d : List Fact) × (given h ≡ some (c ∷ d ∷ []))
    two_children (inl e) = (_, _, branch_child h (sym (ap rule_named e) ∙ n))
    two_children (inr e) = (_, _, apart_child h f (sym (ap rule_named e) ∙ n))
