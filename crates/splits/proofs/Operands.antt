-- The operands of a step of each rule, and its children.
use Prim.Native.Nat.{ℕ, ◌+◌, ◌*◌, ◌-◌, ◌/◌, ◌≤◌, ◌<◌}
use native.Mathlib.Omega.{arith}
use mathlib.Core.Path.{◌≡◌, refl, sym, ◌∙◌, ap, ap₂}
use mathlib.Core.Bool.{true, not, ◌&&◌}
use mathlib.Core.Option.{some}
use mathlib.Core.List.{List, [], ◌∷◌}
use borrow.Author.Tests.{eqb-false, not-true}
use lib.ListN.{length, drop}
use lib.Dec.{eqb}
use lib.IntN.{ℤ}
use Rattle.lists.proofs.Tests.{and_both}
use Rattle.calculus.specs.Limits.{column_limit, number_limit}
use Rattle.calculus.specs.Facts.{Branch}
use Rattle.calculus.specs.Children.{branch_children, apart_children, l_valid_children, c_valid_children, c_inj_children, pair_children}
use Rattle.calculus.specs.Rules.{guard, distinct, neighbours, same_length, last_child, card_children, children}
use Rattle.format.specs.Fields.{u16, u16s, i32, pairs_at, within}
use Rattle.format.specs.Question.{rising, form_range, form_of}
use Rattle.format.specs.Checking.{fits}
use Rattle.format.specs.StepForms.{Rule, branch, apart, l_valid, c_valid, c_inj, card, rule, operands_in_range, step_of}
use Rattle.format.proofs.Decoded.{below→}
use Rattle.constraints.proofs.Ranges.{form_rises}
use Rattle.question.specs.declared.Progress.{Progress}
use Rattle.question.specs.Posed.{asked, numbered}
use Rattle.rows.specs.Rows.{fact_of, row_at}
use Rattle.rows.specs.Work.{tag_of}
use Rattle.rows.proofs.Tested.{guard_fits, guard_given}
use Rattle.steps.specs.Ready.{Ready}
use Rattle.steps.proofs.Bodies.{before, given, long, ranged}
use Rattle.steps.proofs.Offered.{offered_by}
use Rattle.steps.proofs.Variables.{card_operands}
use Rattle.splits.proofs.Neighbours.{card_children_law}
use Rattle.splits.proofs.Forms.{parted_is, parted_fits}

-- ---- Card asks for the numbers of a question alone

neighbours_same : (b : List ℕ) (s : Progress) (br : Branch) (x : ℕ) (ys : List ℕ) → neighbours (numbered s) br x ys ≡ neighbours (asked b s) br x ys
unfolding asked
neighbours_same b s br x [] = refl
neighbours_same b s br x (y ∷ ys) = ap (λ t. same_length (numbered s) br x y && t) (neighbours_same b s br y ys)

pub card_same : (b : List ℕ) (s : Progress) (br : Branch) (xs : List ℕ) → card_children (numbered s) br xs ≡ card_children (asked b s) br xs
unfolding asked
card_same b s br [] = refl
card_same b s br (x ∷ []) = refl
card_same b s br (x ∷ y ∷ xs) =
    ap (λ t. guard (distinct (x ∷ y ∷ xs) && t) (pair_children (x ∷ y ∷ xs) (last_child (numbered s) x (length (x ∷ y ∷ xs)))))
    (neighbours_same b s br x (y ∷ xs))

card_given : (s : Progress) (br : Branch) (b : List ℕ) (at m : ℕ) → 2 ≤ m → fits (card_children (numbered s) br (u16s b at m)) ≡ true
    → card_children (numbered s) br (u16s b at m) ≡ some (pair_children (u16s b at m) (last_child (numbered s) (u16 b at) m))
card_given s br b at m h e =
    let q = card_children_law (numbered s) br b at m h in
    q
    ∙ guard_given (distinct (u16s b at m) && neighbours (numbered s) br (u16 b at) (u16s b (at + 2) (m - 1)))
    (pair_children (u16s b at m) (last_child (numbered s) (u16 b at) m)) (sym (ap fits q) ∙ e)

module _ {b : List ℕ} {s : Progress} {body m : ℕ} {w : List ℤ} {count : ℕ} (h : Ready b s body m w count) where
  -- Branch: the form
  pub branch_operands : branch ≡ rule b body
      → (8 ≤ m) × (body + 4 + 4 + 6 * ((m - 8) / 6) ≤ length b) × (form_range b column_limit (body + 4) ((m - 8) / 6) ≡ true)
  unfolding operands_in_range
  branch_operands e =
      let l : 8 ≤ m = long h branch e in
      let whole = h.formed.within in
      let few = h.posed.stands.few_strings in
      let fewer = h.posed.stands.few_integers in
      let form = ranged h branch e in (
        l,
        omega arith,
        ap₂ ◌&&◌ (and_both (within number_limit (i32 b (body + 4))) (rising (s.q + (s.p + s.p)) 0 (pairs_at b (body + 4 + 4) ((m - 8) / 6))) form).0
            (form_rises b (s.q + (s.p + s.p)) (body + 4) ((m - 8) / 6) (omega arith) form),
      )

  -- Apart: the fact
  pub apart_operands : apart ≡ rule b body → body + 4 + 2 ≤ length b
  apart_operands e =
      let l : 6 ≤ m = long h apart e in
      let whole = h.formed.within in omega arith

  -- C-Inj: the variables
  pub c_inj_operands : c_inj ≡ rule b body → (body + 6 + 2 ≤ length b) × (u16 b (body + 4) < s.p) × (u16 b (body + 6) < s.p)
  unfolding operands_in_range
  c_inj_operands e =
      let l : 8 ≤ m = long h c_inj e in
      let whole = h.formed.within in
      let (x, (y, _)) = below→ s.p (u16 b (body + 4) ∷ u16 b (body + 6) ∷ []) (ranged h c_inj e) in
      (omega arith, x, y)

  -- ---- the children of each rule, where the step fits

  by : (r : Rule) → r ≡ rule b body → given h ≡ children (asked b s) (before h) (step_of b r body m)
  by r e = offered_by b (asked b s) (before h) body m r e

  pub branch_child : branch ≡ rule b body → given h ≡ some (branch_children (form_of b (body + 4) ((m - 8) / 6)))
  unfolding step_of asked
  branch_child e = by branch e

  pub l_valid_child : l_valid ≡ rule b body → given h ≡ some (l_valid_children (numbered s) (u16 b (body + 4)))
  unfolding step_of asked
  l_valid_child e = by l_valid e

  pub c_valid_child : c_valid ≡ rule b body → given h ≡ some (c_valid_children (numbered s) (u16 b (body + 4)))
  unfolding step_of asked
  c_valid_child e = by c_valid e

  module _ (f : fits (given h) ≡ true) where
    fits_by_rule : (r : Rule) → r ≡ rule b body → fits (children (asked b s) (before h) (step_of b r body m)) ≡ true
    fits_by_rule r e = sym (ap fits (by r e)) ∙ f

    pub apart_fact : apart ≡ rule b body → (u16 b (body + 4) < count) × (tag_of (fact_of (row_at w (u16 b (body + 4)))) ≡ 2)
    unfolding step_of asked
    apart_fact e = parted_fits w count (u16 b (body + 4)) (fits_by_rule apart e)

    pub apart_child : apart ≡ rule b body → given h ≡ some (apart_children (drop 1 (row_at w (u16 b (body + 4)))))
    unfolding step_of asked
    apart_child e = by apart e ∙ parted_is w count (u16 b (body + 4)) (apart_fact e).0 (apart_fact e).1

    differ : c_inj ≡ rule b body
        → fits (guard (not (eqb (u16 b (body + 4)) (u16 b (body + 6)))) (c_inj_children (numbered s) (u16 b (body + 4)) (u16 b (body + 6)))) ≡ true
    unfolding step_of asked
    differ e = fits_by_rule c_inj e

    pub c_inj_differ : c_inj ≡ rule b body → u16 b (body + 4) ≡ u16 b (body + 6) → ⊥
    c_inj_differ e =
        eqb-false (u16 b (body + 4)) (u16 b (body + 6)) (not-true _
        (sym (guard_fits (not (eqb (u16 b (body + 4)) (u16 b (body + 6)))) (c_inj_children (numbered s) (u16 b (body + 4)) (u16 b (body + 6)))) ∙ differ e))

    pub c_inj_child : c_inj ≡ rule b body → given h ≡ some (c_inj_children (numbered s) (u16 b (body + 4)) (u16 b (body + 6)))
    unfolding step_of asked
    c_inj_child e =
        by c_inj e
        ∙ guard_given (not (eqb (u16 b (body + 4)) (u16 b (body + 6)))) (c_inj_children (numbered s) (u16 b (body + 4)) (u16 b (body + 6))) (differ e)

    pub card_child : card ≡ rule b body
        → given h ≡ some (pair_children (u16s b (body + 4) ((m - 4) / 2)) (last_child (numbered s) (u16 b (body + 4)) ((m - 4) / 2)))
    unfolding step_of asked
    card_child e =
        let q = by card e ∙ sym (card_same b s (before h) (u16s b (body + 4) ((m - 4) / 2))) in
        q ∙ card_given s (before h) b (body + 4) ((m - 4) / 2) (card_operands h e).0 (sym (ap fits q) ∙ f)
