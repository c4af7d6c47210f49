-- What the rules that close and those with one conclusion add, from the answers that the code gets.
use Prim.Native.Nat.{ℕ, zero, suc, ◌+◌, ◌<◌, ◌≤◌}
use mathlib.Core.Path.{◌≡◌, refl, sym, ◌∙◌, ap, ap₂}
use mathlib.Core.Bool.{Bool, true, false, not, ◌&&◌}
use mathlib.Core.Option.{Option, none, some}
use mathlib.Core.List.{List}
use lib.ListN.{drop, get_elem?}
use lib.IntN.{ℤ, pos, neg_ℤ}
use borrow.Author.Tests.{eq-eqb, ne_eqb}
use Rattle.lists.proofs.Options.{some_injective, some_none}
use Rattle.calculus.specs.LinearForms.{column, number, minus}
use Rattle.calculus.specs.Facts.{Question, Fact, Branch, arithmetic, Relation, eq, Function, literal, code_of, value_of}
use Rattle.calculus.specs.Chains.{var_node}
use Rattle.calculus.specs.Classes.{labels, same_class, lowest_literal, class_literal}
use Rattle.calculus.specs.Children.{one, s_prop_child, literal_child}
use Rattle.calculus.specs.Steps.{Sum, SProp, Join}
use Rattle.calculus.specs.Rules.{guard, then, sum_of, divided, sum_relation, join_of, children, literal_children}
use Rattle.format.specs.Fields.{u32s}
use Rattle.format.specs.StepForms.{function_of}
use Rattle.format.specs.Checking.{fits}
use Rattle.format.proofs.Fields.{length_u32s}
use Rattle.rows.specs.Rows.{fact_of, row_at, branch_of}
use Rattle.rows.specs.Work.{tag_of, single, difference}
use Rattle.rows.proofs.Branches.{branch_at, branch_beyond}
use Rattle.rows.proofs.Tags.{relation_low}
use Rattle.rows.proofs.Forms.{minus_number, columns_difference}
use Rattle.rows.proofs.Tested.{joined_fits, none_fits}
use Rattle.sums.specs.Sums.{fact_in, sum_fact}
use Rattle.sums.proofs.Totals.{sum_children}
use Rattle.question.specs.declared.Progress.{Progress}
use Rattle.question.specs.Posed.{asked}
use Rattle.question.specs.Columns.{column_at}
use Rattle.question.proofs.Columns.{applied, columns_differ}
use Rattle.question.proofs.Posed.{literal_in_law}

-- ---- Sum

-- by whether a row was summed
module _ (u : Question) (b : Branch) (d : ℕ) (ts : List (ℕ × ℤ)) (t : Bool) (row : List ℤ) (e : fact_in t row ≡ sum_fact b d ts) where
  summed : (s : Bool) → t ≡ s → children u b (Sum d ts) ≡ then (guard s (fact_of row)) (λ f. some (one f))
  unfolding fact_in
  summed s h =
      sum_children u b d ts ∙ ap (λ (o : Option Fact). then o (λ f. some (one f))) (sym e ∙ ap (λ (r : Bool). guard r (fact_of row)) h)

  pub sum_none : t ≡ false → children u b (Sum d ts) ≡ none
  sum_none h = summed false h

  pub sum_adds : t ≡ true → children u b (Sum d ts) ≡ some (one (fact_of row))
  sum_adds h = summed true h

-- its fact is arithmetic
module _ (b : Branch) (d : ℕ) (ts : List (ℕ × ℤ)) (t : Bool) (row : List ℤ) (e : fact_in t row ≡ sum_fact b d ts) where
  divided_tag : (r : Relation) (o : Option (List ℤ)) → some (fact_of row) ≡ then o (λ z. some (arithmetic r z)) → tag_of (fact_of row) ≤ 2
  divided_tag r none h = absurd (some_none h)
  divided_tag r (some z) h = rw (some_injective h) (relation_low r z)

  summed_tag : (o : Option (List ℤ))
      → some (fact_of row) ≡ then o (λ r. then (divided d r) (λ z. some (arithmetic (sum_relation b d ts r) z)))
      → tag_of (fact_of row) ≤ 2
  summed_tag none h = absurd (some_none h)
  summed_tag (some r) h = divided_tag (sum_relation b d ts r) (divided d r) h

  pub sum_tag : t ≡ true → tag_of (fact_of row) ≤ 2
  unfolding fact_in sum_fact
  sum_tag h = summed_tag (sum_of b ts) (sym (ap (λ (r : Bool). guard r (fact_of row)) h) ∙ e)

-- ---- S-Prop

module _ (u : Question) (b : Branch) (f : Function) (x y : ℕ) where
  pub s_prop_same : x ≡ y → children u b (SProp f x y) ≡ none
  s_prop_same e = ap (λ (t : Bool). guard (not t && same_class (labels b) (var_node x) (var_node y)) (s_prop_child u f x y)) (eq-eqb x y e)

  by_class_law : (t : Bool) → (x ≡ y → ⊥) → same_class (labels b) (var_node x) (var_node y) ≡ t → children u b (SProp f x y) ≡ guard t (s_prop_child u f x y)
  by_class_law t n e = ap₂ (λ (s r : Bool). guard (not s && r) (s_prop_child u f x y)) (ne_eqb x y n) e

  pub s_prop_other_class : (x ≡ y → ⊥) → same_class (labels b) (var_node x) (var_node y) ≡ false → children u b (SProp f x y) ≡ none
  s_prop_other_class n e = by_class_law false n e

  s_prop_fits : (x ≡ y → ⊥) → same_class (labels b) (var_node x) (var_node y) ≡ true → children u b (SProp f x y) ≡ some (s_prop_child u f x y)
  s_prop_fits n e = by_class_law true n e

-- the fact by its columns
pub s_prop_adds : (u : Question) (b : Branch) (f x y i j : ℕ)
    → (x ≡ y → ⊥)
    → same_class (labels b) (var_node x) (var_node y) ≡ true
    → i ≡ column_at u.p u.q f x
    → j ≡ column_at u.p u.q f y
    → i < 48
    → j < 48
    → children u b (SProp (function_of f) x y) ≡ some (one (arithmetic eq (difference i j)))
s_prop_adds u b f x y i j n c ei ej hi hj =
    s_prop_fits u b (function_of f) x y n c
    ∙ ap (λ (e : List ℤ). some (one (arithmetic eq e)))
    (ap₂ minus (applied u f x ∙ ap column (sym ei)) (applied u f y ∙ ap column (sym ej))
    ∙ columns_difference i j hi hj (λ e. columns_differ u.p u.q f x y n (sym ei ∙ e ∙ ej)))

-- ---- L-Intro and C-Collapse

-- function 0 of a text is its length, 1 its code
pub value_length : (b : List ℕ) (f at count : ℕ) → f ≡ 0 → pos count ≡ value_of (function_of f) (u32s b at count)
value_length b f at count e = rw e (ap pos (sym (length_u32s b at count)))

pub value_code : (f : ℕ) (t : List ℕ) → (f ≡ 0 → ⊥) → code_of t ≡ value_of (function_of f) t
value_code zero t n = absurd (n refl)
value_code (suc f) t n = refl

-- the lowest literal of the class, among those of the question
module _ (b : List ℕ) (s : Progress) (br : Branch) (ls : List ℕ) (x : ℕ) (el : ls ≡ labels br) where
  class_is : lowest_literal ls x 0 (s.literals + 1) ≡ class_literal (asked b s) br x
  class_is = ap (λ (l : List ℕ). lowest_literal l x 0 (s.literals + 1)) el ∙ sym (literal_in_law b s (labels br) x)

  pub literal_none : (f : Function) → lowest_literal ls x 0 (s.literals + 1) ≡ none → literal_children (asked b s) br f x ≡ none
  literal_none f e = ap (λ (o : Option ℕ). then o (λ l. some (literal_child (asked b s) f x l))) (sym class_is ∙ e)

  literal_some : (f : Function) (l : ℕ)
      → lowest_literal ls x 0 (s.literals + 1) ≡ some l
      → literal_children (asked b s) br f x ≡ some (literal_child (asked b s) f x l)
  literal_some f l e = ap (λ (o : Option ℕ). then o (λ l. some (literal_child (asked b s) f x l))) (sym class_is ∙ e)

  -- the fact by its column and the negative of the literal's value
  pub literal_adds : (f l i : ℕ) (z : ℤ)
      → lowest_literal ls x 0 (s.literals + 1) ≡ some l
      → i ≡ column_at s.p s.q f x
      → i < 48
      → z ≡ neg_ℤ (value_of (function_of f) (literal (asked b s) l))
      → literal_children (asked b s) br (function_of f) x ≡ some (one (arithmetic eq (single z i (pos 1))))
  unfolding asked
  literal_adds f l i z e ei hi ez =
      literal_some (function_of f) l e
      ∙ ap (λ (a : List ℤ). some (one (arithmetic eq a)))
      (ap (λ (a : List ℤ). minus a (number (value_of (function_of f) (literal (asked b s) l)))) (applied (asked b s) f x ∙ ap column (sym ei))
      ∙ minus_number i hi (value_of (function_of f) (literal (asked b s) l))
      ∙ ap (λ (n : ℤ). single n i (pos 1)) (sym ez))

-- ---- Join

module _ (u : Question) (w : List ℤ) (count j k : ℕ) where
  pub join_first_beyond : count ≤ j → children u (branch_of w count) (Join j k) ≡ none
  join_first_beyond h = ap (λ (o : Option Fact). then o (λ f. then (get_elem? (branch_of w count) k) (λ g. join_of f g))) (branch_beyond w count j h)

  both : j < count
      → (o : Option Fact)
      → get_elem? (branch_of w count) k ≡ o
      → children u (branch_of w count) (Join j k) ≡ then o (λ g. join_of (fact_of (row_at w j)) g)
  both hj o e = ap₂ (λ (p q : Option Fact). then p (λ f. then q (λ g. join_of f g))) (branch_at w count j hj) e

  pub join_second_beyond : j < count → count ≤ k → children u (branch_of w count) (Join j k) ≡ none
  join_second_beyond hj h = both hj none (branch_beyond w count k h)

  module _ (hj : j < count) (hk : k < count) where
    joined : children u (branch_of w count) (Join j k) ≡ join_of (fact_of (row_at w j)) (fact_of (row_at w k))
    joined = both hj (some (fact_of (row_at w k))) (branch_at w count k hk)

    pub join_unfit : fits (join_of (fact_of (row_at w j)) (fact_of (row_at w k))) ≡ false → children u (branch_of w count) (Join j k) ≡ none
    join_unfit e = joined ∙ none_fits _ e

    pub join_adds : fits (join_of (fact_of (row_at w j)) (fact_of (row_at w k))) ≡ true
        → children u (branch_of w count) (Join j k) ≡ some (one (arithmetic eq (drop 1 (row_at w j))))
    join_adds e = joined ∙ joined_fits (row_at w j) (row_at w k) e
