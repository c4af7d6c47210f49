-- Facts of two questions, by their rows: when they are alike, and which literals they name; and how a loop counts.
use Prim.Native.Nat.{ℕ, zero, suc, ◌+◌, ◌-◌, ◌*◌, ◌≤◌, ◌<◌}
use native.Mathlib.Nat.{add-zero}
use native.Mathlib.Omega.{arith}
use mathlib.Core.Path.{◌≡◌, refl, sym, ◌∙◌, ap, ap₂, subst}
use mathlib.Core.Bool.{Bool, true, false, cond, ◌&&◌, and-true}
use mathlib.Core.Logic.{◌⊎◌, inl, inr}
use mathlib.Core.Option.{some}
use mathlib.Core.List.{List, [], ◌∷◌, ◌++◌, map, map-append}
use borrow.Author.Tests.{eq-eqb, ne_eqb}
use lib.ListN.{length, get_or, drop, get_elem?}
use lib.Dec.{leb, eqb}
use lib.IntN.{ℤ, pos}
use Rattle.lists.proofs.Lists.{element_map, element_get_d, get_d_map, get_d_values_along}
use Rattle.calculus.specs.Limits.{fact_limit}
use Rattle.calculus.specs.LinearForms.{eq_integers}
use Rattle.calculus.specs.Facts.{Question, Relation, ge, eq, ne, Fact, same, not_same, is_literal, arithmetic, literal, fact_tag}
use Rattle.calculus.specs.Strings.{eq_string}
use Rattle.calculus.specs.Extended.{basic}
use Rattle.calculus.specs.NormalForms.{normal, alike}
use Rattle.format.specs.Question.{string_fact, relation_of, fact_fault, body_fact}
use Rattle.format.specs.Records.{size, kind, next}
use Rattle.format.specs.Places.{skip, fact_at, facts_at, constraints_from}
use Rattle.format.proofs.Places.{length_facts}
use Rattle.format.proofs.RecordFaults.{FactBody, on_strings, on_columns, fact_formed}
use Rattle.question.proofs.Posed.{literals_to}
use Rattle.question.specs.declared.Progress.{Progress}
use Rattle.question.specs.Posed.{asked}
use Rattle.rows.specs.Rows.{row_length, index, fact_of, row_at, branch_of}
use Rattle.rows.specs.Work.{tag_of}
use Rattle.rows.proofs.Branches.{branch_more, branch_at}
use Rattle.rows.proofs.Tags.{row_relation, row_string}
use Rattle.sameness.specs.Ready.{literal_named, LiteralIn, Ready, facts_in}

-- ---- two facts by their tags

-- with different tags
pub alike_apart : (u v : Question) (f g : Fact) → (tag_of f ≡ tag_of g → ⊥) → alike u v (basic f) (basic g) ≡ false
unfolding alike tag_of
alike_apart u v f g h = rw (ne_eqb (fact_tag f) (fact_tag g) h)

-- with one tag, k
module _ (u v : Question) (row other : List ℤ) (k : ℕ) (e : k ≡ tag_of (fact_of row)) (g : k ≡ tag_of (fact_of other)) where
  abbrev test : Fact → Fact → Bool
  test f h = alike u v (basic f) (basic h)

  -- arithmetic facts, by their forms
  pub alike_forms : k ≤ 2 → test (fact_of row) (fact_of other) ≡ eq_integers (drop 1 row) (drop 1 other)
  unfolding alike
  alike_forms low = ap₂ test (row_relation row k e low) (row_relation other k g low) ∙ by (relation_of k)
    where
      by : (r : Relation) → test (arithmetic r (drop 1 row)) (arithmetic r (drop 1 other)) ≡ eq_integers (drop 1 row) (drop 1 other)
      by ge = refl
      by eq = refl
      by ne = refl

  -- string facts, by their operands
  abbrev x : ℕ
  x = index (get_or row 1 (pos 0))

  abbrev x' : ℕ
  x' = index (get_or other 1 (pos 0))

  abbrev y : ℕ
  y = index (get_or row 2 (pos 0))

  abbrev y' : ℕ
  y' = index (get_or other 2 (pos 0))

  strings_are : 2 < k → test (fact_of row) (fact_of other) ≡ test (string_fact (k - 3) x y) (string_fact (k - 3) x' y')
  strings_are high = ap₂ test (row_string row k e high) (row_string other k g high)

  -- of different first operands
  pub alike_firsts : 2 < k → (x ≡ x' → ⊥) → test (fact_of row) (fact_of other) ≡ false
  unfolding alike
  alike_firsts high n = strings_are high ∙ by (k - 3)
    where
      by : (r : ℕ) → test (string_fact r x y) (string_fact r x' y') ≡ false
      by zero = rw (ne_eqb x x' n)
      by (suc zero) = rw (ne_eqb x x' n)
      by (suc (suc r)) = rw (ne_eqb x x' n)

  -- of the same first operand: literals by their characters
  pub alike_literals : k ≡ 5 → x ≡ x' → test (fact_of row) (fact_of other) ≡ eq_string (literal u y) (literal v y')
  unfolding alike
  alike_literals five q =
      strings_are (omega arith)
      ∙ ap (λ (r : ℕ). test (string_fact (r - 3) x y) (string_fact (r - 3) x' y')) five
      ∙ rw (eq-eqb x x' q) (and-true (eq_string (literal u y) (literal v y')))

  -- variables by their numbers
  pub alike_variables : 2 < k → (k ≡ 5 → ⊥) → x ≡ x' → test (fact_of row) (fact_of other) ≡ eqb y y'
  unfolding alike tag_of
  alike_variables high n q = strings_are high ∙ by (k - 3) refl
    where
      by : (r : ℕ) → k - 3 ≡ r → test (string_fact r x y) (string_fact r x' y') ≡ eqb y y'
      by zero h = rw (eq-eqb x x' q) (and-true (eqb y y' && true) ∙ and-true (eqb y y'))
      by (suc zero) h = rw (eq-eqb x x' q) (and-true (eqb y y' && true) ∙ and-true (eqb y y'))
      by (suc (suc r)) h = absurd (n (e ∙ ap tag_of (row_string row k e high) ∙ ap (λ (m : ℕ). tag_of (string_fact m x y)) h))

-- ---- the literal that a fact names

-- the second operand of variable ≈ literal
pub literal_of : (row : List ℤ) (k : ℕ) → k ≡ tag_of (fact_of row) → k ≡ 5 → literal_named (fact_of row) ≡ index (get_or row 2 (pos 0))
literal_of row k e five =
    ap literal_named (row_string row k e (omega arith))
    ∙ ap (λ (r : ℕ). literal_named (string_fact (r - 3) (index (get_or row 1 (pos 0))) (index (get_or row 2 (pos 0))))) five

-- a normal form names the same
either : (t : Bool) (f g : Fact) → literal_named f ≡ 0 → literal_named g ≡ 0 → literal_named (cond t f g) ≡ 0
either true f g e h = e
either false f g e h = h

normal_literal : (f : Fact) → literal_named (normal f) ≡ literal_named f
unfolding normal
normal_literal (same x y) = either (leb x y) (same x y) (same y x) refl refl
normal_literal (not_same x y) = either (leb x y) (not_same x y) (not_same y x) refl refl
normal_literal (is_literal x l) = refl
normal_literal (arithmetic r e) = refl

-- a body without fault names a literal of the question
literal_low : (b : List ℕ) (p l c k at m : ℕ) → fact_fault b p l c k at m ≡ 0 → literal_named (body_fact b k at m) ≤ l
literal_low b p l c k at m h = go (fact_formed b p l c k at m h)
  where
    by : (r x y : ℕ) → r ≤ 2 → (r ≡ 2 → y ≤ l) → literal_named (string_fact r x y) ≤ l
    by zero x y low f = omega arith
    by (suc zero) x y low f = omega arith
    by (suc (suc zero)) x y low f = f refl
    by (suc (suc (suc r))) x y low f = absurd (omega arith)

    go : FactBody b p l c k at m → literal_named (body_fact b k at m) ≤ l
    go (on_strings e s i) = subst (λ (f : Fact). literal_named f ≤ l) (sym i) (by _ _ _ s.relation s.literal)
    go (on_columns e s i) = subst (λ (f : Fact). literal_named f ≤ l) (sym i) (omega arith)

-- a question that was read, with its normal forms in rows
module _ {b : List ℕ} {s : Progress} {w : List ℤ} (h : Ready b s w) where
  abbrev from : ℕ
  from = constraints_from b s.literals

  -- row j has the normal form of constraint j
  row_is : (j : ℕ) → j < s.constraints → fact_of (row_at w j) ≡ normal (fact_at b (skip b j from))
  unfolding asked facts_at skip
  row_is j l =
      let d : Fact = same 0 0 in
      sym (element_get_d (branch_of w s.constraints) j (fact_of (row_at w j)) d (branch_at w s.constraints j l))
      ∙ ap (λ (fs : List Fact). get_or fs j d) h.rows
      ∙ get_d_map normal (facts_at b s.constraints from) j d d (rw (length_facts b s.constraints from) l)
      ∙ ap normal (get_d_values_along (next b) (fact_at b) from s.constraints j d l)

  pub row_there : (j : ℕ) → j < s.constraints → (j < fact_limit) × (row_length * j + row_length ≤ length w)
  row_there j l = let few = h.posed.few_constraints in (omega arith, omega (arith, h.room))

  -- row j as it is lent: it names a literal of the question
  module _ (j : ℕ) (l : j < s.constraints) (row : List ℤ) (e : row ≡ row_at w j) where
    pub literal_named_law : literal_named (fact_of row) ≤ s.literals
    literal_named_law =
        let at : ℕ = skip b j from in
        subst (λ (n : ℕ). n ≤ s.literals) (sym (ap (λ (r : List ℤ). literal_named (fact_of r)) e ∙ ap literal_named (row_is j l) ∙ normal_literal (fact_at b at)))
        (literal_low b s.p s.literals _ (kind b at) (at + 6) (size b at) (h.posed.stands.constraints_stand j l).formed)

    pub row_lent : LiteralIn b (fact_of row)
    row_lent = literals_to h.posed (literal_named (fact_of row)) literal_named_law

-- ---- the facts in the first rows

pub facts_more : (w : List ℤ) (k : ℕ) → facts_in w (k + 1) ≡ facts_in w k ++ (basic (fact_of (row_at w k)) ∷ [])
facts_more w k = ap (map basic) (branch_more w k) ∙ map-append basic (branch_of w k) (fact_of (row_at w k) ∷ [])

pub facts_at_law : (w : List ℤ) (k j : ℕ) → j < k → get_elem? (facts_in w k) j ≡ some (basic (fact_of (row_at w j)))
facts_at_law w k j h = element_map basic (branch_of w k) j (branch_at w k j h)

-- ---- counting

-- at the join after a test: one more is found where it was taken
pub one_more : {A B : Type 0} {r : Bool} {found more : ℕ}
    → (A → r ≡ true)
    → (B → r ≡ false)
    → (A × (more ≡ found + 1)) ⊎ (B × (more ≡ found))
    → more ≡ found + cond r 1 0
one_more {found = found} taken left (inl (a, e)) = e ∙ sym (ap (λ (t : Bool). found + cond t 1 0) (taken a))
one_more {found = found} taken left (inr (b, e)) = e ∙ sym (ap (λ (t : Bool). found + cond t 1 0) (left b) ∙ add-zero found)
