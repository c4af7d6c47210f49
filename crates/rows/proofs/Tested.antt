-- Tests on facts and rows: what each kind of fact passes, and the loops over a row's numbers.
use Prim.Native.Nat.{ℕ, zero, suc, ◌+◌, ◌≤◌, ◌<◌}
use native.Mathlib.Omega.{arith}
use mathlib.Core.Path.{◌≡◌, refl, sym, ◌∙◌, ap, ap₂, subst}
use mathlib.Core.Bool.{Bool, true, false, not, ◌&&◌}
use mathlib.Core.Option.{Option, none, some}
use mathlib.Core.List.{List, [], ◌∷◌}
use borrow.Author.Tests.{eq-eqb, ne_eqb, leb-true}
use lib.ListN.{length, get_or, drop}
use lib.Dec.{T, leb, eqb}
use lib.IntN.{ℤ, pos, negsuc}
use mir.Syntax.{w64}
use mir.Val.{SFits, to_z, of_z}
use mir.Facts.{to_z-of_z}
use Rattle.lists.proofs.Options.{some_none, some_injective}
use Rattle.lists.proofs.Tests.{true→, and_both}
use Rattle.lists.proofs.Lists.{eq_list_step, eq_list_done}
use Rattle.calculus.specs.Limits.{number_limit}
use Rattle.calculus.specs.LinearForms.{scale, is_zero, eqℤ, eq_integers, all_zero}
use Rattle.calculus.specs.Facts.{Fact, same, not_same, is_literal, arithmetic, Relation, ge, eq, ne, holds}
use Rattle.calculus.specs.Rules.{guard, then, is_false, join_form, join_of, states_zero}
use Rattle.calculus.specs.Children.{one, join_child}
use Rattle.calculus.proofs.Tests.{→guard}
use Rattle.calculus.proofs.LinearForms.{eq_integers→}
use Rattle.format.specs.Fields.{all_within}
use Rattle.format.specs.Question.{relation_of}
use Rattle.format.specs.Checking.{fits, fact_within, keeps_fact}
use Rattle.rows.specs.Rows.{index, tagged, fact_of}
use Rattle.rows.specs.Work.{tag_of}
use Rattle.rows.proofs.Tags.{row_relation}

-- ---- numbers by their bits

pub same_bits : (x y : ℤ) → SFits w64 x → SFits w64 y → of_z w64 x ≡ of_z w64 y → x ≡ y
same_bits x y f g e = sym (to_z-of_z f) ∙ ap (to_z w64) e ∙ to_z-of_z g

pub zero_test : (z : ℤ) → SFits w64 z → eqb (of_z w64 z) 0 ≡ is_zero z
zero_test (pos zero) f = refl
zero_test (pos (suc n)) f = ne_eqb (suc n) 0 (omega arith)
zero_test (negsuc n) f = ne_eqb (of_z w64 (negsuc n)) 0 (omega (arith, f.sfits))

pub eqℤ_yes : (x y : ℤ) → x ≡ y → eqℤ x y ≡ true
eqℤ_yes x y e = subst (λ z. eqℤ x z ≡ true) e (itself x)
  where
    itself : (z : ℤ) → eqℤ z z ≡ true
    itself (pos n) = eq-eqb n n refl
    itself (negsuc n) = eq-eqb n n refl

pub eqℤ_no : (x y : ℤ) → (x ≡ y → ⊥) → eqℤ x y ≡ false
eqℤ_no (pos m) (pos n) h = ne_eqb m n (λ e. h (ap pos e))
eqℤ_no (pos m) (negsuc n) h = refl
eqℤ_no (negsuc m) (pos n) h = refl
eqℤ_no (negsuc m) (negsuc n) h = ne_eqb m n (λ e. h (ap negsuc e))

-- ---- string facts pass or fail every test of arithmetic

pub string_within : (f : Fact) → 2 < tag_of f → fact_within f ≡ true
unfolding tag_of
string_within (same x y) h = refl
string_within (not_same x y) h = refl
string_within (is_literal x l) h = refl
string_within (arithmetic ge e) h = absurd (omega arith)
string_within (arithmetic eq e) h = absurd (omega arith)
string_within (arithmetic ne e) h = absurd (omega arith)

pub string_falsum : (f : Fact) → 2 < tag_of f → is_false f ≡ false
unfolding tag_of
string_falsum (same x y) h = refl
string_falsum (not_same x y) h = refl
string_falsum (is_literal x l) h = refl
string_falsum (arithmetic ge e) h = absurd (omega arith)
string_falsum (arithmetic eq e) h = absurd (omega arith)
string_falsum (arithmetic ne e) h = absurd (omega arith)

pub string_keeps : (m : List ℤ) (f : Fact) → 2 < tag_of f → keeps_fact m f ≡ true
unfolding tag_of
string_keeps m (same x y) h = refl
string_keeps m (not_same x y) h = refl
string_keeps m (is_literal x l) h = refl
string_keeps m (arithmetic ge e) h = absurd (omega arith)
string_keeps m (arithmetic eq e) h = absurd (omega arith)
string_keeps m (arithmetic ne e) h = absurd (omega arith)

-- ---- A-Conf and Join

pub falsum_row : (r : Relation) (row : List ℤ)
    → length row ≡ 50
    → is_false (arithmetic r (drop 1 row)) ≡ (all_zero (drop 2 row) && not (holds r (get_or row 1 (pos 0))))
falsum_row r [] h = absurd (omega arith)
falsum_row r (x ∷ []) h = absurd (omega arith)
falsum_row r (x ∷ c ∷ cs) h = refl

-- the facts that Join takes have the two lowest tags
pub joinable_test : (f : Fact) → leb (tag_of f) 1 ≡ fits (join_form f)
unfolding tag_of
joinable_test (same x y) = refl
joinable_test (not_same x y) = refl
joinable_test (is_literal x l) = refl
joinable_test (arithmetic ge e) = refl
joinable_test (arithmetic eq e) = refl
joinable_test (arithmetic ne e) = refl

-- a row of such a fact
module _ (row : List ℤ) (h : fits (join_form (fact_of row)) ≡ true) where
  low : tag_of (fact_of row) ≤ 1
  low = leb-true (tag_of (fact_of row)) 1 (joinable_test (fact_of row) ∙ h)

  stated : fact_of row ≡ arithmetic (relation_of (tag_of (fact_of row))) (drop 1 row)
  stated = row_relation row (tag_of (fact_of row)) refl (omega (arith, low))

  joinable_form : join_form (fact_of row) ≡ some (drop 1 row)
  joinable_form = ap join_form stated ∙ taken (tag_of (fact_of row)) low
    where
      taken : (k : ℕ) → k ≤ 1 → join_form (arithmetic (relation_of k) (drop 1 row)) ≡ some (drop 1 row)
      taken zero g = refl
      taken (suc zero) g = refl
      taken (suc (suc k)) g = absurd (omega arith)

  pub joinable_within : fact_within (fact_of row) ≡ all_within number_limit (drop 1 row)
  joinable_within = ap fact_within stated

-- ---- two rows, from place j on

pub eq_integers_fails : (a b : List ℤ) (j : ℕ)
    → j < length a
    → j < length b
    → eqℤ (get_or a j (pos 0)) (get_or b j (pos 0)) ≡ false
    → eq_integers (drop j a) (drop j b) ≡ false
eq_integers_fails a b j h k e = eq_list_step eqℤ a b j (pos 0) h k ∙ rw e

pub eq_integers_on : (a b : List ℤ) (j : ℕ) → j < length a → j < length b → eqℤ (get_or a j (pos 0)) (get_or b j (pos 0)) ≡ true
    → eq_integers (drop (j + 1) a) (drop (j + 1) b) ≡ eq_integers (drop j a) (drop j b)
eq_integers_on a b j h k e = sym (eq_list_step eqℤ a b j (pos 0) h k ∙ rw e)

-- lists that differ at a place are not the same
pub eq_integers_differ : (a b : List ℤ) (j : ℕ) → (get_or a j (pos 0) ≡ get_or b j (pos 0) → ⊥) → eq_integers a b ≡ false
eq_integers_differ a b j n = go (eq_integers a b) refl
  where
    go : (t : Bool) → eq_integers a b ≡ t → eq_integers a b ≡ false
    go false e = e
    go true e = absurd (n (ap (λ (l : List ℤ). get_or l j (pos 0)) (eq_integers→ a b (subst T (sym e) tt))))

pub eq_integers_done : (a b : List ℤ) (j : ℕ) → length a ≤ j → length b ≤ j → eq_integers (drop j a) (drop j b) ≡ true
eq_integers_done a b j h k = eq_list_done eqℤ a b j h k

pub scale_behind : (k : ℤ) (a : List ℤ) → drop 1 (scale k a) ≡ scale k (drop 1 a)
scale_behind k [] = refl
scale_behind k (x ∷ a) = refl

-- ---- Card: a fact states that a form is 0

states_row : (e : List ℤ) (z : ℤ) (a b : ℕ) (g : List ℤ) → states_zero e (tagged z a b g) ≡ (eqℤ (pos 1) z && eq_integers e g)
unfolding tagged
states_row e (pos zero) a b g = refl
states_row e (pos (suc zero)) a b g = refl
states_row e (pos (suc (suc zero))) a b g = refl
states_row e (pos (suc (suc (suc zero)))) a b g = refl
states_row e (pos (suc (suc (suc (suc zero))))) a b g = refl
states_row e (pos (suc (suc (suc (suc (suc zero)))))) a b g = refl
states_row e (pos (suc (suc (suc (suc (suc (suc k))))))) a b g =
    sym (ap (λ t. t && eq_integers e g) (ne_eqb 1 (suc (suc (suc (suc (suc (suc k)))))) (omega arith)))
states_row e (negsuc k) a b g = refl

-- its row is the tag 1 and the form
pub states_by_row : (e row : List ℤ) → length row ≡ 50 → states_zero e (fact_of row) ≡ eq_integers (pos 1 ∷ e) row
unfolding fact_of
states_by_row e [] h = absurd (omega arith)
states_by_row e (z ∷ g) h = states_row e z (index (get_or (z ∷ g) 1 (pos 0))) (index (get_or (z ∷ g) 2 (pos 0))) g

equation_tag : (z : ℤ) (a b : ℕ) (g e : List ℤ) → tagged z a b g ≡ arithmetic eq e → (z ≡ pos 1) × (g ≡ e)
unfolding tagged
equation_tag (pos zero) a b g e h = absurd (let n : ◌≡◌ {A = ℕ} 0 1 = cc in omega arith)
equation_tag (pos (suc zero)) a b g e h = (refl, cc)
equation_tag (pos (suc (suc zero))) a b g e h = absurd (let n : ◌≡◌ {A = ℕ} 0 1 = cc in omega arith)
equation_tag (pos (suc (suc (suc zero)))) a b g e h = absurd (let n : ◌≡◌ {A = ℕ} 0 1 = cc in omega arith)
equation_tag (pos (suc (suc (suc (suc zero))))) a b g e h = absurd (let n : ◌≡◌ {A = ℕ} 0 1 = cc in omega arith)
equation_tag (pos (suc (suc (suc (suc (suc zero)))))) a b g e h = absurd (let n : ◌≡◌ {A = ℕ} 0 1 = cc in omega arith)
equation_tag (pos (suc (suc (suc (suc (suc (suc k))))))) a b g e h = absurd (let n : ◌≡◌ {A = ℕ} 0 1 = cc in omega arith)
equation_tag (negsuc k) a b g e h = absurd (let n : ◌≡◌ {A = ℕ} 0 1 = cc in omega arith)

-- the row of an equation
pub equation_row : (row e : List ℤ) → length row ≡ 50 → fact_of row ≡ arithmetic eq e → row ≡ pos 1 ∷ e
unfolding fact_of
equation_row [] e l h = absurd (omega arith)
equation_row (z ∷ g) e l h = let (p, q) = equation_tag z (index (get_or (z ∷ g) 1 (pos 0))) (index (get_or (z ∷ g) 2 (pos 0))) g e h in ap₂ ◌∷◌ p q

-- ---- what fits

pub guard_fits : {A : Type 0} (t : Bool) (a : A) → fits (guard t a) ≡ t
guard_fits true a = refl
guard_fits false a = refl

pub none_fits : {A : Type 0} (o : Option A) → fits o ≡ false → o ≡ none
none_fits none e = refl
none_fits (some a) e = absurd (subst T e tt)

pub guard_given : {A : Type 0} (t : Bool) (a : A) → fits (guard t a) ≡ true → guard t a ≡ some a
guard_given t a e = →guard t (true→ (sym (guard_fits t a) ∙ e)) refl

pub no_fit : {A : Type 0} (o : Option A) → fits o ≡ true → o ≡ none → ⊥
no_fit none e h = subst T (sym e) tt
no_fit (some a) e h = some_none h

-- ---- Join, of two rows

module _ (row other : List ℤ) where
  pub joined_tests : fits (join_of (fact_of row) (fact_of other))
      ≡ (fits (join_form (fact_of row)) && (fits (join_form (fact_of other)) && eq_integers (scale (negsuc 0) (drop 1 row)) (drop 1 other)))
  joined_tests = go (join_form (fact_of row)) (join_form (fact_of other)) (joinable_form row) (joinable_form other)
    where
      go : (o p : Option (List ℤ))
          → (fits o ≡ true → o ≡ some (drop 1 row))
          → (fits p ≡ true → p ≡ some (drop 1 other))
          → fits (then o (λ e. then p (λ h. guard (eq_integers (scale (negsuc 0) e) h) (join_child e))))
          ≡ (fits o && (fits p && eq_integers (scale (negsuc 0) (drop 1 row)) (drop 1 other)))
      go none p f g = refl
      go (some e) none f g = refl
      go (some e) (some h) f g =
          guard_fits (eq_integers (scale (negsuc 0) e) h) (join_child e)
          ∙ ap₂ (λ (a b : List ℤ). eq_integers (scale (negsuc 0) a) b) (some_injective (f refl)) (some_injective (g refl))

  module _ (h : fits (join_of (fact_of row) (fact_of other)) ≡ true) where
    tests : (fits (join_form (fact_of row)) ≡ true)
        × ((fits (join_form (fact_of other)) && eq_integers (scale (negsuc 0) (drop 1 row)) (drop 1 other)) ≡ true)
    tests = and_both _ _ (sym joined_tests ∙ h)

    pub joined_first : fits (join_form (fact_of row)) ≡ true
    joined_first = tests.0

    -- its fact is the first as an equation
    pub joined_fits : join_of (fact_of row) (fact_of other) ≡ some (one (arithmetic eq (drop 1 row)))
    joined_fits =
        let (second, negative) = and_both (fits (join_form (fact_of other))) (eq_integers (scale (negsuc 0) (drop 1 row)) (drop 1 other)) tests.1 in
        ap₂ (λ (o p : Option (List ℤ)). then o (λ e. then p (λ h. guard (eq_integers (scale (negsuc 0) e) h) (join_child e))))
        (joinable_form row joined_first) (joinable_form other second)
        ∙ ap (λ (t : Bool). guard t (one (arithmetic eq (drop 1 row)))) negative
