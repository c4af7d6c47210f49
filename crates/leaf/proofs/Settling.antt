-- The test of a leaf is the test by values: a child's facts hold just if lengths and codes fit.
use Prim.Native.Nat.{ℕ, zero, suc, ◌<◌, ◌≤◌}
use mathlib.Core.Path.{◌≡◌, refl, sym, ◌∙◌, ap, ap₂, subst}
use mathlib.Core.Bool.{Bool, true, false, not, ◌&&◌, ◌||◌, and-true, and-false, and_assoc, or-false}
use mathlib.Core.Option.{Option, none, some}
use mathlib.Core.List.{List, [], ◌∷◌, map}
use lib.Dec.{T, eqb→eq, eqb_refl, leb, ltb, eqb, le→leb, leb→le, ltb→lt}
use lib.ListN.{length}
use lib.IntN.{ℤ, pos, negsuc, nat_abs, ◌-ℤ◌}
use lib.Signed.{lt_z, le_z, non_neg, ◌≤ℤ◌}
use borrow.Author.Tests.{lt-ltb}
use Rattle.integers.proofs.Laws.{≤ℤ_pos, pos_≤ℤ, →_ℤ_zero, →_ℤ_nonneg, -ℤ_zero→, -ℤ_nonneg→}
use Rattle.lists.specs.Lists.{any, all_below}
use Rattle.lists.proofs.Tests.{→true, true→, and_both, equal_tests}
use Rattle.lists.proofs.Below.{all_below→}
use Rattle.calculus.specs.Limits.{length_limit}
use Rattle.calculus.specs.Alphabet.{code_ranges}
use Rattle.calculus.specs.LinearForms.{eqℤ, is_zero, number, minus, above, value_in}
use Rattle.calculus.specs.Facts.{Question, Branch, Fact, arithmetic, ge, eq, Function, len, code, literal, value_of, apply}
use Rattle.calculus.specs.Chains.{var_node, lit_node}
use Rattle.calculus.specs.Classes.{label, labels, same_class, lowest_literal, literal_in, class_literal, conflict}
use Rattle.calculus.specs.Children.{one, s_prop_child, literal_child, l_valid_children, code_child, c_valid_children, c_inj_children}
use Rattle.calculus.specs.Rules.{guard, then}
use Rattle.calculus.specs.Steps.{LIntro, LValid, CCollapse, CValid}
use Rattle.calculus.specs.Model.{model_value}
use Rattle.calculus.specs.SettledTest.{held, held_some, by_children, settled_step, settled_card, settled}
use Rattle.calculus.proofs.LinearForms.{eqℤ→, →eqℤ, is_zero→, →is_zero}
use Rattle.calculus.proofs.Relations.{nonneg→, →nonneg}
use Rattle.calculus.proofs.Leaf.{above_in, number_in, difference_in, low_in, high_in}
use Rattle.format.specs.Checking.{short_lengths}
use Rattle.leaf.specs.Leaf.{ShortSizes}
use Rattle.leaf.specs.Values.{text_fits, literal_fits, l_valid_fits, code_in, code_by, code_fits, var_fits, pair_by, pair_fits}

-- ---- tests of equal meaning

zero_minus : (x y : ℤ) → is_zero (x -ℤ y) ≡ eqℤ x y
zero_minus x y = equal_tests (is_zero (x -ℤ y)) (eqℤ x y)
    (λ t. →eqℤ (let e : x ≡ y = -ℤ_zero→ (is_zero→ (x -ℤ y) t) in e))
    (λ t. →is_zero (→_ℤ_zero (eqℤ→ x y t)))

-- c ≤ k for numbers
leb_minus : (k c : ℕ) → non_neg (pos k -ℤ pos c) ≡ leb c k
leb_minus k c = equal_tests (non_neg (pos k -ℤ pos c)) (leb c k)
    (λ t. le→leb c k (≤ℤ_pos (-ℤ_nonneg→ (nonneg→ (pos k -ℤ pos c) t))))
    (λ t. →nonneg (pos k -ℤ pos c) (→_ℤ_nonneg (pos_≤ℤ (leb→le c k t))))

positive_minus : (z : ℤ) → non_neg (z -ℤ pos 1) ≡ lt_z (pos 0) z
positive_minus (pos k) = leb_minus k 1 ∙ equal_tests (leb 1 k) (ltb 0 k) (λ t. true→ (lt-ltb 0 k (leb→le 1 k t))) (λ t. le→leb 1 k (ltb→lt 0 k t))
positive_minus (negsuc k) = refl

negative_minus : (c k : ℕ) → non_neg (negsuc c -ℤ pos k) ≡ false
negative_minus c k = equal_tests (non_neg (negsuc c -ℤ pos k)) false
    (λ t. absurd (let l : pos k ≤ℤ negsuc c = -ℤ_nonneg→ (nonneg→ (negsuc c -ℤ pos k) t) in l.le))
    (λ t. absurd t)

-- ---- the children of each rule

module _ (u : Question) (ls : List ℕ) (m : List ℤ) where
  abbrev M : Function → ℕ → ℤ
  M f x = model_value u m f x

  one_holds : (f : Fact) {t : Bool} → held ls m f ≡ t → held_some ls m (one f) ≡ t
  one_holds f e = or-false (held ls m f && true) ∙ and-true (held ls m f) ∙ e

  number_is : (f : Function) (x : ℕ) (k : ℤ) → held ls m (arithmetic eq (minus (apply u f x) (number k))) ≡ eqℤ (M f x) k
  number_is f x k = ap is_zero (number_in u m f x k) ∙ zero_minus (M f x) k

  equal_is : (f : Function) (x y : ℕ) → held ls m (arithmetic eq (minus (apply u f x) (apply u f y))) ≡ eqℤ (M f x) (M f y)
  equal_is f x y = ap is_zero (difference_in u m f x y) ∙ zero_minus (M f x) (M f y)

  -- L-Intro and C-Collapse
  abbrev by_literal : Function → Option ℕ → ℤ → Bool
  by_literal f none z = true
  by_literal f (some l) z = eqℤ z (value_of f (literal u l))

  literal_step : (f : Function) (x : ℕ) (o : Option ℕ)
      → by_children ls m (then o (λ l. some (literal_child u f x l))) ≡ by_literal f o (M f x)
  literal_step f x none = refl
  literal_step f x (some l) = one_holds (arithmetic eq (minus (apply u f x) (number (value_of f (literal u l))))) (number_is f x (value_of f (literal u l)))

  both_values : (o : Option ℕ) (z c : ℤ) → (by_literal len o z && by_literal code o c) ≡ literal_fits u o z c
  unfolding literal_fits text_fits
  both_values none z c = refl
  both_values (some l) z c = refl

  -- L-Valid
  length_step : (x : ℕ) → held_some ls m (l_valid_children u x) ≡ l_valid_fits ls x (M len x)
  unfolding l_valid_fits
  length_step x =
      ap₂ ◌||◌ (and-true (same_class ls (var_node x) (lit_node 0)))
      (one_holds (arithmetic ge (above (apply u len x))) (ap non_neg (above_in u m x) ∙ positive_minus (M len x)))

  -- C-Valid
  length_one : (x : ℕ) → is_zero (value_in m (above (apply u len x))) ≡ eqℤ (M len x) (pos 1)
  length_one x = ap is_zero (above_in u m x) ∙ zero_minus (M len x) (pos 1)

  within_range : (r : ℕ × ℕ) (c : ℤ) → (non_neg (c -ℤ pos r.0) && (non_neg (pos r.1 -ℤ c) && true)) ≡ code_in c r
  within_range r (pos c) = ap₂ ◌&&◌ (leb_minus c r.0) (and-true (non_neg (pos r.1 -ℤ pos c)) ∙ leb_minus r.1 c)
  within_range r (negsuc c) = ap (λ (t : Bool). t && (non_neg (pos r.1 -ℤ negsuc c) && true)) (negative_minus c r.0)

  range_cases : (s t a : Bool) → ((s && t) || (s && a)) ≡ (s && (t || a))
  range_cases true t a = refl
  range_cases false t a = refl

  -- the children of the ranges
  in_ranges : (x : ℕ) (rs : List (ℕ × ℕ)) → held_some ls m (map (code_child u x) rs) ≡ (eqℤ (M len x) (pos 1) && any (code_in (M code x)) rs)
  in_ranges x [] = sym (and-false (eqℤ (M len x) (pos 1)))
  in_ranges x (r ∷ rs) =
      let held-range = ap₂ (λ (s t : Bool). s && (t && true)) (ap non_neg (low_in u m x r.0)) (ap non_neg (high_in u m x r.1)) in
      ap₂ ◌||◌ (ap₂ ◌&&◌ (length_one x) (held-range ∙ within_range r (M code x))) (in_ranges x rs)
      ∙ range_cases (eqℤ (M len x) (pos 1)) (code_in (M code x) r) (any (code_in (M code x)) rs)

  code_cases : (n : ℕ) (t : Bool) (c : ℤ) → ((not t && (eqℤ c (negsuc 0) && true)) || (t && any (code_in c) (code_ranges n))) ≡ code_by t n c
  unfolding code_by
  code_cases n true c = refl
  code_cases n false c = or-false (eqℤ c (negsuc 0) && true) ∙ and-true (eqℤ c (negsuc 0))

  code_step : (x : ℕ) → held_some ls m (c_valid_children u x) ≡ code_fits u.n (M len x) (M code x)
  code_step x =
      ap₂ ◌||◌ (ap₂ (λ (s t : Bool). not s && (t && true)) (length_one x) (number_is code x (negsuc 0))) (in_ranges x (code_ranges u.n))
      ∙ code_cases u.n (eqℤ (M len x) (pos 1)) (M code x)

  -- S-Prop and C-Inj
  abbrev by_class : Bool → Bool → Bool
  by_class true t = t
  by_class false t = true

  same_step : (f : Function) (x y : ℕ) (g : Bool) → by_children ls m (guard g (s_prop_child u f x y)) ≡ by_class g (eqℤ (M f x) (M f y))
  same_step f x y true = one_holds (arithmetic eq (minus (apply u f x) (apply u f y))) (equal_is f x y)
  same_step f x y false = refl

  inj_step : (x y : ℕ) (g : Bool)
      → by_children ls m (guard g (c_inj_children u x y))
      ≡ by_class g (eqℤ (M code x) (negsuc 0) || (not (eqℤ (M code x) (M code y)) || same_class ls (var_node x) (var_node y)))
  inj_step x y true =
      ap₂ ◌||◌ (and-true _ ∙ number_is code x (negsuc 0))
      (ap₂ ◌||◌ (and-true (not (held ls m (arithmetic eq (minus (apply u code x) (apply u code y))))) ∙ ap not (equal_is code x y))
      (or-false (same_class ls (var_node x) (var_node y) && true) ∙ and-true (same_class ls (var_node x) (var_node y))))
  inj_step x y false = refl

  -- e: the variables are one; s: the classes are one
  pair_cases : (e s : Bool) (z w c d : ℤ) → (T e → (s ≡ true) × (z ≡ w) × (c ≡ d))
      → (by_class (not e && s) (eqℤ z w) && by_class (not e && s) (eqℤ c d) && by_class (not e) (eqℤ c (negsuc 0) || (not (eqℤ c d) || s))) ≡ pair_by s z w c d
  unfolding pair_by
  pair_cases true s z w c d h =
      let (p, q, r) = h tt in
      sym (ap (λ (s : Bool). pair_by s z w c d) p ∙ ap₂ ◌&&◌ (→true (eqℤ z w) (→eqℤ q)) (→true (eqℤ c d) (→eqℤ r)))
  pair_cases false true z w c d h = by_third (eqℤ z w && eqℤ c d) (eqℤ c (negsuc 0)) (not (eqℤ c d))
    where
      by_third : (a b e : Bool) → (a && (b || (e || true))) ≡ a
      by_third a true e = and-true a
      by_third a false true = and-true a
      by_third a false false = and-true a
  pair_cases false false z w c d h = ap (λ (t : Bool). eqℤ c (negsuc 0) || t) (or-false (not (eqℤ c d)))

  pair_step : (x y : ℕ)
      → (by_children ls m (guard (not (eqb x y) && same_class ls (var_node x) (var_node y)) (s_prop_child u len x y))
      && by_children ls m (guard (not (eqb x y) && same_class ls (var_node x) (var_node y)) (s_prop_child u code x y))
      && by_children ls m (guard (not (eqb x y)) (c_inj_children u x y))) ≡ pair_fits u ls m x y
  unfolding pair_fits
  pair_step x y =
      let one_class = same_class ls (var_node x) (var_node y) in
      let g = not (eqb x y) && one_class in
      ap₂ ◌&&◌ (ap₂ ◌&&◌ (same_step len x y g) (same_step code x y g)) (inj_step x y (not (eqb x y)))
      ∙ pair_cases (eqb x y) one_class (M len x) (M len y) (M code x) (M code y) itself
    where
      itself : T (eqb x y) → (same_class ls (var_node x) (var_node y) ≡ true) × (M len x ≡ M len y) × (M code x ≡ M code y)
      itself t =
          let e : x ≡ y = eqb→eq x y t in (
            →true (same_class ls (var_node x) (var_node y)) (subst (λ (i : ℕ). T (same_class ls (var_node x) (var_node i))) e (eqb_refl (label ls (var_node x)))),
            ap (M len) e,
            ap (M code) e,
          )

-- ---- the whole test

-- the rules for a variable, itself and with every variable
abbrev pub by_values : Question → List ℕ → List ℤ → ℕ → Bool
by_values u ls m x = var_fits u ls m x && all_below u.p (pair_fits u ls m x)

swap : (a b c : Bool) → (a && b && c) ≡ (a && c && b)
swap true true c = sym (and-true c)
swap true false true = refl
swap true false false = refl
swap false b c = refl

every_ap : (k : ℕ) (s t : ℕ → Bool) → ((x : ℕ) → s x ≡ t x) → all_below k s ≡ all_below k t
every_ap zero s t h = refl
every_ap (suc k) s t h = ap₂ ◌&&◌ (h k) (every_ap k s t h)

module _ (u : Question) (b : Branch) (m : List ℤ) where
  var_step : (x : ℕ)
      → (settled_step u b m (LIntro x)
      && settled_step u b m (LValid x)
      && settled_step u b m (CCollapse x)
      && settled_step u b m (CValid x)
      && settled_card u (labels b) m x)
      ≡ var_fits u (labels b) m x
  unfolding var_fits
  var_step x =
      let a = settled_step u b m (LIntro x) in
      let c = settled_step u b m (CCollapse x) in
      let l = l_valid_fits (labels b) x (model_value u m len x) in
      let k = code_fits u.n (model_value u m len x) (model_value u m code x) in
      let f = literal_fits u (class_literal u b x) (model_value u m len x) (model_value u m code x) in
      let literal : (a && c) ≡ f =
      ap₂ ◌&&◌ (literal_step u (labels b) m len x (class_literal u b x)) (literal_step u (labels b) m code x (class_literal u b x))
      ∙ both_values u (labels b) m (class_literal u b x) (model_value u m len x) (model_value u m code x) in
      ap (λ (t : Bool). t && settled_card u (labels b) m x)
      (ap₂ ◌&&◌ (ap (λ (t : Bool). a && t && c) (length_step u (labels b) m x) ∙ swap a l c ∙ ap (λ (t : Bool). t && l) literal) (code_step u (labels b) m x))
      ∙ and_assoc (f && l) k (settled_card u (labels b) m x)
      ∙ and_assoc f l (k && settled_card u (labels b) m x)

  pub settled_is : settled u b m ≡ (not (conflict u b) && all_below u.p (by_values u (labels b) m))
  settled_is = ap (λ (t : Bool). not (conflict u b) && t) (every_ap u.p _ (by_values u (labels b) m) (λ x.
      ap₂ ◌&&◌ (var_step x) (every_ap u.p _ (pair_fits u (labels b) m x) (λ y. pair_step u (labels b) m x y))))

  -- a settled leaf has no negative length: L-Valid, and L-Intro where the class holds the empty string
  pub settled_positive : settled u b m ≡ true → (x : ℕ) → x < u.p → non_neg (model_value u m len x) ≡ true
  unfolding var_fits l_valid_fits literal_fits text_fits
  settled_positive e x h =
      let fits : T (by_values u (labels b) m x) = all_below→ u.p (by_values u (labels b) m) (true→ (and_both (not (conflict u b)) _ (sym settled_is ∙ e)).1) x h in
      let (literal, rest) = and_both (literal_fits u (literal_in u (labels b) x) z c) _ (and_both (var_fits u (labels b) m x) _ (→true _ fits)).0 in
      by_class_law (same_class (labels b) (var_node x) (lit_node 0)) refl literal (and_both (l_valid_fits (labels b) x z) _ rest).0
    where
      z : ℤ
      z = model_value u m len x

      c : ℤ
      c = model_value u m code x

      above_zero : (z : ℤ) → lt_z (pos 0) z ≡ true → non_neg z ≡ true
      above_zero (pos k) e = refl
      above_zero (negsuc k) e = e

      a_length : (k : ℕ) (z : ℤ) → T (eqℤ z (pos k)) → non_neg z ≡ true
      a_length k z t = ap non_neg (eqℤ→ z (pos k) t)

      by_class_law : (t : Bool) → same_class (labels b) (var_node x) (lit_node 0) ≡ t → literal_fits u (literal_in u (labels b) x) z c ≡ true
          → l_valid_fits (labels b) x z ≡ true → non_neg z ≡ true
      by_class_law true s f g =
          let later = lowest_literal (labels b) x 1 (length u.literals) in
          let empty : literal_fits u (some 0) z c ≡ true = sym (ap (λ (t : Bool). literal_fits u (elim t [ true ↦ some 0 | false ↦ later ]) z c) s) ∙ f in
          a_length (length (literal u 0)) z (true→ (and_both (eqℤ z (pos (length (literal u 0)))) _ empty).0)
      by_class_law false s f g = above_zero z (sym (ap (λ (t : Bool). t || lt_z (pos 0) z) s) ∙ g)

-- ---- lengths

-- 14 does not apply to a settled leaf: every length is one, and at most 64
pub settled_short : (u : Question) (b : Branch) (m : List ℤ) → settled u b m ≡ true → short_lengths u m ≡ true → ShortSizes u m
settled_short u b m e short x h =
    signed_size (model_value u m len x) (settled_positive u b m e x h) (all_below→ u.p (λ y. le_z (model_value u m len y) (pos length_limit)) (true→ short) x h)
  where
    signed_size : (z : ℤ) → non_neg z ≡ true → T (le_z z (pos length_limit)) → nat_abs z ≤ length_limit
    signed_size (pos k) p t = leb→le k length_limit t
    signed_size (negsuc k) p t = absurd (true→ p)
