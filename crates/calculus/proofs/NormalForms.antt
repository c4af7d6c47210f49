-- Normal forms: an assignment meets a constraint exactly when it meets its normal form.
use Prim.Native.Nat.{ℕ, zero, suc, ◌*◌, ◌≤◌}
use native.Mathlib.Nat.{zero-lt-suc}
use native.Mathlib.Omega.{arith}
use mathlib.Core.Path.{◌≡◌, refl, sym, ◌∙◌, ap, ap₂, subst}
use mathlib.Core.Logic.{◌⊎◌, inl, inr}
use mathlib.Core.Bool.{Bool, true, false, cond, true≢false, false≢true}
use mathlib.Core.List.{List, [], ◌∷◌, map}
use lib.Dec.{leb}
use lib.IntN.{ℤ, pos, negsuc, neg_ℤ, nat_abs, ◌*ℤ◌, zero-*ℤ, *ℤ-zero}
use lib.Signed.{◌≤ℤ◌, non_neg}
use Rattle.integers.specs.Division.{floor_div}
use Rattle.integers.proofs.Ring.{v, ◌⊗◌, ⊝, ring, up_le, le_by, le_of}
use Rattle.integers.proofs.Laws.{*ℤ_mono, abs_*, floor_multiple}
use Rattle.lists.specs.Lists.{All}
use Rattle.lists.proofs.Tests.{→true, true→, equal_tests}
use Rattle.calculus.specs.Logic.{Iff}
use Rattle.calculus.specs.LinearForms.{scale, is_zero, floor_div_all}
use Rattle.calculus.specs.Facts.{Question, Relation, ge, eq, ne, Holds, Fact, same, not_same, is_literal, arithmetic}
use Rattle.calculus.specs.Meaning.{Assignment, columns, value, Meets}
use Rattle.calculus.specs.Extended.{Constraint, basic, extended, MeetsConstraint}
use Rattle.calculus.specs.NormalForms.{divisor_of, Divides, divided_by, reduced, first_nonzero, leading, with_positive_lead, PositiveLead, turned, lower_first, normal, normal_constraint}
use Rattle.calculus.proofs.LinearForms.{dot_scale, is_zero→, →is_zero}
use Rattle.calculus.proofs.Relations.{nonneg→}
use Rattle.calculus.proofs.Divisors.{divisor_greatest}

-- ---- integers that are 0

only_zero : (z : ℤ) → nat_abs z ≡ 0 → z ≡ pos 0
only_zero (pos a) g = ap pos g
only_zero (negsuc a) g = absurd (omega arith)

-- under a factor that is not 0
factor_zero : (k z : ℤ) → 1 ≤ nat_abs k → Iff (z ≡ pos 0) (k *ℤ z ≡ pos 0)
factor_zero k z h = (λ e. ap (λ x. k *ℤ x) e ∙ *ℤ-zero k, λ e. only_zero z (go (nat_abs k) (nat_abs z) h (sym (abs_* k z) ∙ ap nat_abs e)))
  where
    go : (m n : ℕ) → 1 ≤ m → m * n ≡ 0 → n ≡ 0
    go zero n h e = absurd (omega arith)
    go (suc m) n h e = omega arith

-- ---- a form that is divided

-- an integer whose size d divides is d times its quotient
quotient_times : (z : ℤ) (d : ℕ) → Divides (suc d) (nat_abs z) → pos (suc d) *ℤ floor_div z (suc d) ≡ z
quotient_times z d (k, e) = go z e
  where
    at : (w : ℤ) → (z : ℤ) → z ≡ pos (suc d) *ℤ w → pos (suc d) *ℤ floor_div z (suc d) ≡ z
    at w z f = ap (λ x. pos (suc d) *ℤ floor_div x (suc d)) f ∙ ap (λ x. pos (suc d) *ℤ x) (floor_multiple w (suc d) (zero-lt-suc d)) ∙ sym f

    go : (z : ℤ) → nat_abs z ≡ k * suc d → pos (suc d) *ℤ floor_div z (suc d) ≡ z
    go (pos a) f = at (pos k) (pos a) (ring (v (pos a)) (v (pos (suc d)) ⊗ v (pos k)) (omega arith))
    go (negsuc a) f = at (neg_ℤ (pos k)) (negsuc a) (ring (v (negsuc a)) (v (pos (suc d)) ⊗ ⊝ (v (pos k))) (omega arith))

quotients_times : (e : List ℤ) (d : ℕ) → All (Divides (suc d)) (map nat_abs e) → scale (pos (suc d)) (floor_div_all e (suc d)) ≡ e
quotients_times [] d h = refl
quotients_times (z ∷ e) d (h, hs) = ap₂ ◌∷◌ (quotient_times z d h) (quotients_times e d hs)

-- 0 divides 0 alone, so that a form all of whose numbers it divides is 0 times itself
zero_times : (e : List ℤ) → All (Divides 0) (map nat_abs e) → scale (pos 0) e ≡ e
zero_times [] h = refl
zero_times (z ∷ e) ((k, f), hs) = ap₂ ◌∷◌ (zero-*ℤ z ∙ sym (only_zero z (omega arith))) (zero_times e hs)

pub reduced_exact : (e : List ℤ) → scale (pos (divisor_of e)) (reduced e) ≡ e
unfolding reduced
reduced_exact e = go (divisor_of e) (divisor_greatest e).divides
  where
    go : (d : ℕ) → All (Divides d) (map nat_abs e) → scale (pos d) (divided_by d e) ≡ e
    go zero h = zero_times e h
    go (suc d) h = quotients_times e d h

pub reduced_undivided : (e : List ℤ) → divisor_of e ≡ 0 → reduced e ≡ e
unfolding reduced
reduced_undivided e h = ap (λ d. divided_by d e) h

-- ---- the leading number

-- by whether the next one is 0
abbrev chosen : Bool → ℤ → ℤ → ℤ
chosen t later k = elim t as (λ _. ℤ) [ true ↦ later | false ↦ k ]

-- it is 0 where all are
first_zero : (c : ℤ) (ks : List ℤ) → first_nonzero c ks ≡ pos 0 → (c ≡ pos 0) × All (λ z. z ≡ pos 0) ks
unfolding first_nonzero
first_zero c [] e = (e, tt)
first_zero c (k ∷ ks) e = go (is_zero k) refl e (first_zero c ks)
  where
    go : (t : Bool) → is_zero k ≡ t → chosen t (first_nonzero c ks) k ≡ pos 0 → (first_nonzero c ks ≡ pos 0 → (c ≡ pos 0) × All (λ z. z ≡ pos 0) ks)
        → (c ≡ pos 0) × All (λ z. z ≡ pos 0) (k ∷ ks)
    go true h e later = let (f, g) = later e in (f, (is_zero→ k (true→ h), g))
    go false h e later = absurd (false≢true (sym h ∙ →true (is_zero k) (→is_zero e)))

leading_zero : (e : List ℤ) → leading e ≡ pos 0 → All (λ z. z ≡ pos 0) e
leading_zero [] h = tt
leading_zero (c ∷ ks) h = first_zero c ks h

zero_negated : (z : ℤ) → is_zero (negsuc 0 *ℤ z) ≡ is_zero z
zero_negated z =
    let (to, from) = factor_zero (negsuc 0) z (omega arith) in
    equal_tests (is_zero (negsuc 0 *ℤ z)) (is_zero z) (λ t. →is_zero (from (is_zero→ (negsuc 0 *ℤ z) t))) (λ t. →is_zero (to (is_zero→ z t)))

first_negated : (c : ℤ) (ks : List ℤ) → first_nonzero (negsuc 0 *ℤ c) (scale (negsuc 0) ks) ≡ negsuc 0 *ℤ first_nonzero c ks
unfolding first_nonzero
first_negated c [] = refl
first_negated c (k ∷ ks) =
    ap₂ (λ t later. chosen t later (negsuc 0 *ℤ k)) (zero_negated k) (first_negated c ks) ∙ go (is_zero k)
  where
    go : (t : Bool) → chosen t (negsuc 0 *ℤ first_nonzero c ks) (negsuc 0 *ℤ k) ≡ negsuc 0 *ℤ chosen t (first_nonzero c ks) k
    go true = refl
    go false = refl

leading_negated : (e : List ℤ) → leading (scale (negsuc 0) e) ≡ negsuc 0 *ℤ leading e
leading_negated [] = sym (*ℤ-zero (negsuc 0))
leading_negated (c ∷ ks) = first_negated c ks

pub lead_positive : (e : List ℤ) → PositiveLead e
unfolding with_positive_lead
lead_positive e = record { either = go (non_neg (leading e)); not_negative = lead (non_neg (leading e)) refl; zero_alone = alone (non_neg (leading e)) }
  where
    go : (t : Bool) → (cond t e (scale (negsuc 0) e) ≡ e) ⊎ (cond t e (scale (negsuc 0) e) ≡ scale (negsuc 0) e)
    go true = inl refl
    go false = inr refl

    negative : (z : ℤ) → non_neg z ≡ false → pos 0 ≤ℤ (negsuc 0 *ℤ z)
    negative (pos n) f = absurd (true≢false f)
    negative (negsuc n) f = le_by (v (pos 0)) (v (negsuc 0) ⊗ v (negsuc n)) (omega arith)

    lead : (t : Bool) → non_neg (leading e) ≡ t → pos 0 ≤ℤ leading (cond t e (scale (negsuc 0) e))
    lead true f = nonneg→ (leading e) (true→ f)
    lead false f = subst (λ z. pos 0 ≤ℤ z) (sym (leading_negated e)) (negative (leading e) f)

    alone : (t : Bool) → leading (cond t e (scale (negsuc 0) e)) ≡ pos 0 → All (λ z. z ≡ pos 0) e
    alone true f = leading_zero e f
    alone false f = leading_zero e ((factor_zero (negsuc 0) (leading e) (omega arith)).1 (sym (leading_negated e) ∙ f))

-- ---- relations under a positive factor

times_nonneg : (d : ℕ) (z : ℤ) → Iff (pos 0 ≤ℤ z) (pos 0 ≤ℤ (pos (suc d) *ℤ z))
times_nonneg d z = (λ h. subst (λ x. x ≤ℤ (pos (suc d) *ℤ z)) (*ℤ-zero (pos (suc d))) (*ℤ_mono (pos (suc d)) (up_le (omega arith)) h), back z)
  where
    back : (z : ℤ) → pos 0 ≤ℤ (pos (suc d) *ℤ z) → pos 0 ≤ℤ z
    back (pos a) h = up_le (omega arith)
    back (negsuc a) h = absurd (omega (arith, le_of (v (pos 0)) (v (pos (suc d)) ⊗ v (negsuc a)) h))

not_both : {A B : Type 0} → Iff A B → Iff (A → ⊥) (B → ⊥)
not_both (to, from) = (λ h b. h (from b), λ h a. h (to a))

holds_times : (r : Relation) (d : ℕ) (z : ℤ) → Iff (Holds r z) (Holds r (pos (suc d) *ℤ z))
holds_times ge d z = times_nonneg d z
holds_times eq d z = factor_zero (pos (suc d)) z (omega arith)
holds_times ne d z = not_both (factor_zero (pos (suc d)) z (omega arith))

-- ---- an assignment meets a fact exactly when it meets its normal form

module _ (a : Assignment) where
  scaled : (k : ℤ) (e : List ℤ) → value a (scale k e) ≡ k *ℤ value a e
  scaled k e = dot_scale k e (pos 1 ∷ columns a)

  reduced_held : (r : Relation) (e : List ℤ) → Iff (Holds r (value a e)) (Holds r (value a (reduced e)))
  unfolding reduced
  reduced_held r e = go (divisor_of e) (divisor_greatest e).divides
    where
      go : (d : ℕ) → All (Divides d) (map nat_abs e) → Iff (Holds r (value a e)) (Holds r (value a (divided_by d e)))
      go zero h = (λ x. x, λ x. x)
      go (suc d) h =
          let f : value a e ≡ pos (suc d) *ℤ value a (floor_div_all e (suc d)) =
          sym (ap (value a) (quotients_times e d h)) ∙ scaled (pos (suc d)) (floor_div_all e (suc d)) in
          let (to, from) = holds_times r d (value a (floor_div_all e (suc d))) in
          (λ x. from (subst (Holds r) f x), λ x. subst (Holds r) (sym f) (to x))

  lead_zero : (e : List ℤ) → Iff (value a e ≡ pos 0) (value a (with_positive_lead e) ≡ pos 0)
  unfolding with_positive_lead
  lead_zero e = go (non_neg (leading e))
    where
      go : (t : Bool) → Iff (value a e ≡ pos 0) (value a (cond t e (scale (negsuc 0) e)) ≡ pos 0)
      go true = (λ x. x, λ x. x)
      go false =
          let (to, from) = factor_zero (negsuc 0) (value a e) (omega arith) in
          (λ x. scaled (negsuc 0) e ∙ to x, λ x. from (sym (scaled (negsuc 0) e) ∙ x))

  turned_held : (r : Relation) (e : List ℤ) → Iff (Holds r (value a e)) (Holds r (value a (turned r e)))
  turned_held ge e = (λ x. x, λ x. x)
  turned_held eq e = lead_zero e
  turned_held ne e = not_both (lead_zero e)

  -- a statement about two variables that does not depend on their order
  lower_met : (u : Question) (f : ℕ → ℕ → Fact) (x y : ℕ) → Iff (Meets u a (f x y)) (Meets u a (f y x)) → Iff (Meets u a (f x y)) (Meets u a (lower_first f x y))
  lower_met u f x y h = go (leb x y)
    where
      go : (t : Bool) → Iff (Meets u a (f x y)) (Meets u a (cond t (f x y) (f y x)))
      go true = (λ m. m, λ m. m)
      go false = h

  normal_met : (u : Question) (f : Fact) → Iff (Meets u a f) (Meets u a (normal f))
  unfolding normal
  normal_met u (same x y) = lower_met u same x y (sym, sym)
  normal_met u (not_same x y) = lower_met u not_same x y (not_both (sym, sym))
  normal_met u (is_literal x l) = (λ m. m, λ m. m)
  normal_met u (arithmetic r e) =
      let (to, from) = reduced_held r e in
      let (on, back) = turned_held r (reduced e) in
      (λ m. on (to m), λ m. from (back m))

  pub normal_constraint_met : (u : Question) (c : Constraint) → Iff (MeetsConstraint u a c) (MeetsConstraint u a (normal_constraint c))
  normal_constraint_met u (basic f) = normal_met u f
  normal_constraint_met u (extended e) = (λ m. m, λ m. m)
