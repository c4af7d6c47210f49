-- The facts that Sum and Join add hold for all values of the columns that meet the facts named.
use Prim.Native.Nat.{ℕ, ◌≤◌}
use native.Mathlib.Omega.{arith}
use mathlib.Core.Path.{◌≡◌, refl, sym, ◌∙◌, ap, ap₂, subst}
use mathlib.Core.Logic.{◌≢◌, inl, inr}
use mathlib.Core.List.{List, [], ◌∷◌, tail}
use lib.IntN.{ℤ, pos, negsuc, neg_ℤ, ◌+ℤ◌, ◌*ℤ◌, *ℤ-zero}
use lib.Signed.{◌≤ℤ◌, ≤ℤ_refl}
use Rattle.integers.specs.Division.{floor_div}
use Rattle.integers.proofs.Laws.{minus_one_*ℤ, pos_≤ℤ, ≤ℤ_antisym, ≤ℤ_trans, +ℤ_mono, *ℤ_mono, *ℤ-+ℤ, neg_nonneg→, tighten, floor_multiple}
use Rattle.lists.specs.Lists.{All}
use Rattle.lists.proofs.Options.{some_injective}
use Rattle.lists.proofs.Lists.{all_at}
use Rattle.calculus.specs.LinearForms.{scale, dot, value_in}
use Rattle.calculus.specs.Facts.{Fact, Branch, Relation, ge, eq, ne, Holds}
use Rattle.calculus.specs.Instances.{entry, HasRelation, Multiplier, Summands, Exact, SumRelation, IsJoin}
use Rattle.calculus.specs.Settled.{MeetsArithmetic}
use Rattle.calculus.proofs.LinearForms.{dot_plus, dot_scale, dot_neg}
use Rattle.calculus.proofs.Entries.{entry_scale, entry_tail, dot_entries, dot_split, summed, entry_summed, Divided}

-- no multiple of a positive number is 0 but that of 0
zero_multiple : (d : ℕ) (z : ℤ) → 1 ≤ d → pos d *ℤ z ≡ pos 0 → z ≡ pos 0
zero_multiple d z h e = sym (floor_multiple z d h) ∙ ap (λ y. floor_div y d) (e ∙ sym (*ℤ-zero (pos d))) ∙ floor_multiple (pos 0) d h

-- ≥ and = are both at least 0
nonneg : (r : Relation) (z : ℤ) → r ≢ ne → Holds r z → pos 0 ≤ℤ z
nonneg ge z n h = h
nonneg eq z n h = subst (λ y. pos 0 ≤ℤ y) (sym h) (≤ℤ_refl (pos 0))
nonneg ne z n h = absurd (n refl)

module _ (v : List ℤ) where
  -- ---- 1 Sum

  summand_met : (r : Relation) (k : ℤ) (e : List ℤ) → Multiplier r k → Holds r (value_in v e) → pos 0 ≤ℤ (k *ℤ value_in v e)
  summand_met ge k e h m = subst (λ z. z ≤ℤ (k *ℤ value_in v e)) (*ℤ-zero k) (*ℤ_mono k (≤ℤ_trans (pos_≤ℤ (omega arith)) h) m)
  summand_met eq k e h m = subst (λ z. pos 0 ≤ℤ z) (sym (ap (λ z. k *ℤ z) m ∙ *ℤ-zero k)) (≤ℤ_refl (pos 0))
  summand_met ne k e h m = absurd h

  summed_value : (t : ℕ × ℤ) (ts : List (ℕ × ℤ)) (e : List ℤ) (es : List (List ℤ))
      → value_in v (summed (t ∷ ts) (e ∷ es)) ≡ (t.1 *ℤ value_in v e) +ℤ value_in v (summed ts es)
  summed_value t ts e es =
      dot_plus (scale t.1 e) (summed ts es) (pos 1 ∷ v) ∙ ap (λ z. z +ℤ value_in v (summed ts es)) (dot_scale t.1 e (pos 1 ∷ v))

  sum_met : (b : Branch) (ts : List (ℕ × ℤ)) (es : List (List ℤ)) → All (MeetsArithmetic v) b → Summands b ts es → pos 0 ≤ℤ value_in v (summed ts es)
  sum_met b [] [] m h = ≤ℤ_refl (pos 0)
  sum_met b [] (e ∷ es) m h = absurd h
  sum_met b (t ∷ ts) [] m h = absurd h
  sum_met b (t ∷ ts) (e ∷ es) m (h, hs) =
      subst (λ z. pos 0 ≤ℤ z) (sym (summed_value t ts e es))
      (+ℤ_mono (summand_met h.relation t.1 e h.multiplier (all_at (MeetsArithmetic v) b t.0 m h.named)) (sum_met b ts es m hs))

  -- a sum of equations is 0
  equations_met : (b : Branch) (ts : List (ℕ × ℤ)) (es : List (List ℤ))
      → All (MeetsArithmetic v) b
      → Summands b ts es
      → All (λ t. HasRelation b eq t.0) ts
      → value_in v (summed ts es) ≡ pos 0
  equations_met b [] [] m h q = refl
  equations_met b [] (e ∷ es) m h q = absurd h
  equations_met b (t ∷ ts) [] m h q = absurd h
  equations_met b (t ∷ ts) (e ∷ es) m (h, hs) ((f, p), q) =
      let same : f ≡ e = cc (some_injective (sym p ∙ h.named)) in
      let zero : value_in v e ≡ pos 0 = ap (value_in v) (sym same) ∙ all_at (MeetsArithmetic v) b t.0 m p in
      summed_value t ts e es ∙ ap₂ ◌+ℤ◌ (ap (λ z. t.1 *ℤ z) zero ∙ *ℤ-zero t.1) (equations_met b ts es m hs q)

  module _ (d : ℕ) (r e : List ℤ) (w : Divided d r e) where
    columns_value : dot (tail r) v ≡ pos d *ℤ dot (tail e) v
    columns_value = dot_entries (tail r) (scale (pos d) (tail e)) v (λ j.
        entry_tail r j ∙ sym (w.columns j) ∙ ap (λ c. pos d *ℤ c) (sym (entry_tail e j)) ∙ sym (entry_scale (pos d) (tail e) j))
        ∙ dot_scale (pos d) (tail e) v

    rounded_met : pos 0 ≤ℤ value_in v r → pos 0 ≤ℤ value_in v e
    rounded_met h = subst (λ z. pos 0 ≤ℤ z) (sym (dot_split e v))
        (tighten d (dot (tail e) v) (entry r 0) (entry e 0) w.floor_high
        (subst (λ z. pos 0 ≤ℤ z) (dot_split r v ∙ ap (λ z. entry r 0 +ℤ z) columns_value) h))

    exact_met : pos d *ℤ entry e 0 ≡ entry r 0 → value_in v r ≡ pos 0 → value_in v e ≡ pos 0
    exact_met c h =
        zero_multiple d (value_in v e) w.divisor
        (ap (λ z. pos d *ℤ z) (dot_split e v)
        ∙ *ℤ-+ℤ (pos d) (entry e 0) (dot (tail e) v)
        ∙ ap₂ ◌+ℤ◌ c (sym columns_value)
        ∙ sym (dot_split r v)
        ∙ h)

  pub sum_holds : (b : Branch) (d : ℕ) (ts : List (ℕ × ℤ)) (es : List (List ℤ)) (e : List ℤ) (r : Relation)
      → All (MeetsArithmetic v) b
      → Summands b ts es
      → Divided d (summed ts es) e
      → SumRelation (Exact b d ts es e) r
      → Holds r (value_in v e)
  sum_holds b d ts es e r m h w (inl (x, p)) =
      subst (λ r. Holds r (value_in v e)) (sym p)
      (exact_met d (summed ts es) e w (x.constant ∙ sym (entry_summed ts es 0)) (equations_met b ts es m h x.equations))
  sum_holds b d ts es e r m h w (inr (x, p)) = subst (λ r. Holds r (value_in v e)) (sym p) (rounded_met d (summed ts es) e w (sum_met b ts es m h))

  -- ---- 13 Join

  pub join_holds : (b : Branch) (j k : ℕ) (cs : List (List Fact)) → All (MeetsArithmetic v) b → (i : IsJoin b j k cs) → value_in v i.form ≡ pos 0
  join_holds b j k cs m i =
      ≤ℤ_antisym
      (neg_nonneg→ (subst (λ z. pos 0 ≤ℤ z) negative
      (nonneg i.second_relation (value_in v i.negative) i.second_taken (all_at (MeetsArithmetic v) b k m i.second))))
      (nonneg i.first_relation (value_in v i.form) i.first_taken (all_at (MeetsArithmetic v) b j m i.first))
    where
      negative : value_in v i.negative ≡ neg_ℤ (value_in v i.form)
      negative =
          dot_entries i.negative (scale (negsuc 0) i.form) (pos 1 ∷ v)
          (λ p. i.negated p ∙ sym (entry_scale (negsuc 0) i.form p ∙ minus_one_*ℤ (entry i.form p)))
          ∙ dot_neg i.form (pos 1 ∷ v)
