-- What rules 6 to 11 say of the model's values at a leaf, where some child of each of their instances holds already.
use Prim.Native.Nat.{ℕ, zero, suc, ◌+◌, ◌<◌, ◌≤◌}
use native.Mathlib.Omega.{arith}
use native.Mathlib.Decide.{ℕ_discrete}
use mathlib.Core.Path.{◌≡◌, refl, sym, ◌∙◌, ap, subst}
use mathlib.Core.Logic.{◌≢◌, ◌⊎◌, inl, inr}
use mathlib.Core.Option.{some}
use mathlib.Core.List.{List, [], ◌∷◌, map}
use lib.ListN.{get_elem?}
use lib.IntN.{ℤ, pos, negsuc, nat_abs, ◌-ℤ◌}
use lib.Signed.{◌≤ℤ◌, ≤ℤ_refl}
use Rattle.integers.proofs.Laws.{≤ℤ_pos, pos_≤ℤ, ≤ℤ_trans, -ℤ_zero→, →_ℤ_zero, -ℤ_nonneg→, abs_nonneg}
use Rattle.lists.specs.Lists.{All, Any}
use Rattle.lists.proofs.Options.{some_injective, none_some}
use Rattle.calculus.specs.Alphabet.{code_ranges, Character}
use Rattle.calculus.specs.LinearForms.{number, minus, less, above, value_in}
use Rattle.calculus.specs.Facts.{Question, Fact, Branch, Function, len, code, literal, apply, value_of}
use Rattle.calculus.specs.Chains.{OneClass, ClassHolds, Counts}
use Rattle.calculus.specs.Steps.{Step, SProp, LIntro, LValid, CCollapse, CValid, CInj}
use Rattle.calculus.specs.Children.{one, l_valid_children, code_child, c_valid_children, c_inj_children}
use Rattle.calculus.specs.Instances.{Instance}
use Rattle.calculus.specs.Model.{model_value}
use Rattle.calculus.specs.Settled.{HoldsAlready, SomeChild}
use Rattle.calculus.proofs.LinearForms.{dot_minus, dot_number, dot_column, dot_less, dot_above}
use Rattle.calculus.proofs.Alphabet.{InCodes, ranges→}

-- ---- some child holds already

abbrev pub AnyHeld : Branch → List ℤ → List (List Fact) → Type 0
AnyHeld b m cs = Any (All (HoldsAlready b m)) cs

module _ (b : Branch) (m : List ℤ) where
  pub some→any : (cs : List (List Fact)) → SomeChild b m cs → AnyHeld b m cs
  some→any cs s = at cs s.number s.is
    where
      at : (cs : List (List Fact)) (k : ℕ) → get_elem? cs k ≡ some s.child → AnyHeld b m cs
      at [] k e = absurd (none_some e)
      at (c ∷ cs) zero e = inl (subst (All (HoldsAlready b m)) (sym (some_injective e)) s.held)
      at (c ∷ cs) (suc k) e = inr (at cs k e)

  pub any→some : (cs : List (List Fact)) → AnyHeld b m cs → SomeChild b m cs
  any→some [] h = absurd h
  any→some (c ∷ cs) (inl h) = record { number = 0; child = c; is = refl; held = h }
  any→some (c ∷ cs) (inr h) = let s = any→some cs h in record { number = suc s.number; child = s.child; is = s.is; held = s.held }

  only : (f : Fact) → SomeChild b m (one f) → HoldsAlready b m f
  only f s = go (some→any (one f) s)
    where
      go : AnyHeld b m (one f) → HoldsAlready b m f
      go (inl (h, _)) = h
      go (inr h) = absurd h

-- ---- rules 6 to 11

-- some child of each instance of the step holds already
abbrev pub Chosen : Question → Branch → List ℤ → Step → Type 0
Chosen u b m st = (cs : List (List Fact)) → Instance u b st cs → SomeChild b m cs

pub record ByClasses (u : Question) (b : Branch) (m : List ℤ) : Type 0 where
  pub s_prop : (f : Function) (x y : ℕ) → x < u.p → y < u.p → Chosen u b m (SProp f x y)
  pub l_intro : (x : ℕ) → x < u.p → Chosen u b m (LIntro x)
  pub l_valid : (x : ℕ) → x < u.p → Chosen u b m (LValid x)
  pub c_collapse : (x : ℕ) → x < u.p → Chosen u b m (CCollapse x)
  pub c_valid : (x : ℕ) → x < u.p → Chosen u b m (CValid x)
  pub c_inj : (x y : ℕ) → x < u.p → y < u.p → Chosen u b m (CInj x y)

-- the values of the children's forms
module _ (u : Question) (m : List ℤ) where
  pub apply_in : (f : Function) (x : ℕ) → value_in m (apply u f x) ≡ model_value u m f x
  apply_in len x = dot_column m (u.q + x)
  apply_in code x = dot_column m (u.q + (u.p + x))

  pub above_in : (x : ℕ) → value_in m (above (apply u len x)) ≡ model_value u m len x -ℤ pos 1
  above_in x = dot_above m (apply u len x) (apply_in len x)

  pub number_in : (f : Function) (x : ℕ) (k : ℤ) → value_in m (minus (apply u f x) (number k)) ≡ model_value u m f x -ℤ k
  number_in f x k = dot_minus (apply u f x) (number k) (pos 1 ∷ m) (apply_in f x) (dot_number m k)

  pub difference_in : (f : Function) (x y : ℕ) → value_in m (minus (apply u f x) (apply u f y)) ≡ model_value u m f x -ℤ model_value u m f y
  difference_in f x y = dot_minus (apply u f x) (apply u f y) (pos 1 ∷ m) (apply_in f x) (apply_in f y)

  pub low_in : (x k : ℕ) → value_in m (less (apply u code x) k) ≡ model_value u m code x -ℤ pos k
  low_in x k = dot_less m (apply u code x) k (apply_in code x)

  pub high_in : (x k : ℕ) → value_in m (minus (number (pos k)) (apply u code x)) ≡ pos k -ℤ model_value u m code x
  high_in x k = dot_minus (number (pos k)) (apply u code x) (pos 1 ∷ m) (dot_number m (pos k)) (apply_in code x)

module _ (u : Question) (b : Branch) (m : List ℤ) (h : ByClasses u b m) where
  abbrev M : Function → ℕ → ℤ
  M f x = model_value u m f x

  -- S-Prop: one class, one value
  pub class_value : (f : Function) (x y : ℕ) → x < u.p → y < u.p → OneClass b x y → M f x ≡ M f y
  unfolding Instance
  class_value f x y hx hy c = go (ℕ_discrete x y)
    where
      go : Dec (x ≡ y) → M f x ≡ M f y
      go (yes p) = ap (M f) p
      go (no d) = -ℤ_zero→ (sym (difference_in u m f x y) ∙ only b m _ (h.s_prop f x y hx hy _ (record { different = d; joined = c; adds = refl })))

  -- L-Intro and C-Collapse: the values of a literal
  pub literal_value : (f : Function) (x l : ℕ) → x < u.p → Counts u b x l → M f x ≡ value_of f (literal u l)
  unfolding Instance
  literal_value len x l hx c =
      -ℤ_zero→ (sym (number_in u m len x (value_of len (literal u l))) ∙ only b m _ (h.l_intro x hx _ (record { held = l; counts = c; adds = refl })))
  literal_value code x l hx c =
      -ℤ_zero→ (sym (number_in u m code x (value_of code (literal u l))) ∙ only b m _ (h.c_collapse x hx _ (record { held = l; counts = c; adds = refl })))

  -- L-Valid: no length is negative
  pub length_nonneg : (x : ℕ) → x < u.p → pos 0 ≤ℤ M len x
  unfolding Instance
  length_nonneg x hx = go (some→any b m _ (h.l_valid x hx _ refl))
    where
      empty : ClassHolds b x 0 → Counts u b x 0
      empty c = record { defined = omega arith; held = c; lowest = λ k g d. omega arith }

      go : AnyHeld b m (l_valid_children u x) → pos 0 ≤ℤ M len x
      go (inl (c, _)) = subst (λ z. pos 0 ≤ℤ z) (sym (literal_value len x 0 hx (empty c))) (≤ℤ_refl (pos 0))
      go (inr (inl (e, _))) = ≤ℤ_trans (pos_≤ℤ {m = 0} {n = 1} (omega arith)) (-ℤ_nonneg→ (subst (λ z. pos 0 ≤ℤ z) (above_in u m x) e))
      go (inr (inr z)) = absurd z

  -- C-Valid: the code is a character's where the length is 1, and −1 elsewhere
  abbrev pub CodeValid : ℕ → Type 0
  CodeValid x = ((M len x ≢ pos 1) × (M code x ≡ negsuc 0)) ⊎ ((M len x ≡ pos 1) × ((c : ℕ) × (M code x ≡ pos c) × Character u.n c))

  -- a child of one of the ranges: the code is in it
  in_codes : (x : ℕ) (rs : List (ℕ × ℕ)) → AnyHeld b m (map (code_child u x) rs) → (M len x ≡ pos 1) × ((c : ℕ) × (M code x ≡ pos c) × Any (InCodes c) rs)
  in_codes x [] z = absurd z
  in_codes x (r ∷ rs) (inl (p, (q, (s, _)))) =
      let low : pos r.0 ≤ℤ M code x = -ℤ_nonneg→ (subst (λ z. pos 0 ≤ℤ z) (low_in u m x r.0) q) in
      let high : M code x ≤ℤ pos r.1 = -ℤ_nonneg→ (subst (λ z. pos 0 ≤ℤ z) (high_in u m x r.1) s) in
      let e : M code x ≡ pos (nat_abs (M code x)) = abs_nonneg (M code x) (≤ℤ_trans (pos_≤ℤ {m = 0} {n = r.0} (omega arith)) low) in
      let within : InCodes (nat_abs (M code x)) r = (≤ℤ_pos (subst (λ z. pos r.0 ≤ℤ z) e low), ≤ℤ_pos (subst (λ z. z ≤ℤ pos r.1) e high)) in
      (-ℤ_zero→ (sym (above_in u m x) ∙ p), (nat_abs (M code x), e, inl within))
  in_codes x (r ∷ rs) (inr h) = let (l, (c, e, i)) = in_codes x rs h in (l, (c, e, inr i))

  pub code_valid : 1 ≤ u.n → (x : ℕ) → x < u.p → CodeValid x
  unfolding Instance
  code_valid n x hx = go (some→any b m _ (h.c_valid x hx _ refl))
    where
      go : AnyHeld b m (c_valid_children u x) → CodeValid x
      go (inl (p, (q, _))) = inl ((λ e. p (above_in u m x ∙ →_ℤ_zero e)), -ℤ_zero→ (sym (number_in u m code x (negsuc 0)) ∙ q))
      go (inr s) = let (l, (c, e, i)) = in_codes x (code_ranges u.n) s in inr (l, (c, e, ranges→ u.n c n i))

  -- C-Inj: a character is the code of one class only
  pub code_injective : (x y : ℕ) → x < u.p → y < u.p → x ≢ y → (M code x ≡ negsuc 0) ⊎ ((M code x ≢ M code y) ⊎ OneClass b x y)
  unfolding Instance
  code_injective x y hx hy d = go (some→any b m _ (h.c_inj x y hx hy _ (record { different = d; adds = refl })))
    where
      go : AnyHeld b m (c_inj_children u x y) → (M code x ≡ negsuc 0) ⊎ ((M code x ≢ M code y) ⊎ OneClass b x y)
      go (inl (e, _)) = inl (-ℤ_zero→ (sym (number_in u m code x (negsuc 0)) ∙ e))
      go (inr (inl (e, _))) = inr (inl (λ p. e (difference_in u m code x y ∙ →_ℤ_zero p)))
      go (inr (inr (inl (c, _)))) = inr (inr c)
      go (inr (inr (inr z))) = absurd z
