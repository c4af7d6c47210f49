-- Facts and extended constraints are never alike, so that all constraints agree where facts and extended constraints do, each apart.
use Prim.Native.Nat.{ℕ, ◌+◌, ◌≤◌}
use native.Mathlib.Omega.{arith}
use mathlib.Core.Path.{◌≡◌, refl, sym, ◌∙◌, ap, ap₂}
use mathlib.Core.Bool.{Bool, true, false, ◌&&◌}
use mathlib.Core.List.{List, ◌++◌, map, map-append, map-map}
use borrow.Author.Tests.{ne_eqb}
use Rattle.lists.proofs.Lists.{count_append, count_mapped_none}
use Rattle.lists.proofs.Every.{every_append, every_alike}
use Rattle.calculus.specs.Facts.{Question, Fact, same, not_same, is_literal, arithmetic, ge, eq, ne, fact_tag}
use Rattle.calculus.specs.Extended.{Extended, Constraint, basic, extended}
use Rattle.calculus.specs.NormalForms.{function_number, alike, occurrences, agrees_by, eq_heads, normal, normal_constraint}
use Rattle.calculus.specs.NormalForms.{normals, same_by}

-- ---- a fact and an extended constraint

tag_most : (f : Fact) → fact_tag f ≤ 5
tag_most (same x y) = omega arith
tag_most (not_same x y) = omega arith
tag_most (is_literal x l) = omega arith
tag_most (arithmetic ge e) = omega arith
tag_most (arithmetic eq e) = omega arith
tag_most (arithmetic ne e) = omega arith

module _ (u v : Question) where
  fact_never : (f : Fact) (e : Extended) → alike u v (basic f) (extended e) ≡ false
  unfolding alike
  fact_never f e = rw (ne_eqb (fact_tag f) (6 + function_number e) (λ h. omega (arith, h, tag_most f)))

  extended_never : (e : Extended) (f : Fact) → alike u v (extended e) (basic f) ≡ false
  unfolding alike
  extended_never e f = rw (ne_eqb (6 + function_number e) (fact_tag f) (λ h. omega (arith, h, tag_most f)))

  module _ (fs : List Fact) (es : List Extended) where
    fact_occurs : (f : Fact) → occurrences u v (basic f) (map basic fs ++ map extended es) ≡ occurrences u v (basic f) (map basic fs)
    fact_occurs f =
        let t : Constraint → Bool = alike u v (basic f) in
        omega (arith, count_append t (map basic fs) (map extended es), count_mapped_none t extended (fact_never f) es)

    extended_occurs : (e : Extended) → occurrences u v (extended e) (map basic fs ++ map extended es) ≡ occurrences u v (extended e) (map extended es)
    extended_occurs e =
        let t : Constraint → Bool = alike u v (extended e) in
        omega (arith, count_append t (map basic fs) (map extended es), count_mapped_none t basic (extended_never e) fs)

-- ---- all constraints

module _ (agree : ℕ → ℕ → Bool) (u : Question) (fs : List Fact) (es : List Extended) (v : Question) (gs : List Fact) (ds : List Extended) where
  agrees_parted : agrees_by agree u (map basic fs ++ map extended es) v (map basic gs ++ map extended ds)
      ≡ (agrees_by agree u (map basic fs) v (map basic gs) && agrees_by agree u (map extended es) v (map extended ds))
  unfolding agrees_by
  agrees_parted =
      every_append _ (map basic fs) (map extended es)
      ∙ ap₂ ◌&&◌ (every_alike basic _ _ (λ f. ap₂ agree (fact_occurs u u fs es f) (fact_occurs u v gs ds f)) fs)
      (every_alike extended _ _ (λ e. ap₂ agree (extended_occurs u u fs es e) (extended_occurs u v gs ds e)) es)

-- the normal forms of a question's facts, and its extended constraints after them
abbrev pub normal_facts : Question → List Constraint
normal_facts u = map basic (map normal u.constraints)

normals_are : (u : Question) (es : List Extended) → normals u es ≡ normal_facts u ++ map extended es
normals_are u es =
    map-append normal_constraint (map basic u.constraints) (map extended es)
    ∙ ap₂ ◌++◌ (map-map normal_constraint basic u.constraints ∙ sym (map-map basic normal u.constraints)) (map-map normal_constraint extended es)

module _ (agree : ℕ → ℕ → Bool) (u : Question) (es : List Extended) (v : Question) (ds : List Extended) where
  normals_parted : agrees_by agree u (normals u es) v (normals v ds)
      ≡ (agrees_by agree u (normal_facts u) v (normal_facts v) && agrees_by agree u (map extended es) v (map extended ds))
  normals_parted =
      ap₂ (λ c d. agrees_by agree u c v d) (normals_are u es) (normals_are v ds)
      ∙ agrees_parted agree u (map normal u.constraints) es v (map normal v.constraints) ds

-- as the code tests them: heads, then the extended constraints of both, then the facts of both
pub same_parted : (agree : ℕ → ℕ → Bool) (u : Question) (es : List Extended) (v : Question) (ds : List Extended) → same_by agree u es v ds
    ≡ (eq_heads u v && (agrees_by agree u (map extended es) v (map extended ds) && (agrees_by agree v (map extended ds) u (map extended es)
    && (agrees_by agree u (normal_facts u) v (normal_facts v) && agrees_by agree v (normal_facts v) u (normal_facts u)))))
unfolding same_by
same_parted agree u es v ds =
    ap (λ t. eq_heads u v && t) (ap₂ ◌&&◌ (normals_parted agree u es v ds) (normals_parted agree v ds u es)
    ∙ turned (agrees_by agree u (normal_facts u) v (normal_facts v)) (agrees_by agree u (map extended es) v (map extended ds))
    (agrees_by agree v (normal_facts v) u (normal_facts u)) (agrees_by agree v (map extended ds) u (map extended es)))
  where
    turned : (f e g d : Bool) → ((f && e) && (g && d)) ≡ (e && (d && (f && g)))
    turned true true true true = refl
    turned true true true false = refl
    turned true true false true = refl
    turned true true false false = refl
    turned true false g d = refl
    turned false true g true = refl
    turned false true g false = refl
    turned false false g d = refl
