-- Questions that are the same: constraints that are alike say the same, the test says what the words say, and questions that are the same have the same
-- solutions.
use Prim.Native.Nat.{ℕ, zero, suc}
use mathlib.Core.Path.{◌≡◌, refl, sym, ◌∙◌, ap, ap₂, subst}
use mathlib.Core.Logic.{◌≢◌, inl, inr}
use mathlib.Core.List.{List, [], ◌∷◌}
use lib.ListN.{get_or, drop}
use lib.Dec.{T, eqb, eqb→eq, eqb_refl}
use lib.IntN.{ℤ}
use Rattle.lists.specs.Lists.{All, Any, eq_list}
use Rattle.lists.proofs.Lists.{all_map, all→, →all, any→, →any, any_counted, all_mapped, any_mapped}
use Rattle.lists.proofs.Tests.{and→, →and}
use Rattle.calculus.specs.Logic.{Iff}
use Rattle.calculus.specs.Facts.{Question, ge, eq, ne, Holds, same, not_same, is_literal, arithmetic}
use Rattle.calculus.specs.Alphabet.{Over}
use Rattle.calculus.specs.Meaning.{Assignment, str, IsAssignment, value}
use Rattle.calculus.specs.Extended.{Extended, is_upper, is_lower, is_value, is_decimal, in_order, MeetsExtended}
use Rattle.calculus.specs.Extended.{Constraint, basic, extended, constraints_of, MeetsConstraint}
use Rattle.calculus.specs.NormalForms.{normal_constraint, normals, constraint_tag, constraint_operands, constraint_form, Alike, alike}
use Rattle.calculus.specs.NormalForms.{occurrences, agrees_by, eq_heads, in_both, same_by, same_sets, EachIn, SameSets}
use Rattle.calculus.proofs.LinearForms.{eq_integers→, →eq_integers}
use Rattle.calculus.proofs.Words.{eq_string→, →eq_string}
use Rattle.calculus.proofs.NormalForms.{normal_constraint_met}

-- ---- constraints that are alike say the same

-- what a constraint says, by its tag, its operands and its form alone: of a tag from 3 on, by its first two operands and by those after the first
abbrev SaysOf : Assignment → ℕ → ℕ → ℕ → List ℕ → Type 0
SaysOf a zero x y s = str a x ≡ str a y
SaysOf a (suc zero) x y s = str a x ≢ str a y
SaysOf a (suc (suc zero)) x y s = str a x ≡ s
SaysOf a (suc (suc (suc zero))) x y s = MeetsExtended a (is_upper x y)
SaysOf a (suc (suc (suc (suc zero)))) x y s = MeetsExtended a (is_lower x y)
SaysOf a (suc (suc (suc (suc (suc zero))))) x y s = MeetsExtended a (is_value x y)
SaysOf a (suc (suc (suc (suc (suc (suc zero)))))) x y s = MeetsExtended a (is_decimal x y)
SaysOf a (suc (suc (suc (suc (suc (suc (suc n))))))) x y s = MeetsExtended a (in_order x y)

abbrev Says : Assignment → ℕ → List ℕ → List ℤ → Type 0
Says a zero xs e = Holds ge (value a e)
Says a (suc zero) xs e = Holds eq (value a e)
Says a (suc (suc zero)) xs e = Holds ne (value a e)
Says a (suc (suc (suc n))) xs e = SaysOf a n (get_or xs 0 0) (get_or xs 1 0) (drop 1 xs)

says : (u : Question) (a : Assignment) (c : Constraint) → MeetsConstraint u a c ≡ Says a (constraint_tag c) (constraint_operands u c) (constraint_form c)
says u a (basic (same x y)) = refl
says u a (basic (not_same x y)) = refl
says u a (basic (is_literal x l)) = refl
says u a (basic (arithmetic ge e)) = refl
says u a (basic (arithmetic eq e)) = refl
says u a (basic (arithmetic ne e)) = refl
says u a (extended (is_upper x y)) = refl
says u a (extended (is_lower x y)) = refl
says u a (extended (is_value x y)) = refl
says u a (extended (is_decimal x y)) = refl
says u a (extended (in_order x y)) = refl

alike_met : (u v : Question) (a : Assignment) (c d : Constraint) → Alike u v c d → MeetsConstraint u a c → MeetsConstraint v a d
alike_met u v a c d h m = subst (λ X. X) (says u a c ∙ there ∙ sym (says v a d)) m
  where
    there : Says a (constraint_tag c) (constraint_operands u c) (constraint_form c) ≡ Says a (constraint_tag d) (constraint_operands v d) (constraint_form d)
    there =
        ap (λ n. Says a n (constraint_operands u c) (constraint_form c)) h.tag
        ∙ ap₂ (Says a (constraint_tag d)) h.operands h.form

alike_sym : {u v : Question} {c d : Constraint} → Alike u v c d → Alike v u d c
alike_sym h = record { tag = sym h.tag; operands = sym h.operands; form = sym h.form }

-- ---- the test and the words

alike→ : (u v : Question) (c d : Constraint) → T (alike u v c d) → Alike u v c d
unfolding alike
alike→ u v c d t =
    let (s, t') = and→ (eqb (constraint_tag c) (constraint_tag d)) _ t in
    let (o, f) = and→ (eq_list eqb (constraint_operands u c) (constraint_operands v d)) _ t' in
    record {
      tag = eqb→eq _ _ s;
      operands = eq_string→ _ _ o;
      form = eq_integers→ _ _ f;
    }

→alike : (u v : Question) (c d : Constraint) → Alike u v c d → T (alike u v c d)
unfolding alike
→alike u v c d h =
    →and (eqb (constraint_tag c) (constraint_tag d)) _ (subst (λ n. T (eqb (constraint_tag c) n)) h.tag (eqb_refl (constraint_tag c)))
    (→and (eq_list eqb (constraint_operands u c) (constraint_operands v d)) _ (→eq_string h.operands) (→eq_integers h.form))

-- each constraint of the one among those of the other, in words and as a test
each→ : (u v : Question) (es ds : List Extended) → T (agrees_by in_both u (normals u es) v (normals v ds)) → EachIn u es v ds
unfolding agrees_by
each→ u v es ds t =
    subst (λ X. X) (all_mapped _ normal_constraint (constraints_of u es))
    (all→ _ (normals u es) (λ c h. one c h) t)
  where
    one : (c : Constraint) → T (in_both (occurrences u u c (normals u es)) (occurrences u v c (normals v ds)))
        → Any (λ d. Alike u v c (normal_constraint d)) (constraints_of v ds)
    one c h =
        subst (λ X. X) (any_mapped (Alike u v c) normal_constraint (constraints_of v ds))
        (any→ (alike u v c) (normals v ds) (alike→ u v c) (subst T (any_counted (alike u v c) (normals v ds)) h))

→each : (u v : Question) (es ds : List Extended) → EachIn u es v ds → T (agrees_by in_both u (normals u es) v (normals v ds))
unfolding agrees_by
→each u v es ds h =
    →all _ (normals u es) (λ c g. one c g)
    (subst (λ X. X) (sym (all_mapped _ normal_constraint (constraints_of u es))) h)
  where
    one : (c : Constraint) → Any (λ d. Alike u v c (normal_constraint d)) (constraints_of v ds)
        → T (in_both (occurrences u u c (normals u es)) (occurrences u v c (normals v ds)))
    one c g =
        subst T (sym (any_counted (alike u v c) (normals v ds)))
        (→any (alike u v c) (normals v ds) (→alike u v c) (subst (λ X. X) (sym (any_mapped (Alike u v c) normal_constraint (constraints_of v ds))) g))

pub same_sets→ : (u v : Question) (es ds : List Extended) → T (same_sets u es v ds) → SameSets u es v ds
unfolding same_by eq_heads
same_sets→ u v es ds t =
    let (h, g) = and→ (eq_heads u v) _ t in
    let (n, h') = and→ (eqb u.n v.n) _ h in
    let (p, q) = and→ (eqb u.p v.p) _ h' in
    let (f, s) = and→ (agrees_by in_both u (normals u es) v (normals v ds)) _ g in
    record {
      n_agrees = eqb→eq _ _ n;
      p_agrees = eqb→eq _ _ p;
      q_agrees = eqb→eq _ _ q;
      first_in_second = each→ u v es ds f;
      second_in_first = each→ v u ds es s;
    }

pub →same_sets : (u v : Question) (es ds : List Extended) → SameSets u es v ds → T (same_sets u es v ds)
unfolding same_by eq_heads
→same_sets u v es ds h =
    →and (eq_heads u v) _ (→and (eqb u.n v.n) _ (equal h.n_agrees) (→and (eqb u.p v.p) _ (equal h.p_agrees) (equal h.q_agrees)))
    (→and (agrees_by in_both u (normals u es) v (normals v ds)) _ (→each u v es ds h.first_in_second) (→each v u ds es h.second_in_first))
  where
    equal : {m n : ℕ} → m ≡ n → T (eqb m n)
    equal {m} e = subst (λ n. T (eqb m n)) e (eqb_refl m)

-- ---- the same solutions

-- what meets all constraints of the one meets those of the other
met_there : (u v : Question) (es ds : List Extended) (a : Assignment) → EachIn v ds u es
    → All (MeetsConstraint u a) (constraints_of u es) → All (MeetsConstraint v a) (constraints_of v ds)
met_there u v es ds a each met = all_map (constraints_of v ds) (λ d found. one d (constraints_of u es) met found) each
  where
    one : (d : Constraint) (cs : List Constraint) → All (MeetsConstraint u a) cs → Any (λ c. Alike v u (normal_constraint d) (normal_constraint c)) cs
        → MeetsConstraint v a d
    one d [] m found = absurd found
    one d (c ∷ cs) (m, ms) (inl l) =
        (normal_constraint_met a v d).1
        (alike_met u v a (normal_constraint c) (normal_constraint d) (alike_sym l) ((normal_constraint_met a u c).0 m))
    one d (c ∷ cs) (m, ms) (inr found) = one d cs ms found

for_there : (u v : Question) (a : Assignment) → u.n ≡ v.n → u.p ≡ v.p → u.q ≡ v.q → IsAssignment u a → IsAssignment v a
for_there u v a n p q f = record {
  strings = f.strings ∙ p;
  integers = f.integers ∙ q;
  over = λ x. subst (λ k. Over k (str a x)) n (f.over x);
}

pub same_solutions : (u v : Question) (es ds : List Extended) → SameSets u es v ds → (a : Assignment)
    → Iff (IsAssignment u a × All (MeetsConstraint u a) (constraints_of u es)) (IsAssignment v a × All (MeetsConstraint v a) (constraints_of v ds))
same_solutions u v es ds h a = (
  λ (f, m). (for_there u v a h.n_agrees h.p_agrees h.q_agrees f, met_there u v es ds a h.second_in_first m),
  λ (f, m). (for_there v u a (sym h.n_agrees) (sym h.p_agrees) (sym h.q_agrees) f, met_there v u ds es a h.first_in_second m),
)
