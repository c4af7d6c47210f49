-- Th3: judging says all met exactly when the answer's values meet every constraint, and else names the first that they do not meet.
use Prim.Native.Nat.{ℕ, ◌+◌}
use mathlib.Core.Path.{◌≡◌, refl, sym, ◌∙◌, ap, ap₂, subst}
use mathlib.Core.Bool.{Bool, true, false, not}
use mathlib.Core.Option.{Option, none, some}
use mathlib.Core.List.{List, []}
use lib.Dec.{T_not, not_T, leb}
use borrow.Author.Tests.{not-true, not-false}
use Rattle.lists.proofs.Lists.{all_get_d}
use Rattle.lists.proofs.Tests.{→true, true→}
use Rattle.calculus.specs.Logic.{Iff}
use Rattle.calculus.specs.Alphabet.{Over}
use Rattle.calculus.specs.Facts.{Question, Fact, same, not_same, is_literal, arithmetic, holds, literal}
use Rattle.calculus.specs.Strings.{eq_string}
use Rattle.calculus.specs.Meaning.{Assignment, str, value, IsAssignment, Meets}
use Rattle.calculus.specs.Extended.{Extended, Constraint, basic, extended, constraints_of, MeetsConstraint}
use Rattle.calculus.proofs.Words.{eq_string→, →eq_string}
use Rattle.calculus.proofs.Relations.{holds→, →holds}
use Rattle.lists.proofs.Searches.{FirstWithout, lowest_first, first_unique}
use Rattle.calculus.proofs.Extended.{extended→, →extended}
use Rattle.format.specs.Question.{Reading, Stopped, Ended, judged_question, judged_in, by_head}
use Rattle.format.specs.Places.{skip, texts}
use Rattle.format.specs.Answer.{answer_form, assignment_of, outside}
use Rattle.format.specs.Judging.{Rejected, Submitted, by_form, judge_answer, judge_behind, submission, meets, meets_constraint}
use Rattle.format.specs.Judging.{first_unmet, said_of, said}
use Rattle.format.specs.Demands.{TrueJudgement, Th3, Asks}
use Rattle.format.proofs.Faults.{not_both, clash}
use Rattle.format.proofs.Fields.{length_i32s}
use Rattle.format.proofs.Asked.{headed_in_law}
use Rattle.format.proofs.Extended.{judged_put}
use Rattle.format.proofs.Places.{length_texts}
use Rattle.format.proofs.Outside.{all_inside}

-- ---- a constraint is met exactly when its test holds

meets→ : (u : Question) (a : Assignment) (f : Fact) → meets u a f ≡ true → Meets u a f
meets→ u a (same x y) e = eq_string→ (str a x) (str a y) (true→ e)
meets→ u a (not_same x y) e = λ p. T_not (eq_string (str a x) (str a y)) (true→ e) (→eq_string p)
meets→ u a (is_literal x l) e = eq_string→ (str a x) (literal u l) (true→ e)
meets→ u a (arithmetic r e) h = holds→ r (value a e) (true→ h)

→meets : (u : Question) (a : Assignment) (f : Fact) → Meets u a f → meets u a f ≡ true
→meets u a (same x y) h = →true (eq_string (str a x) (str a y)) (→eq_string h)
→meets u a (not_same x y) h = →true (not (eq_string (str a x) (str a y))) (not_T (eq_string (str a x) (str a y)) (λ t. h (eq_string→ (str a x) (str a y) t)))
→meets u a (is_literal x l) h = →true (eq_string (str a x) (literal u l)) (→eq_string h)
→meets u a (arithmetic r e) h = →true (holds r (value a e)) (→holds r (value a e) h)

constraint→ : (u : Question) (a : Assignment) (c : Constraint) → meets_constraint u a c ≡ true → MeetsConstraint u a c
constraint→ u a (basic f) e = meets→ u a f e
constraint→ u a (extended x) e = extended→ a x e

→constraint : (u : Question) (a : Assignment) (c : Constraint) → MeetsConstraint u a c → meets_constraint u a c ≡ true
→constraint u a (basic f) h = →meets u a f h
→constraint u a (extended x) h = →extended a x h

-- ---- the first constraint that is not met

module _ (u : Question) (es : List Extended) (a : Assignment) where
  pub first_unmet_law : FirstWithout (MeetsConstraint u a) (constraints_of u es) (first_unmet u es a)
  first_unmet_law = lowest_first (MeetsConstraint u a) (λ c. not (meets_constraint u a c)) unmet→ met→ (constraints_of u es)
    where
      unmet→ : (c : Constraint) → not (meets_constraint u a c) ≡ true → MeetsConstraint u a c → ⊥
      unmet→ c e m = not_both (meets_constraint u a c) (→constraint u a c m) (not-true (meets_constraint u a c) e)

      met→ : (c : Constraint) → not (meets_constraint u a c) ≡ false → MeetsConstraint u a c
      met→ c e = constraint→ u a c (not-false (meets_constraint u a c) e)

-- ---- the answer's values are an assignment of the question

-- what was judged is the question that was read and an answer of its form and in its ranges
pub record Taken (b v : List ℕ) (u : Question) (es : List Extended) (a : Assignment) : Type 0 where
  pub asked_is : Asks b u es
  pub values_are : a ≡ assignment_of v u
  pub formed : answer_form v u.p u.q 0 ≡ true
  pub all_inside : outside v u u.p 0 0 ≡ none

pub judged_taken : (b v : List ℕ) (u : Question) (es : List Extended) (a : Assignment) → submission b v ≡ Submitted u es a → Taken b v u es a
unfolding submission
judged_taken b v u es a e = behind (judged_question b) refl e
  where
    answered : (w : Question) (ws : List Extended) (x : Bool) (o : Option ℕ)
        → answer_form v w.p w.q 0 ≡ x
        → outside v w w.p 0 0 ≡ o
        → Asks b w ws
        → by_form w ws v x o ≡ Submitted u es a
        → Taken b v u es a
    answered w ws false o f p q e = clash cc
    answered w ws true (some r) f p q e = clash cc
    answered w ws true none f p q e =
        let s : w ≡ u = cc in
        let t : assignment_of v w ≡ a = cc in
        let z : ws ≡ es = cc in
        record {
          asked_is = q ∙ ap₂ (λ x y. some (x, y)) s z;
          values_are = sym t ∙ ap (assignment_of v) s;
          formed = subst (λ z. answer_form v z.p z.q 0 ≡ true) s f;
          all_inside = subst (λ z. outside v z z.p 0 0 ≡ none) s p;
        }

    behind : (g : Reading) → judged_question b ≡ g → judge_behind g v ≡ Submitted u es a → Taken b v u es a
    behind (Stopped c r) p e = clash cc
    behind (Ended s at r) p e = go (leb 1 s.last) refl e
      where
        go : (x : Bool)
            → leb 1 s.last ≡ x
            → by_head Rejected (λ u es. judge_answer u es v) s r x ≡ Submitted u es a
            → Taken b v u es a
        go false h e = clash cc
        go true h e =
            answered s.question s.extended (answer_form v s.question.p s.question.q 0) (outside v s.question s.question.p 0 0) refl refl
            (ap judged_in p ∙ headed_in_law (λ s. (s.question, s.extended)) s at r h) e

-- ---- the theorem

pub judging_is_theory : Th3
judging_is_theory b v u es a e =
    let t = judged_taken b v u es a e in
    subst (λ g. TrueJudgement b v (said g) u es a) (sym e) (record {
      asked = t.asked_is;
      put = λ none-extended. judged_put b (t.asked_is ∙ ap (λ es. some (u, es)) none-extended);
      values = t.values_are;
      for_question = subst (IsAssignment u) (sym t.values_are) (record {
        strings = length_texts v u.p 0;
        integers = length_i32s v (skip v u.p 0 + 6) u.q;
        over = λ x. all_get_d (Over u.n) (texts v u.p 0) x [] tt (all_inside v u t.all_inside).0;
      });
      all_met = exactly none;
      unmet = λ k. exactly (some k);
    })
  where
    said_one : (o i : Option ℕ) → said_of o ≡ said_of i → o ≡ i
    said_one none none e = refl
    said_one none (some k) e = clash cc
    said_one (some k) none e = clash cc
    said_one (some k) (some j) e = let z : k ≡ j = cc in ap some z

    exactly : (o : Option ℕ) → Iff (said_of (first_unmet u es a) ≡ said_of o) (FirstWithout (MeetsConstraint u a) (constraints_of u es) o)
    exactly o = (
      (λ e. subst (FirstWithout (MeetsConstraint u a) (constraints_of u es)) (said_one (first_unmet u es a) o e) (first_unmet_law u es a)),
      (λ h. ap said_of (first_unique (MeetsConstraint u a) (constraints_of u es) (first_unmet u es a) o (first_unmet_law u es a) h)),
    )
