-- Questions found the same have the same solutions; they are found so exactly when the words say so, and refused as judging refuses them.
use Prim.Native.Nat.{ℕ}
use mathlib.Core.Path.{◌≡◌, refl, sym, ◌∙◌, ap, ap₂, subst}
use mathlib.Core.Bool.{Bool, true, false, cond}
use mathlib.Core.Option.{none, some}
use mathlib.Core.List.{List}
use lib.Dec.{T}
use Rattle.lists.proofs.Tests.{→true}
use Rattle.lists.proofs.Options.{some_injective, none_some}
use Rattle.calculus.specs.Logic.{Iff}
use Rattle.calculus.specs.Facts.{Question}
use Rattle.calculus.specs.Meaning.{Assignment}
use Rattle.calculus.specs.Extended.{Extended}
use Rattle.calculus.specs.NormalForms.{same_by, same_sets, SameSets}
use Rattle.calculus.proofs.Divisors.{divisor_greatest}
use Rattle.calculus.proofs.NormalForms.{reduced_exact, reduced_undivided}
use Rattle.calculus.proofs.Sameness.{same_sets→, →same_sets, same_solutions}
use Rattle.format.specs.Question.{Reading, Stopped, Ended, judged_question, head_read, judged_in, by_head, by_reading}
use Rattle.format.specs.Judging.{Rejected, judge_answer, submission, judge_behind}
use Rattle.format.specs.Sameness.{Which, first, second, by_which, Sameness, SameRefused, Same, Different, found_by, sameness_by, agreement, sameness}
use Rattle.format.specs.Demands.{Asks, Solves, ThL6, ThL6Sets, ThL6Different, ThL6Refused, ThL6Divisor}

-- ---- a question that was read, or refused

-- how a reading went: the question with its extended constraints, or a refusal, which judging gives too
data Read (g : Reading) : Type 0 where
  asked : (u : Question) (es : List Extended) → judged_in g ≡ some (u, es)
      → ((refuse : ℕ → ℕ → Sameness) (compare : Question → List Extended → Sameness) → by_reading refuse compare g ≡ compare u es) → Read g
  stopped : (n r : ℕ) → ((v : List ℕ) → judge_behind g v ≡ Rejected n r)
      → ((refuse : ℕ → ℕ → Sameness) (compare : Question → List Extended → Sameness) → by_reading refuse compare g ≡ refuse n r)
      → ((u : Question) (es : List Extended) → judged_in g ≡ some (u, es) → ⊥) → Read g

read : (g : Reading) → Read g
read (Stopped n r) = stopped n r (λ v. refl) (λ refuse compare. refl) (λ u es e. none_some e)
read (Ended s at r) = go (head_read s) refl
  where
    go : (t : Bool) → head_read s ≡ t → Read (Ended s at r)
    go true e = asked s.question s.extended (ap (λ x. cond x (some (s.question, s.extended)) none) e)
        (λ refuse compare. ap (by_head refuse compare s r) e)
    go false e = stopped 4 r (λ v. ap (by_head Rejected (λ u es. judge_answer u es v) s r) e)
        (λ refuse compare. ap (by_head refuse compare s r) e)
        (λ u es f. none_some (sym (ap (λ x. cond x (some (s.question, s.extended)) none) e) ∙ f))

-- ---- two questions, by any test of counts

module _ (agree : ℕ → ℕ → Bool) (b c : List ℕ) where
  data Told : Type 0 where
    of_first : (n r : ℕ) → sameness_by agree b c ≡ SameRefused first n r → ((v : List ℕ) → submission b v ≡ Rejected n r)
        → ((u : Question) (es : List Extended) → Asks b u es → ⊥) → Told
    of_second : (n r : ℕ) → sameness_by agree b c ≡ SameRefused second n r → ((v : List ℕ) → submission c v ≡ Rejected n r)
        → ((v : Question) (ds : List Extended) → Asks c v ds → ⊥) → (u : Question) (es : List Extended) → Asks b u es → Told
    of_both : (u : Question) (es : List Extended) (v : Question) (ds : List Extended) → Asks b u es → Asks c v ds
        → sameness_by agree b c ≡ found_by (same_by agree u es v ds) → Told

  told : Told
  unfolding submission
  told = go (read (judged_question b)) (read (judged_question c))
    where
      go : Read (judged_question b) → Read (judged_question c) → Told
      go (stopped n r j f x) q = of_first n r (f _ _) j x
      go (asked u es e f) (stopped n r j g x) = of_second n r (f _ _ ∙ g _ _) j x u es e
      go (asked u es e f) (asked v ds d g) = of_both u es v ds e d (f _ _ ∙ g _ _)

-- ---- what is said of two questions is one thing

abbrev IsSame : Sameness → Type 0
IsSame (SameRefused w n r) = ⊥
IsSame Same = Unit {0}
IsSame Different = ⊥

abbrev IsDifferent : Sameness → Type 0
IsDifferent (SameRefused w n r) = ⊥
IsDifferent Same = ⊥
IsDifferent Different = Unit {0}

-- a refusal, by which question, number and record
abbrev AsRefused : (Which → ℕ → ℕ → Type 0) → Sameness → Type 0
AsRefused P (SameRefused w n r) = P w n r
AsRefused P Same = ⊥
AsRefused P Different = ⊥

abbrev IsSecond : Which → Type 0
IsSecond first = ⊥
IsSecond second = Unit {0}

-- what is compared is not refused
unrefused : {w : Which} {n r : ℕ} (t : Bool) → found_by t ≡ SameRefused w n r → ⊥
unrefused true e = subst IsSame e tt
unrefused false e = subst IsDifferent e tt

-- ---- the same

found_so : (t : Bool) → found_by t ≡ Same → T t
found_so true e = tt
found_so false e = subst IsSame (sym e) tt

same→ : (u v : Question) (es ds : List Extended) → found_by (same_sets u es v ds) ≡ Same → SameSets u es v ds
same→ u v es ds e = same_sets→ u v es ds (found_so (same_sets u es v ds) e)

→same : (u v : Question) (es ds : List Extended) → SameSets u es v ds → found_by (same_sets u es v ds) ≡ Same
→same u v es ds h = ap found_by (→true (same_sets u es v ds) (→same_sets u v es ds h))

pub found_same : ThL6
unfolding sameness
found_same b c e = go (told agreement b c)
  where
    go : Told agreement b c
        → (u : Question) × (es : List Extended) × (v : Question) × (ds : List Extended) × Asks b u es × Asks c v ds
        × ((a : Assignment) → Iff (Solves u es a) (Solves v ds a))
    go (of_first n r f j x) = absurd (subst IsSame (sym e ∙ f) tt)
    go (of_second n r f j x u es p) = absurd (subst IsSame (sym e ∙ f) tt)
    go (of_both u es v ds p q f) = (u, es, v, ds, p, q, same_solutions u v es ds (same→ u v es ds (sym f ∙ e)))

pub same_by_sets : ThL6Sets
unfolding sameness
same_by_sets b c u v es ds p q = go (told agreement b c)
  where
    go : Told agreement b c → Iff (sameness b c ≡ Same) (SameSets u es v ds)
    go (of_first n r f j x) = absurd (x u es p)
    go (of_second n r f j x u' es' p') = absurd (x v ds q)
    go (of_both u' es' v' ds' p' q' f) =
        let here : ◌≡◌ {A = Question × List Extended} (u', es') (u, es) = some_injective (sym p' ∙ p) in
        let there : ◌≡◌ {A = Question × List Extended} (v', ds') (v, ds) = some_injective (sym q' ∙ q) in
        let g : sameness b c ≡ found_by (same_sets u es v ds) =
        f ∙ ap₂ (λ (x y : Question × List Extended). found_by (same_sets x.0 x.1 y.0 y.1)) here there in
        (λ e. same→ u v es ds (sym g ∙ e), λ h. g ∙ →same u v es ds h)

pub found_different : ThL6Different
unfolding sameness
found_different b c e = go (told agreement b c)
  where
    go : Told agreement b c
        → (u : Question) × (es : List Extended) × (v : Question) × (ds : List Extended) × Asks b u es × Asks c v ds × (SameSets u es v ds → ⊥)
    go (of_first n r f j x) = absurd (subst IsDifferent (sym e ∙ f) tt)
    go (of_second n r f j x u es p) = absurd (subst IsDifferent (sym e ∙ f) tt)
    go (of_both u es v ds p q f) = (u, es, v, ds, p, q, λ h. subst IsSame (sym (→same u v es ds h) ∙ sym f ∙ e) tt)

-- ---- refusals

pub refused_as_judged : ThL6Refused
unfolding sameness
refused_as_judged b c = record { by_judging = λ w n r e v. judges (told agreement b c) w n r e v; first_asked = λ n r e. asks (told agreement b c) n r e }
  where
    judges : Told agreement b c → (w : Which) (n r : ℕ) → sameness b c ≡ SameRefused w n r → (v : List ℕ) → submission (by_which w b c) v ≡ Rejected n r
    judges (of_first n' r' f j x) w n r e v = subst (AsRefused (λ w n r. submission (by_which w b c) v ≡ Rejected n r)) (sym f ∙ e) (j v)
    judges (of_second n' r' f j x u es p) w n r e v = subst (AsRefused (λ w n r. submission (by_which w b c) v ≡ Rejected n r)) (sym f ∙ e) (j v)
    judges (of_both u es v' ds p q f) w n r e v = absurd (unrefused (same_sets u es v' ds) (sym f ∙ e))

    asks : Told agreement b c → (n r : ℕ) → sameness b c ≡ SameRefused second n r → (u : Question) × (es : List Extended) × Asks b u es
    asks (of_first n' r' f j x) n r e = absurd (subst (AsRefused (λ w n r. IsSecond w)) (sym e ∙ f) tt)
    asks (of_second n' r' f j x u es p) n r e = (u, es, p)
    asks (of_both u es v' ds p q f) n r e = (u, es, p)

-- ---- the divisor

pub divided_out : ThL6Divisor
divided_out e = record { divisor = divisor_greatest e; exact = reduced_exact e; undivided = reduced_undivided e }
