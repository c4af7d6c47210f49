-- Two questions that were read, by what is found of their heads, extended constraints and facts.
use Prim.Native.Nat.{ℕ}
use mathlib.Core.Path.{◌≡◌, refl, sym, ◌∙◌, ap, ap₂}
use mathlib.Core.Bool.{Bool, true, false, ◌&&◌}
use mathlib.Core.List.{List, map}
use lib.IntN.{ℤ}
use Rattle.calculus.specs.Facts.{Question}
use Rattle.calculus.specs.Extended.{basic}
use Rattle.calculus.specs.NormalForms.{agrees_by, eq_heads, same_by}
use Rattle.format.specs.Sameness.{SameRefused, agreement, first, found_by, sameness, second}
use Rattle.question.specs.declared.Progress.{Progress}
use Rattle.question.specs.Posed.{asked, extended_asked}
use Rattle.std.specs.Prelude.{Result, Ok, Err}
use Rattle.std.specs.Result.{MatchResult}
use Rattle.faults.specs.declared.Refusal.{Refusal}
use Rattle.sameness.specs.declared.Refused.{Refused}
use Rattle.sameness.specs.declared.Which.TheVariants.{First, Second}
use Rattle.sameness.specs.Asked.{AskedAs, sameness_of}
use Rattle.sameness.specs.Ready.{Ready, facts_in, extended_in}
use Rattle.sameness.proofs.Occurrences.{normal_facts, same_parted}

module _ (b : List ℕ) (s : Progress) (c : List ℕ) (t : Progress) where
  abbrev u : Question
  u = asked b s

  abbrev v : Question
  v = asked c t

  -- by what is found of heads, extended constraints and facts
  pub compared : {h e d f g : Bool}
      → h ≡ eq_heads u v
      → e ≡ agrees_by agreement u (extended_in b s) v (extended_in c t)
      → d ≡ agrees_by agreement v (extended_in c t) u (extended_in b s)
      → f ≡ agrees_by agreement u (normal_facts u) v (normal_facts v)
      → g ≡ agrees_by agreement v (normal_facts v) u (normal_facts u)
      → same_by agreement u (extended_asked b s) v (extended_asked c t) ≡ (h && (e && (d && (f && g))))
  compared eh ee ed ef eg =
      same_parted agreement u (extended_asked b s) v (extended_asked c t) ∙ ap₂ ◌&&◌ (sym eh) (ap₂ ◌&&◌ (sym ee) (ap₂ ◌&&◌ (sym ed) (ap₂ ◌&&◌ (sym ef) (sym eg))))

-- the facts in rows are the normal forms
pub ready_agree : {b : List ℕ} {s : Progress} {w : List ℤ} {c : List ℕ} {t : Progress} {z : List ℤ} → Ready b s w → Ready c t z
    → agrees_by agreement (asked b s) (facts_in w s.constraints) (asked c t) (facts_in z t.constraints)
    ≡ agrees_by agreement (asked b s) (normal_facts (asked b s)) (asked c t) (normal_facts (asked c t))
ready_agree {b} {s} {w} {c} {t} {z} r q = ap₂ (λ fs gs. agrees_by agreement (asked b s) (map basic fs) (asked c t) (map basic gs)) r.rows q.rows

-- ---- what is said of two questions

-- a question that was read
pub was_read : (r : Result Progress Refusal) (s : Progress) → MatchResult r (λ x. s ≡ x) (λ e. ⊥) → r ≡ Ok s
was_read (Ok x) s m = ap Ok (sym m)
was_read (Err e) s m = absurd m

module _ (b c : List ℕ) where
  pub refused_first : (r : Result Progress Refusal) (d : Refused)
      → AskedAs b r
      → MatchResult r (λ x. ⊥) (λ e. d ≡ record { which = First; refusal = e })
      → sameness_of (Err d) ≡ sameness b c
  unfolding sameness
  refused_first (Ok x) d h m = absurd m
  refused_first (Err e) d h m = rw m (sym (h (SameRefused first) _))

  module _ {s : Progress} (h : AskedAs b (Ok s)) where
    pub refused_second : (r : Result Progress Refusal) (d : Refused)
        → AskedAs c r
        → MatchResult r (λ x. ⊥) (λ e. d ≡ record { which = Second; refusal = e })
        → sameness_of (Err d) ≡ sameness b c
    unfolding sameness
    refused_second (Ok x) d g m = absurd m
    refused_second (Err e) d g m = rw m (sym (h.1 (SameRefused first) _ ∙ g (SameRefused second) _))

    pub both_read : {t : Progress} {a : Bool}
        → AskedAs c (Ok t)
        → a ≡ same_by agreement (asked b s) (extended_asked b s) (asked c t) (extended_asked c t)
        → sameness_of (Ok a) ≡ sameness b c
    unfolding sameness
    both_read {a = a} g e = said a ∙ ap found_by e ∙ sym (h.1 (SameRefused first) _ ∙ g.1 (SameRefused second) _)
      where
        said : (a : Bool) → sameness_of (Ok a) ≡ found_by a
        said true = refl
        said false = refl
