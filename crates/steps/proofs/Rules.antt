-- Rules by name: the rule of a number, and arms of several rules.
use Prim.Native.Nat.{ℕ, ◌<◌, ◌≤◌}
use native.Mathlib.Omega.{arith}
use native.Mathlib.Decide.{dec_lt}
use mathlib.Core.Path.{◌≡◌, refl, sym, ◌∙◌, ap, subst}
use mathlib.Core.Logic.{inl, inr}
use mathlib.Core.Bool.{Bool, true, false, not, ◌||◌}
use mathlib.Core.List.{List, [], ◌∷◌}
use lib.ListN.{get_or, get_or-eq_default}
use lib.Dec.{T, eqb}
use borrow.Author.Tests.{ne_eqb, not-true}
use types.Run.{OneOf}
use denote.Enum.Declared.{tag_of}
use Rattle.lists.specs.Lists.{All, all, all_below}
use Rattle.lists.proofs.Tests.{→true, true→, and_both}
use Rattle.lists.proofs.Below.{all_below→}
use Rattle.format.specs.StepForms as format
use Rattle.format.specs.StepForms.{rule_names, rule_of}
use Rattle.format.proofs.Faults.{not_both}
use Rattle.steps.specs.declared.Rule.{Rule}
use Rattle.steps.specs.declared.Rule.TheVariants.{Sum, Branch, Apart, AConf, SConf, SProp, LIntro, LValid, CCollapse, CValid, CInj, Card, Join, Unknown}
use Rattle.steps.specs.Conclusions.{conclusions_of}
use Rattle.steps.specs.declared.Conclusions.{Conclusions}
use Rattle.steps.specs.declared.Conclusions.TheVariants.{Nothing, One, Several}
use Rattle.steps.specs.Rules.{rule_named}
use Rattle.steps.specs.contracts.Rule.{the_type}

-- ---- by number

-- any other number names no rule
unnamed : (k : ℕ) → 14 ≤ k → rule_of k ≡ format.unknown
unnamed k h = get_or-eq_default rule_names format.unknown h

abbrev is_unknown : format.Rule → Bool
is_unknown format.sum = false
is_unknown format.branch = false
is_unknown format.apart = false
is_unknown format.a_conf = false
is_unknown format.s_conf = false
is_unknown format.s_prop = false
is_unknown format.l_intro = false
is_unknown format.l_valid = false
is_unknown format.c_collapse = false
is_unknown format.c_valid = false
is_unknown format.c_inj = false
is_unknown format.card = false
is_unknown format.join = false
is_unknown format.unknown = true

-- what holds of the 13 rules by their numbers, and of an unknown one, holds by any number
by_number : (t : ℕ → format.Rule → Bool) → ((k : ℕ) → T (t k format.unknown)) → T (all_below 14 (λ k. t k (rule_of k))) → (k : ℕ) → t k (rule_of k) ≡ true
by_number t other named k = go (dec_lt k 14)
  where
    go : Dec (k < 14) → t k (rule_of k) ≡ true
    go (yes l) = →true _ (all_below→ 14 (λ k. t k (rule_of k)) named k l)
    go (no n) = ap (t k) (unnamed k (omega arith)) ∙ →true _ (other k)

-- a number that is none of theirs
pub unnamed_left : (k : ℕ)
    → (k ≡ 1 → ⊥)
    → (k ≡ 2 → ⊥)
    → (k ≡ 3 → ⊥)
    → (k ≡ 4 → ⊥)
    → (k ≡ 5 → ⊥)
    → (k ≡ 6 → ⊥)
    → (k ≡ 7 → ⊥)
    → (k ≡ 8 → ⊥)
    → (k ≡ 9 → ⊥)
    → (k ≡ 10 → ⊥)
    → (k ≡ 11 → ⊥)
    → (k ≡ 12 → ⊥)
    → (k ≡ 13 → ⊥)
    → format.unknown ≡ rule_of k
unnamed_left k n1 n2 n3 n4 n5 n6 n7 n8 n9 n10 n11 n12 n13 =
    let t =
    by_number
    (λ k r. is_unknown r
    || (eqb k 1
    || (eqb k 2
    || (eqb k 3 || (eqb k 4 || (eqb k 5 || (eqb k 6 || (eqb k 7 || (eqb k 8 || (eqb k 9 || (eqb k 10 || (eqb k 11 || (eqb k 12 || eqb k 13)))))))))))))
    (λ k. tt) tt k in
    go (rule_of k)
    (rw (
      ne_eqb k 1 n1,
      ne_eqb k 2 n2,
      ne_eqb k 3 n3,
      ne_eqb k 4 n4,
      ne_eqb k 5 n5,
      ne_eqb k 6 n6,
      ne_eqb k 7 n7,
      ne_eqb k 8 n8,
      ne_eqb k 9 n9,
      ne_eqb k 10 n10,
      ne_eqb k 11 n11,
      ne_eqb k 12 n12,
      ne_eqb k 13 n13,
    )
    at t)
  where
    go : (r : format.Rule) → (is_unknown r || false) ≡ true → format.unknown ≡ r
    go format.sum e = absurd (not_both false e refl)
    go format.branch e = absurd (not_both false e refl)
    go format.apart e = absurd (not_both false e refl)
    go format.a_conf e = absurd (not_both false e refl)
    go format.s_conf e = absurd (not_both false e refl)
    go format.s_prop e = absurd (not_both false e refl)
    go format.l_intro e = absurd (not_both false e refl)
    go format.l_valid e = absurd (not_both false e refl)
    go format.c_collapse e = absurd (not_both false e refl)
    go format.c_valid e = absurd (not_both false e refl)
    go format.c_inj e = absurd (not_both false e refl)
    go format.card e = absurd (not_both false e refl)
    go format.join e = absurd (not_both false e refl)
    go format.unknown e = refl

-- ---- by the place of its name

abbrev names : List Rule
names =
    Sum ∷ Branch ∷ Apart ∷ AConf ∷ SConf ∷ SProp ∷ LIntro ∷ LValid ∷ CCollapse ∷ CValid ∷ CInj ∷ Card ∷ Join ∷ Unknown ∷ []

abbrev pub named : ℕ → Rule
named k = get_or names k Unknown

its_name : (r : Rule) → r ≡ named (tag_of the_type r)
its_name Sum = refl
its_name Branch = refl
its_name Apart = refl
its_name AConf = refl
its_name SConf = refl
its_name SProp = refl
its_name LIntro = refl
its_name LValid = refl
its_name CCollapse = refl
its_name CValid = refl
its_name CInj = refl
its_name Card = refl
its_name Join = refl
its_name Unknown = refl

-- what holds of each rule of an arm holds in it
pub in_arm : (P : Rule → Type 0) (ks : List ℕ) (r : Rule) → All (λ k. P (named k)) ks → OneOf ks (tag_of the_type r) → P r
in_arm P [] r ps o = absurd o
in_arm P (k ∷ []) r ps e = subst P (sym (its_name r ∙ ap named e)) ps.0
in_arm P (k ∷ j ∷ ks) r ps (inl e) = subst P (sym (its_name r ∙ ap named e)) ps.0
in_arm P (k ∷ j ∷ ks) r ps (inr o) = in_arm P (j ∷ ks) r ps.1 o

tested : (t : Rule → Bool) (ks : List ℕ) → T (all (λ k. t (named k)) ks) → All (λ k. t (named k) ≡ true) ks
tested t [] h = tt
tested t (k ∷ ks) h = let (x, y) = and_both (t (named k)) (all (λ k. t (named k)) ks) (→true _ h) in (x, tested t ks (true→ y))

pub passes : (t : Rule → Bool) (ks : List ℕ) (r : Rule) → T (all (λ k. t (named k)) ks) → OneOf ks (tag_of the_type r) → t r ≡ true
passes t ks r h o = in_arm (λ r. t r ≡ true) ks r (tested t ks h) o

-- ---- by the number of its conclusions

abbrev nothing : Conclusions → Bool
nothing Nothing = true
nothing One = false
nothing Several = false

abbrev one : Conclusions → Bool
one Nothing = false
one One = true
one Several = false

abbrev several : Conclusions → Bool
several Nothing = false
several One = false
several Several = true

-- arms of rules with another number of conclusions are not taken
other_arm : (is : Conclusions → Bool) (c : Conclusions)
    → is c ≡ true
    → (ks : List ℕ) (r : Rule)
    → T (all (λ k. not (is (conclusions_of (rule_named (named k))))) ks)
    → OneOf ks (tag_of the_type r) → conclusions_of (rule_named r) ≡ c → ⊥
other_arm is c e ks r h o q =
    not_both (is (conclusions_of (rule_named r))) (ap is q ∙ e) (not-true _ (passes (λ r. not (is (conclusions_of (rule_named r)))) ks r h o))

module _ (ks : List ℕ) (r : Rule) where
  pub not_closing : T (all (λ k. not (nothing (conclusions_of (rule_named (named k))))) ks)
      → OneOf ks (tag_of the_type r)
      → conclusions_of (rule_named r) ≡ Nothing
      → ⊥
  not_closing h o = other_arm nothing Nothing refl ks r h o

  pub not_one : T (all (λ k. not (one (conclusions_of (rule_named (named k))))) ks) → OneOf ks (tag_of the_type r) → conclusions_of (rule_named r) ≡ One → ⊥
  not_one h o = other_arm one One refl ks r h o

  pub not_several : T (all (λ k. not (several (conclusions_of (rule_named (named k))))) ks)
      → OneOf ks (tag_of the_type r)
      → conclusions_of (rule_named r) ≡ Several
      → ⊥
  not_several h o = other_arm several Several refl ks r h o
