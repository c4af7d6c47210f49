-- Rules by how many conclusions they have: the children that their steps show.
use Prim.Native.Nat.{ℕ, zero, suc, ◌-◌, ◌/◌, ◌≤◌}
use native.Mathlib.Omega.{arith}
use mathlib.Core.Path.{◌≡◌, refl, sym, ◌∙◌, ap, subst}
use mathlib.Core.Bool.{true}
use mathlib.Core.List.{List, [], ◌∷◌}
use lib.ListN.{length}
use lib.Dec.{leb}
use borrow.Author.Tests.{leb-true}
use Rattle.lists.proofs.Tests.{and_both}
use Rattle.calculus.specs.Steps.{shape, pair_count}
use Rattle.format.specs.StepForms.{Rule, sum, branch, apart, a_conf, s_conf, s_prop, l_intro, l_valid, c_collapse, c_valid, c_inj}
use Rattle.format.specs.StepForms.{card, join, unknown, form_for, fits_form, rule, length_fits, step_of, step_at, is_child}
use Rattle.format.proofs.Faults.{clash}
use Rattle.format.proofs.Decoded.{at_least}
use Rattle.steps.specs.Conclusions.{conclusions_of}
use Rattle.steps.specs.declared.Conclusions.{Conclusions}
use Rattle.steps.specs.declared.Conclusions.TheVariants.{Nothing, One, Several}
use Rattle.steps.proofs.Children.{card_count}

-- every rule with one conclusion has an operand
pub six_bytes : (r : Rule) → conclusions_of r ≡ One → 6 ≤ (form_for r).least
six_bytes sum e = omega arith
six_bytes branch e = clash cc
six_bytes apart e = clash cc
six_bytes a_conf e = clash cc
six_bytes s_conf e = clash cc
six_bytes s_prop e = omega arith
six_bytes l_intro e = omega arith
six_bytes l_valid e = clash cc
six_bytes c_collapse e = omega arith
six_bytes c_valid e = clash cc
six_bytes c_inj e = clash cc
six_bytes card e = clash cc
six_bytes join e = omega arith
six_bytes unknown e = clash cc

-- ---- the children that a step shows

abbrev Shows : Conclusions → List ℕ → Type 0
Shows Nothing sh = sh ≡ []
Shows One sh = sh ≡ 1 ∷ []
Shows Several sh = 1 ≤ length sh

some_pair : (k : ℕ) → 2 ≤ k → 1 ≤ pair_count k
some_pair zero h = absurd (omega arith)
some_pair (suc zero) h = absurd (omega arith)
some_pair (suc (suc k)) h = omega arith

module _ (b : List ℕ) (n body m : ℕ) where
  by_rule : (r : Rule) → fits_form (form_for r) m ≡ true → Shows (conclusions_of r) (shape n (step_of b r body m))
  unfolding shape step_of
  by_rule sum f = refl
  by_rule branch f = omega arith
  by_rule apart f = omega arith
  by_rule a_conf f = refl
  by_rule s_conf f = refl
  by_rule s_prop f = refl
  by_rule l_intro f = refl
  by_rule l_valid f = omega arith
  by_rule c_collapse f = refl
  by_rule c_valid f = omega arith
  by_rule c_inj f = omega arith
  by_rule card f =
      let long = at_least (form_for card) m f in
      omega (arith, card_count b n body m, some_pair ((m - 4) / 2) (omega arith))
  by_rule join f = refl
  by_rule unknown f = refl

  module _ (f : length_fits b body m ≡ true) where
    shows : (c : Conclusions) → conclusions_of (rule b body) ≡ c → Shows c (shape n (step_at b body m))
    shows c e = subst (λ (c : Conclusions). Shows c (shape n (step_at b body m))) e (by_rule (rule b body) f)

    pub no_child : conclusions_of (rule b body) ≡ Nothing → shape n (step_at b body m) ≡ []
    no_child e = shows Nothing e

    pub one_child : conclusions_of (rule b body) ≡ One → shape n (step_at b body m) ≡ 1 ∷ []
    one_child e = shows One e

    pub some_child : conclusions_of (rule b body) ≡ Several → 1 ≤ length (shape n (step_at b body m))
    some_child e = shows Several e

-- ---- the child taken

pub child_between : (sh : List ℕ) (k : ℕ) → 1 ≤ length sh → is_child sh k ≡ true → (1 ≤ k) × (k ≤ length sh)
child_between [] k h e = absurd (omega arith)
child_between (c ∷ sh) k h e =
    let (l, g) = and_both (leb 1 k) (leb k (suc (length sh))) e in (leb-true 1 k l, leb-true k (suc (length sh)) g)

-- "it is 1 for a rule with one conclusion or none"
pub only_child : (b : List ℕ) (n body m k : ℕ)
    → length_fits b body m ≡ true
    → conclusions_of (rule b body) ≡ One
    → is_child (shape n (step_at b body m)) k ≡ true
    → k ≡ 1
only_child b n body m k f e h =
    let (l, g) = child_between (1 ∷ []) k (omega arith) (ap (λ sh. is_child sh k) (sym (one_child b n body m f e)) ∙ h) in omega arith
