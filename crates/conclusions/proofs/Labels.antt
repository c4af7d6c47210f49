-- Rules that ask for classes.
use Prim.Native.Nat.{ℕ}
use mathlib.Core.Path.{◌≡◌, refl, sym, ◌∙◌, ap, subst}
use mathlib.Core.Bool.{Bool, true, false}
use mathlib.Core.List.{List}
use native.Mathlib.Omega.{arith}
use lib.IntN.{ℤ}
use Rattle.calculus.specs.Classes.{labels}
use Rattle.rows.specs.Rows.{branch_of}
use Rattle.classes.specs.declared.Known.{Known}
use Rattle.classes.specs.Classes.{Knows}
use Rattle.steps.specs.declared.Rule.{Rule}
use Rattle.steps.specs.Rules.{rule_named}
use Rattle.conclusions.specs.Labels.{asks_classes, KnownFor, Labelled}

-- in the arm of a match that is taken by one rule
pub asks : (r q : Rule) → r ≡ q → asks_classes (rule_named q) ≡ true → asks_classes (rule_named r) ≡ true
asks r q e a = ap (λ (p : Rule). asks_classes (rule_named p)) e ∙ a

-- what is known for a rule is known of the branch, and has the labels that the rule asks for
pub known_for : {r : Rule} {known k : Known} {w : List ℤ} {count : ℕ} → Knows w count known → KnownFor r known w count k
    → Knows w count k × Labelled r k.labels w count
known_for {r} {known} {k} {w} {count} h f = (go (asks_classes (rule_named r)) refl, λ a. (f.brought a).1)
  where
    go : (t : Bool) → asks_classes (rule_named r) ≡ t → Knows w count k
    go true a =
        let (up, e) = f.brought a in
        record { few = omega (arith, up); labelled = e ∙ ap (λ (n : ℕ). labels (branch_of w n)) (sym up) }
    go false a = subst (λ (x : Known). Knows w count x) (sym (f.kept a)) h
