-- The rules that ask for classes, and labels for a step by a rule.
use Rattle.std.specs.Prelude.{ℕ, ◌≡◌, Bool, true, false, List, ℤ}
use Rattle.calculus.specs.Classes.{labels}
use Rattle.format.specs.StepForms as format
use Rattle.rows.specs.Rows.{branch_of}
use Rattle.classes.specs.declared.Known.{Known}
use Rattle.steps.specs.declared.Rule.{Rule}
use Rattle.steps.specs.Rules.{rule_named}

-- S-Conf, S-Prop, L-Intro and C-Collapse speak of classes
abbrev pub asks_classes : format.Rule → Bool
asks_classes format.sum = false
asks_classes format.branch = false
asks_classes format.apart = false
asks_classes format.a_conf = false
asks_classes format.s_conf = true
asks_classes format.s_prop = true
asks_classes format.l_intro = true
asks_classes format.l_valid = false
asks_classes format.c_collapse = true
asks_classes format.c_valid = false
asks_classes format.c_inj = false
asks_classes format.card = false
asks_classes format.join = false
asks_classes format.unknown = false

-- what is known where a step is by a rule, on the first count rows of the work area: all of them where it asks for classes, else what was known
pub record KnownFor (r : Rule) (known : Known) (w : List ℤ) (count : ℕ) (k : Known) : Type 0 where
  pub brought : asks_classes (rule_named r) ≡ true → (k.upto ≡ count) × (k.labels ≡ labels (branch_of w count))
  pub kept : asks_classes (rule_named r) ≡ false → k ≡ known

-- where the rule asks for classes, the labels are those of the first count rows of the work area
abbrev pub Labelled : Rule → List ℕ → List ℤ → ℕ → Type 0
Labelled r ls w count = asks_classes (rule_named r) ≡ true → ls ≡ labels (branch_of w count)
