-- The rules by name, as the code has them.
use Rattle.std.specs.Prelude.{ℕ, Bool, true, false, List}
use Rattle.calculus.specs.Steps.{shape}
use Rattle.format.specs.StepForms as format
use Rattle.format.specs.StepForms.{step_of}
use Rattle.steps.specs.declared.Rule.{Rule}
use Rattle.steps.specs.declared.Rule.TheVariants.{Sum, Branch, Apart, AConf, SConf, SProp, LIntro, LValid, CCollapse, CValid, CInj, Card, Join, Unknown}

abbrev pub rule_named : Rule → format.Rule
rule_named Sum = format.sum
rule_named Branch = format.branch
rule_named Apart = format.apart
rule_named AConf = format.a_conf
rule_named SConf = format.s_conf
rule_named SProp = format.s_prop
rule_named LIntro = format.l_intro
rule_named LValid = format.l_valid
rule_named CCollapse = format.c_collapse
rule_named CValid = format.c_valid
rule_named CInj = format.c_inj
rule_named Card = format.card
rule_named Join = format.join
rule_named Unknown = format.unknown

-- how many facts each child of a rule's step adds over n characters, where its body of m bytes stands at a position
abbrev pub shape_of : Rule → ℕ → List ℕ → ℕ → ℕ → List ℕ
shape_of r n b body m = shape n (step_of b (rule_named r) body m)

-- each child of the rule's steps adds one fact: C-Valid's add two and three
abbrev pub one_each : format.Rule → Bool
one_each format.sum = true
one_each format.branch = true
one_each format.apart = true
one_each format.a_conf = true
one_each format.s_conf = true
one_each format.s_prop = true
one_each format.l_intro = true
one_each format.l_valid = true
one_each format.c_collapse = true
one_each format.c_valid = false
one_each format.c_inj = true
one_each format.card = true
one_each format.join = true
one_each format.unknown = true
