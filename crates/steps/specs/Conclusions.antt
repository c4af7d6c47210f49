-- How many conclusions a rule has: "a rule with one conclusion or none", and the rules that split a branch.
use Rattle.format.specs.StepForms.{Rule, sum, branch, apart, a_conf, s_conf, s_prop, l_intro, l_valid, c_collapse, c_valid, c_inj, card, join, unknown}
use Rattle.steps.specs.declared.Conclusions.{Conclusions}
use Rattle.steps.specs.declared.Conclusions.TheVariants.{Nothing, One, Several}

-- A-Conf and S-Conf close a branch; an unknown rule, which is out of range, concludes nothing
abbrev pub conclusions_of : Rule → Conclusions
conclusions_of sum = One
conclusions_of branch = Several
conclusions_of apart = Several
conclusions_of a_conf = Nothing
conclusions_of s_conf = Nothing
conclusions_of s_prop = One
conclusions_of l_intro = One
conclusions_of l_valid = Several
conclusions_of c_collapse = One
conclusions_of c_valid = Several
conclusions_of c_inj = Several
conclusions_of card = Several
conclusions_of join = One
conclusions_of unknown = Nothing
