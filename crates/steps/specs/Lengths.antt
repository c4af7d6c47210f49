-- The lengths of steps' bodies as the code works them out: "Work out the operand length of each rule instead of storing the table of step forms." Rule and
-- child, 4 bytes, are counted in.
use Rattle.std.specs.Prelude.{ℕ, ◌+◌, ◌-◌, Bool, ◌&&◌, leb, eqb}
use Rattle.calculus.specs.Limits.{ticket_bytes, variable_limit, column_limit, summand_limit}
use Rattle.format.specs.StepForms.{Rule, sum, branch, apart, a_conf, s_conf, s_prop, l_intro, l_valid, c_collapse, c_valid}
use Rattle.format.specs.StepForms.{c_inj, card, join, unknown, rule_of, form, fits_form}

-- the least length, or up to `greatest` times `stride` more
abbrev pub counted : ℕ → ℕ → ℕ → ℕ → Bool
counted m least stride greatest = fits_form (form least stride greatest) m

-- by the rule, for a body of m bytes within the limit below
abbrev pub fits_rule : Rule → ℕ → Bool
fits_rule sum m = counted m 14 6 (summand_limit - 1)
fits_rule branch m = counted m 8 6 column_limit
fits_rule apart m = eqb m 6
fits_rule a_conf m = eqb m 6
fits_rule s_conf m = eqb m 4
fits_rule s_prop m = eqb m 10
fits_rule l_intro m = eqb m 6
fits_rule l_valid m = eqb m 6
fits_rule c_collapse m = eqb m 6
fits_rule c_valid m = eqb m 6
fits_rule c_inj m = eqb m 8
fits_rule card m = counted m 8 2 (variable_limit - 2)
fits_rule join m = eqb m 8
-- "for an unknown rule, only when under 4 bytes"
fits_rule unknown m = leb 4 m

-- up to here `form_for` takes a body of an unknown rule; those of the others are shorter
abbrev pub body_limit : ℕ
body_limit = 4 + ticket_bytes

-- by the rule's number, known or not
abbrev pub worked_out : ℕ → ℕ → Bool
worked_out k m = leb m body_limit && fits_rule (rule_of k) m
