-- What holds of every form in document 01's table of step forms.
use Prim.Native.Nat.{ℕ, ◌-◌, ◌/◌, ◌%◌, ◌≤◌, ◌<◌}
use native.Mathlib.Omega.{arith}
use mathlib.Core.Path.{◌≡◌, ◌∙◌, ap}
use mathlib.Core.Bool.{true, false, and-false}
use mathlib.Core.List.{List}
use lib.Dec.{leb, eqb}
use borrow.Author.Tests.{leb-true, lt-leb}
use Rattle.lists.proofs.Tests.{and_both}
use Rattle.format.specs.StepForms.{Rule, sum, branch, apart, a_conf, s_conf, s_prop, l_intro, l_valid, c_collapse, c_valid}
use Rattle.format.specs.StepForms.{c_inj, card, join, unknown, Form, form_for, fits_form, rule, length_fits}

-- a length that fits is at most so many strides over the least
pub at_most : (f : Form) (m : ℕ) → fits_form f m ≡ true → (m - f.least) / f.stride ≤ f.greatest
at_most f m e = leb-true _ f.greatest (and_both (eqb ((m - f.least) % f.stride) 0) _ (and_both (leb f.least m) _ e).1).1

-- so more strides do not fit
pub too_many : (f : Form) (m : ℕ) → f.greatest < (m - f.least) / f.stride → fits_form f m ≡ false
too_many f m h = rw (lt-leb ((m - f.least) / f.stride) f.greatest h, and-false (eqb ((m - f.least) % f.stride) 0), and-false (leb f.least m))

-- the form by the rule
pub fits_by : (b : List ℕ) (body m : ℕ) (r : Rule) → r ≡ rule b body → length_fits b body m ≡ true → fits_form (form_for r) m ≡ true
fits_by b body m r e f = ap (λ q. fits_form (form_for q) m) e ∙ f

-- rule and child are counted in
pub least_four : (r : Rule) → 4 ≤ (form_for r).least
least_four sum = omega arith
least_four branch = omega arith
least_four apart = omega arith
least_four a_conf = omega arith
least_four s_conf = omega arith
least_four s_prop = omega arith
least_four l_intro = omega arith
least_four l_valid = omega arith
least_four c_collapse = omega arith
least_four c_valid = omega arith
least_four c_inj = omega arith
least_four card = omega arith
least_four join = omega arith
least_four unknown = omega arith
