-- The lengths that the code works out are those of document 01's table of step forms: no ticket's outcome differs.
use Prim.Native.Nat.{ℕ, ◌-◌, ◌≤◌, ◌<◌}
use native.Mathlib.Omega.{arith}
use native.Mathlib.Nat.{mod-one, div-one}
use native.Mathlib.Decide.{dec_lt}
use mathlib.Core.Path.{◌≡◌, refl, sym, ◌∙◌, ap₂}
use mathlib.Core.Bool.{false, ◌&&◌, and-true}
use lib.Dec.{leb, eqb}
use borrow.Author.Tests.{eq-eqb, ne_eqb, le-leb, lt-leb}
use Rattle.calculus.specs.Limits.{ticket_bytes}
use Rattle.format.specs.StepForms.{Rule, sum, branch, apart, a_conf, s_conf, s_prop, l_intro, l_valid, c_collapse, c_valid}
use Rattle.format.specs.StepForms.{c_inj, card, join, unknown, rule_of, form, form_for, fits_form}
use Rattle.steps.specs.Lengths.{fits_rule, body_limit, worked_out}
use Rattle.steps.proofs.Table.{too_many}

-- a form of stride 1 is an interval
stride_one : (least greatest m : ℕ) → leb least m && leb (m - least) greatest ≡ fits_form (form least 1 greatest) m
stride_one least greatest m = sym (ap₂ (λ r q. leb least m && (eqb r 0 && leb q greatest)) (mod-one (m - least)) (div-one (m - least)))

-- a form of one length
one_length : (least m : ℕ) → eqb m least ≡ fits_form (form least 1 0) m
one_length least m = go (dec_lt m least) (dec_lt least m) ∙ stride_one least 0 m
  where
    go : Dec (m < least) → Dec (least < m) → eqb m least ≡ leb least m && leb (m - least) 0
    go (yes l) _ = rw (ne_eqb m least (λ e. omega arith), lt-leb least m l)
    go (no l) (yes g) = rw (ne_eqb m least (λ e. omega arith), le-leb least m (omega arith), lt-leb (m - least) 0 (omega arith))
    go (no l) (no g) = rw (eq-eqb m least (omega arith), le-leb least m (omega arith), le-leb (m - least) 0 (omega arith))

-- a longer body fits no rule
too_long : (m : ℕ) → body_limit < m → (r : Rule) → fits_form (form_for r) m ≡ false
too_long m h sum = too_many (form_for sum) m (omega arith)
too_long m h branch = too_many (form_for branch) m (omega arith)
too_long m h apart = too_many (form_for apart) m (omega arith)
too_long m h a_conf = too_many (form_for a_conf) m (omega arith)
too_long m h s_conf = too_many (form_for s_conf) m (omega arith)
too_long m h s_prop = too_many (form_for s_prop) m (omega arith)
too_long m h l_intro = too_many (form_for l_intro) m (omega arith)
too_long m h l_valid = too_many (form_for l_valid) m (omega arith)
too_long m h c_collapse = too_many (form_for c_collapse) m (omega arith)
too_long m h c_valid = too_many (form_for c_valid) m (omega arith)
too_long m h c_inj = too_many (form_for c_inj) m (omega arith)
too_long m h card = too_many (form_for card) m (omega arith)
too_long m h join = too_many (form_for join) m (omega arith)
too_long m h unknown = too_many (form_for unknown) m (omega arith)

-- one within the limit fits as the code says
by_rule : (m : ℕ) → m ≤ body_limit → (r : Rule) → fits_rule r m ≡ fits_form (form_for r) m
by_rule m h sum = refl
by_rule m h branch = refl
by_rule m h apart = one_length 6 m
by_rule m h a_conf = one_length 6 m
by_rule m h s_conf = one_length 4 m
by_rule m h s_prop = one_length 10 m
by_rule m h l_intro = one_length 6 m
by_rule m h l_valid = one_length 6 m
by_rule m h c_collapse = one_length 6 m
by_rule m h c_valid = one_length 6 m
by_rule m h c_inj = one_length 8 m
by_rule m h card = refl
by_rule m h join = one_length 8 m
by_rule m h unknown = sym (and-true (leb 4 m)) ∙ rw (le-leb (m - 4) ticket_bytes (omega arith)) at (stride_one 4 ticket_bytes m)

-- for every number, known or not, and every length, those under 4 included
pub worked_out_law : (k m : ℕ) → worked_out k m ≡ fits_form (form_for (rule_of k)) m
worked_out_law k m = go (dec_lt body_limit m)
  where
    go : Dec (body_limit < m) → worked_out k m ≡ fits_form (form_for (rule_of k)) m
    go (yes h) = rw (lt-leb m body_limit h, too_long m h (rule_of k))
    go (no n) = rw (le-leb m body_limit (omega arith)) (by_rule m (omega arith) (rule_of k))
