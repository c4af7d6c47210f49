-- A step that is ready to be taken: what it offers, and what its body holds by its rule.
use Prim.Native.Nat.{ℕ, ◌+◌, ◌≤◌, ◌<◌}
use native.Mathlib.Omega.{arith}
use mathlib.Core.Path.{◌≡◌, refl, sym, ◌∙◌, ap}
use mathlib.Core.Bool.{true, false}
use mathlib.Core.Option.{Option}
use mathlib.Core.List.{List, [], ◌∷◌}
use lib.ListN.{length}
use lib.IntN.{ℤ}
use Rattle.calculus.specs.Facts.{Fact, Branch}
use Rattle.calculus.specs.Steps.{shape}
use Rattle.format.specs.Fields.{u16}
use Rattle.format.specs.StepForms.{Rule, l_intro, l_valid, c_collapse, c_valid, unknown, form_for, fits_form, rule, are_variables, operands_in_range, step_of, step_at}
use Rattle.format.proofs.Faults.{not_both}
use Rattle.format.proofs.Decoded.{at_least, below→}
use Rattle.question.specs.declared.Progress.{Progress}
use Rattle.question.specs.Posed.{asked}
use Rattle.rows.specs.Rows.{branch_of}
use Rattle.steps.specs.Offered.{offered}
use Rattle.steps.specs.declared.Rule as named
use Rattle.steps.specs.declared.Conclusions.{Conclusions}
use Rattle.steps.specs.Rules.{rule_named, shape_of}
use Rattle.steps.specs.Conclusions.{conclusions_of}
use Rattle.steps.specs.Ready.{Ready, ReadyBy}
use Rattle.steps.proofs.Table.{fits_by, least_four}

module _ {b : List ℕ} {s : Progress} {body m : ℕ} {w : List ℤ} {count : ℕ} (h : Ready b s body m w count) where
  -- the branch, and the step's children on it
  abbrev pub before : Branch
  before = branch_of w count

  abbrev pub given : Option (List (List Fact))
  given = offered b (asked b s) before body m

  -- rule and child
  pub four_bytes : body + 4 ≤ length b
  four_bytes = let within = h.formed.within in omega (arith, at_least (form_for (rule b body)) m h.formed.fits, least_four (rule b body))

  module _ (r : Rule) (e : r ≡ rule b body) where
    pub fitting : fits_form (form_for r) m ≡ true
    fitting = fits_by b body m r e h.formed.fits

    pub long : (form_for r).least ≤ m
    long = at_least (form_for r) m fitting

    pub ranged : operands_in_range b s.p (s.q + (s.p + s.p)) r body m ≡ true
    unfolding asked
    ranged = ap (λ q. operands_in_range b s.p (s.q + (s.p + s.p)) q body m) e ∙ h.formed.is_in_range

  -- L-Intro, L-Valid, C-Collapse and C-Valid: the variable
  abbrev Variable : Type 0
  Variable = (body + 4 + 2 ≤ length b) × (u16 b (body + 4) < s.p)

  one_variable : 6 ≤ m → are_variables s.p (u16 b (body + 4) ∷ []) ≡ true → Variable
  one_variable l e = let within = h.formed.within in (omega arith, (below→ s.p (u16 b (body + 4) ∷ []) e).0)

  pub l_intro_variable : l_intro ≡ rule b body → Variable
  unfolding operands_in_range
  l_intro_variable e = one_variable (long l_intro e) (ranged l_intro e)

  pub l_valid_variable : l_valid ≡ rule b body → Variable
  unfolding operands_in_range
  l_valid_variable e = one_variable (long l_valid e) (ranged l_valid e)

  pub c_collapse_variable : c_collapse ≡ rule b body → Variable
  unfolding operands_in_range
  c_collapse_variable e = one_variable (long c_collapse e) (ranged c_collapse e)

  pub c_valid_variable : c_valid ≡ rule b body → Variable
  unfolding operands_in_range
  c_valid_variable e = one_variable (long c_valid e) (ranged c_valid e)

  -- an unknown rule's operands are out of range
  pub not_unknown : unknown ≡ rule b body → ⊥
  unfolding operands_in_range
  not_unknown e = not_both false (ranged unknown e) refl

-- ---- by a rule under its name

module _ {r : named.Rule} {c : Conclusions} {b : List ℕ} {s : Progress} {body m : ℕ} {w : List ℤ} {count : ℕ} (h : ReadyBy r c b s body m w count) where
  pub is_rule : (q : named.Rule) → r ≡ q → rule_named q ≡ rule b body
  is_rule q e = sym (ap rule_named e) ∙ h.named

  pub its_kind : conclusions_of (rule b body) ≡ c
  its_kind = sym (ap conclusions_of h.named) ∙ h.concludes

  pub form_fits : fits_form (form_for (rule_named r)) m ≡ true
  form_fits = fitting h.ready (rule_named r) h.named

  pub shape_by : (n : ℕ) → shape_of r n b body m ≡ shape n (step_at b body m)
  shape_by n = ap (λ (q : Rule). shape n (step_of b q body m)) h.named
