-- "9 when a new number passes the limit": of the rules with one conclusion only Sum can.
use Prim.Native.Nat.{ℕ, ◌≤◌}
use native.Mathlib.Omega.{arith}
use mathlib.Core.Path.{◌≡◌, sym, ◌∙◌, ap}
use mathlib.Core.Bool.{true}
use mathlib.Core.List.{List}
use lib.ListN.{drop}
use lib.IntN.{ℤ, pos, neg_ℤ, nat_abs}
use Rattle.integers.proofs.Laws.{abs_neg}
use Rattle.calculus.specs.Limits.{number_limit}
use Rattle.calculus.specs.Facts.{arithmetic, eq, Function, len, code, literal, value_of}
use Rattle.calculus.specs.Rules.{join_of}
use Rattle.format.specs.Checking.{fits, fact_within}
use Rattle.rows.specs.Rows.{fact_of}
use Rattle.rows.specs.Work.{single}
use Rattle.rows.proofs.Small.{within_single}
use Rattle.rows.proofs.Tested.{joinable_within, joined_first}
use Rattle.question.specs.declared.Progress.{Progress}
use Rattle.question.specs.Posed.{asked, Posed}
use Rattle.question.proofs.Posed.{literal_short, literal_code}

-- ---- L-Intro and C-Collapse

-- the value of a literal: a length or a code
module _ {b : List ℕ} {s : Progress} (h : Posed b s) where
  small_value : (f : Function) (l : ℕ) → l ≤ s.literals → nat_abs (value_of f (literal (asked b s) l)) ≤ number_limit
  small_value len l g = omega (arith, literal_short h l g)
  small_value code l g = omega (arith, literal_code h l g)

  pub literal_within : (f : Function) (l i : ℕ) (z : ℤ) → l ≤ s.literals → z ≡ neg_ℤ (value_of f (literal (asked b s) l))
      → fact_within (arithmetic eq (single z i (pos 1))) ≡ true
  literal_within f l i z g e =
      let v : nat_abs z ≡ nat_abs (value_of f (literal (asked b s) l)) = ap nat_abs e ∙ abs_neg (value_of f (literal (asked b s) l)) in
      within_single z i (pos 1) (omega (arith, v, small_value f l g)) (omega arith)

-- ---- Join

pub join_within : (row other : List ℤ)
    → fits (join_of (fact_of row) (fact_of other)) ≡ true
    → fact_within (fact_of row) ≡ true
    → fact_within (arithmetic eq (drop 1 row)) ≡ true
join_within row other e h = sym (joinable_within row (joined_first row other e)) ∙ h
