use Prim.Native.Nat.{◌≤◌, ℕ}
use Rattle.std.proofs.Common.{rules, tests}
use lib.IntN.{◌*ℤ◌, nat_abs, pos, ℤ}
use lib.ListN.{drop, get_or, set}
use lib.Signed.{quot_z}
use mathlib.Core.Bool.{false, true}
use mathlib.Core.List.{List}
use mathlib.Core.Option.{some}
use mathlib.Core.Path.{◌∙◌, ◌≡◌, ap, ap₂, refl, subst, sym}
use mir.Facts.{to_z-of_z}
use mir.Syntax.{w64}
use mir.Val.{SFits, of_z, to_z}
use native.Mathlib.Omega.{arith}
use Rattle.integers.specs.Division.{floor_div}
use Rattle.calculus.specs.LinearForms.{eq_integers}
use Rattle.calculus.specs.Rules.{divided}
use Rattle.integers.proofs.Machine.{back_fits, div_need}
use Rattle.lists.proofs.Filled.{changing_done, changing_first, changing_more, kept_at}
use Rattle.rows.proofs.Tested.{eq_integers_done, eq_integers_fails, eq_integers_on, eqℤ_no, eqℤ_yes}
use Rattle.sums.proofs.Division.{divided_no, divided_yes, exact_no, exact_yes, length_multiples, multiple_number}
use Rattle.sums.proofs.Division.{multiples, partly, partly_constant, partly_whole, positive_is}
use Rattle.sums.specs.Sums.{ge_row, row_in}
use Rattle.sums.proofs.divide.Goals as goal
use Rattle.sums.proofs.divide.Goals.{After-loop-j, After-x-1, Else-q-d, Start, Then-q-d}

-- the divisor
module _ (c : Start) where
  abbrev n : ℕ
  n = nat_abs (to_z w64 (of_z w64 c.args.d))

  plain : to_z w64 (of_z w64 c.args.d) ≡ c.args.d
  plain = to_z-of_z c.ranges.d

  bound : 1 ≤ n
  bound = subst (λ (d : ℤ). 1 ≤ nat_abs d) (sym plain) (positive_is c.args.d c.requires.0).1

  is : to_z w64 (of_z w64 c.args.d) ≡ pos n
  is = plain ∙ (positive_is c.args.d c.requires.0).0 ∙ ap (λ (d : ℤ). pos (nat_abs d)) (sym plain)

-- the number read, and its quotient
module _ (c : After-x-1) where
  abbrev row : List ℤ
  row = c.args.row.now

  abbrev x : ℤ
  x = get_or c.loop-j.row c.loop-j.j (pos 0)

  was : x ≡ get_or row c.loop-j.j (pos 0)
  was = kept_at c.loop-j.row row c.loop-j.j (pos 0) c.loop-j.invariant.0.4

  fx : SFits w64 x
  fx = record { sfits = c.x-1.given }

  abbrev k : ℕ
  k = n (goal.at.After-x-1 c).Start

  fq : SFits w64 (quot_z x (pos k))
  fq = rw (to_z-of_z fx, is (goal.at.After-x-1 c).Start) at (div_need w64 x c.args.d fx c.ranges.d c.requires.0).1

  quotient_is : to_z w64 (of_z w64 (quot_z (to_z w64 (of_z w64 x)) (to_z w64 (of_z w64 c.args.d)))) ≡ quot_z x (pos k)
  quotient_is = ap₂ (λ (a b : ℤ). to_z w64 (of_z w64 (quot_z a b))) (to_z-of_z fx) (is (goal.at.After-x-1 c).Start) ∙ to_z-of_z fq

  back : to_z w64 (of_z w64 (quot_z (to_z w64 (of_z w64 x)) (to_z w64 (of_z w64 c.args.d)))) *ℤ to_z w64 (of_z w64 c.args.d) ≡ quot_z x (pos k) *ℤ pos k
  back = ap₂ ◌*ℤ◌ quotient_is (is (goal.at.After-x-1 c).Start)

  fb : SFits w64 (quot_z x (pos k) *ℤ pos k)
  fb = back_fits x k fx

-- the test: the quotient times the divisor is the number, or not
exact : (c : Else-q-d)
    → quot_z (x (goal.at.Else-q-d c).After-x-1) (pos (k (goal.at.Else-q-d c).After-x-1)) *ℤ pos (k (goal.at.Else-q-d c).After-x-1)
    ≡ x (goal.at.Else-q-d c).After-x-1
exact c =
    sym (to_z-of_z (fb (goal.at.Else-q-d c).After-x-1))
    ∙ ap (λ (z : ℤ). to_z w64 (of_z w64 z)) (sym (back (goal.at.Else-q-d c).After-x-1))
    ∙ ap (to_z w64) c.if-q-d.false
    ∙ to_z-of_z (fx (goal.at.Else-q-d c).After-x-1)

inexact : (c : Then-q-d)
    → quot_z (x (goal.at.Then-q-d c).After-x-1) (pos (k (goal.at.Then-q-d c).After-x-1)) *ℤ pos (k (goal.at.Then-q-d c).After-x-1)
    ≡ x (goal.at.Then-q-d c).After-x-1
    → ⊥
inexact c e = c.if-q-d.true (ap (of_z w64) (back (goal.at.Then-q-d c).After-x-1 ∙ e))

-- after the loop: every column is divided
module _ (c : After-loop-j) where
  exit : c.loop-j.row ≡ partly c.args.row.now (n (goal.at.After-loop-j c).Start)
  exit =
      let l = c.loop-j in
      let row = c.args.row.now in
      changing_done 2 (λ x. floor_div x (n (goal.at.After-loop-j c).Start)) row l.row l.j l.invariant.0 (omega arith)

  exit-constant : get_or c.loop-j.row 1 (pos 0) ≡ get_or c.args.row.now 1 (pos 0)
  exit-constant =
      ap (λ (l : List ℤ). get_or l 1 (pos 0)) exit ∙ partly_constant c.args.row.now (n (goal.at.After-loop-j c).Start) (search rules)

pub loop-j-init : goal.loop-j-init
loop-j-init c = (changing_first 2 (λ x. floor_div x (n c)) c.args.row.now (omega arith), refl)

pub nonzero_div-q : goal.nonzero_div-q
nonzero_div-q c = div_need w64 (x c) c.args.d (fx c) c.ranges.d c.requires.0

pub overflow_mul-q : goal.overflow_mul-q
overflow_mul-q c = rw (back c) (fb c)

pub returns-then-q-d : goal.returns-then-q-d
unfolding row_in
returns-then-q-d c =
    let here = (goal.at.returns-then-q-d c).After-x-1 in
    let l = c.loop-j in
    let g = length_multiples (row here) (k here) in
    let e =
    eqℤ_no (get_or (multiples (row here) (k here)) l.j (pos 0))
    (get_or (row here) l.j (pos 0))
    (λ e. exact_no (x here) (k here) (bound (goal.at.returns-then-q-d c).Start) (inexact c)
    (ap (λ (z : ℤ). pos (k here) *ℤ floor_div z (k here))
    (was here)
    ∙ sym (multiple_number (row here) (k here) l.j (omega arith))
    ∙ e
    ∙ sym (was here))) in
    let f : eq_integers (drop 2 (multiples (row here) (k here)))
    (drop 2 (row here))
    ≡ false =
    sym l.invariant.1
    ∙ eq_integers_fails (multiples (row here) (k here))
    (row here) l.j (omega arith) (omega arith) e in
    sym (ap (λ (d : ℤ). ge_row (divided (nat_abs d) (drop 1 (row here)))) (sym (plain (goal.at.returns-then-q-d c).Start))
    ∙ ap ge_row (divided_no (row here) (k here) (search rules) f))

pub loop-j-preserved : goal.loop-j-preserved
loop-j-preserved c =
    let here = (goal.at.loop-j-preserved c).After-x-1 in
    let l = c.loop-j in
    let g = length_multiples (row here) (k here) in
    let (m, r) =
    exact_yes (x here) (k here) (bound (goal.at.loop-j-preserved c).Start) (exact c) in
    let e =
    eqℤ_yes (get_or (multiples (row here) (k here)) l.j (pos 0))
    (get_or (row here) l.j (pos 0))
    (multiple_number (row here) (k here) l.j (omega arith)
    ∙ ap (λ (z : ℤ). pos (k here) *ℤ floor_div z (k here))
    (sym (was here))
    ∙ m
    ∙ was here) in (
      changing_more 2 (λ z. floor_div z (k here)) (row here) l.row l.j l.invariant.0 _
          (pos 0) (omega arith) (quotient_is here ∙ r),
      eq_integers_on (multiples (row here) (k here))
          (row here) l.j (omega arith) (omega arith) e
          ∙ l.invariant.1,
    )

pub floor_div-requires : goal.floor_div-requires
floor_div-requires c = rw (to_z-of_z c.ranges.d) c.requires.0

pub returns : goal.returns
unfolding row_in
returns c =
    let here = (goal.at.returns c).Start in
    let l = c.loop-j in
    let row = c.args.row.now in
    let m = n here in
    let g = length_multiples row m in
    let f : eq_integers (drop 2 (multiples row m)) (drop 2 row) ≡ true =
    sym l.invariant.1 ∙ eq_integers_done (multiples row m) row l.j (omega arith) (omega arith) in
    let fc : SFits w64 (get_or l.row 1 (pos 0)) = search (rules, tests) in
    let fq : SFits w64 c.floor_div.result = record { sfits = c.floor_div.type_inv } in
    let q : to_z w64 (of_z w64 c.floor_div.result) ≡ floor_div (get_or row 1 (pos 0)) m =
    to_z-of_z fq ∙ c.floor_div.ensures ∙ ap (λ (z : ℤ). floor_div z m) (to_z-of_z fc ∙ exit-constant (goal.at.returns c).After-loop-j) in
    ap (λ (r : List ℤ). some (set r 1 (to_z w64 (of_z w64 c.floor_div.result)))) (exit (goal.at.returns c).After-loop-j)
    ∙ ap some (partly_whole row m _ (search rules) c.requires.1 q)
    ∙ sym (ap (λ (d : ℤ). ge_row (divided (nat_abs d) (drop 1 row))) (sym (plain here))
    ∙ ap ge_row (divided_yes row m (bound here) (search rules) f))
