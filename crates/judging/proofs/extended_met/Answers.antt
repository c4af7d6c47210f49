use Prim.Native.Nat.{ℕ, ◌+◌, ◌<◌, ◌≤◌}
use lib.IntN.{ℤ, pos}
use lib.ListN.{length, get_or}
use mathlib.Core.List.{List}
use mathlib.Core.Path.{◌≡◌, ◌∙◌, ap₂, subst, sym}
use mir.Syntax.{w64}
use mir.Val.{to_z, of_z}
use native.Mathlib.Omega.{arith}
use Rattle.calculus.specs.Extended.{upper, lower, to_int, from_int, precedes}
use Rattle.calculus.specs.LinearForms.{eqℤ}
use Rattle.calculus.specs.Strings.{eq_string}
use Rattle.format.specs.Fields.{u16}
use Rattle.format.specs.Places.{text_at}
use Rattle.format.specs.Records.{next}
use Rattle.question.specs.declared.Progress.{Progress}
use Rattle.judging.proofs.Constraints.{text_room}
use Rattle.judging.proofs.Functions as functions
use Rattle.judging.proofs.Functions.{value_small, integer_there}
use Rattle.judging.proofs.extended_met.Goals as goal
use Rattle.judging.proofs.extended_met.Goals.{After-u16_at-y}

-- ---- where the fields were read
module _ (c : After-u16_at-y) where
  abbrev b : List ℕ
  b = c.args.b.now

  abbrev v : List ℕ
  v = c.args.v.now

  abbrev s : Progress
  s = c.args.s

  abbrev places : List ℕ
  places = c.args.places.now

  abbrev values : List ℤ
  values = c.args.values.now

  abbrev at : ℕ
  at = c.args.at

  abbrev function : ℕ
  function = c.u16_at-function.result

  abbrev x : ℕ
  x = c.u16_at-x.result

  abbrev y : ℕ
  y = c.u16_at-y.result

  function_is : function ≡ u16 b at
  function_is = c.u16_at-function.ensures.0

  x-is : x ≡ u16 b (at + 2)
  x-is = c.u16_at-x.ensures.0

  y-is : y ≡ u16 b (at + 4)
  y-is = c.u16_at-y.ensures.0

  -- the function that was tested is the record's
  tested : {k : ℕ} → function ≡ k → u16 b at ≡ k
  tested e = sym function_is ∙ e

  not_tested : {k : ℕ} → (function ≡ k → ⊥) → u16 b at ≡ k → ⊥
  not_tested n e = n (function_is ∙ e)

  -- the operands by the function
  first_string : (function ≡ 2 → ⊥) → x < s.p
  first_string n = subst (λ z. z < s.p) (sym x-is) (functions.first_string b v s places values c.requires.0 at c.requires.2 (not_tested n))

  first_integer : function ≡ 2 → x < s.q
  first_integer e = subst (λ z. z < s.q) (sym x-is) (functions.first_integer b v s places values c.requires.0 at c.requires.2 (tested e))

  second_string : (function ≡ 3 → ⊥) → y < s.p
  second_string n = subst (λ z. z < s.p) (sym y-is) (functions.second_string b v s places values c.requires.0 at c.requires.2 (not_tested n))

  second_integer : function ≡ 3 → y < s.q
  second_integer e = subst (λ z. z < s.q) (sym y-is) (functions.second_integer b v s places values c.requires.0 at c.requires.2 (tested e))

  -- a string variable has a place, and its record is whole there
  place-there : (i : ℕ) → i < s.p → i < length places
  place-there i h = omega (arith, c.requires.0.texts.enough)

  text_there : (i : ℕ) → i < s.p → next v (get_or places i 0) ≤ length v
  text_there i h = text_room b v s places c.requires.0.texts i h

  value_there : (i : ℕ) → i < s.q → i < length values
  value_there i h = integer_there b v s places values c.requires.0 i h

pub bounds-places-x : goal.bounds-places-x
bounds-places-x c =
    let here = (goal.at.bounds-places-x c).After-u16_at-y in
    place-there here (x here)
    (first_string here (λ e. omega (arith, e, c.in-0.is)))

pub bounds-places-y : goal.bounds-places-y
bounds-places-y c =
    let here = (goal.at.bounds-places-y c).After-u16_at-y in
    place-there here (y here)
    (second_string here (λ e. omega (arith, e, c.in-0.is)))

pub is_upper-requires : goal.is_upper-requires
is_upper-requires c =
    let here = (goal.at.is_upper-requires c).After-u16_at-y in
    let is = c.in-0.is in (
      text_there here (x here)
          (first_string here (λ e. omega (arith, e, is))),
      text_there here (y here)
          (second_string here (λ e. omega (arith, e, is))),
    )

pub returns-in-0 : goal.returns-in-0
returns-in-0 c =
    let here = (goal.at.returns-in-0 c).After-u16_at-y in
    let is = tested here c.in-0.is in
    c.is_upper.ensures
    ∙ ap₂ (λ i j. eq_string (text_at (v here) (get_or (places here) i 0))
    (upper (text_at (v here) (get_or (places here) j 0))))
    (x-is here) (y-is here)
    ∙ functions.upper_met (b here) (v here)
    (s here) (places here) (values here)
    c.requires.0 (at here) c.requires.2
    (λ e. omega (arith, e, is)) (λ e. omega (arith, e, is)) is

pub bounds-places-x-in-1 : goal.bounds-places-x-in-1
bounds-places-x-in-1 c =
    let here = (goal.at.bounds-places-x-in-1 c).After-u16_at-y in
    place-there here (x here)
    (first_string here (λ e. omega (arith, e, c.in-1.is)))

pub bounds-places-y-in-1 : goal.bounds-places-y-in-1
bounds-places-y-in-1 c =
    let here = (goal.at.bounds-places-y-in-1 c).After-u16_at-y in
    place-there here (y here)
    (second_string here (λ e. omega (arith, e, c.in-1.is)))

pub is_lower-requires : goal.is_lower-requires
is_lower-requires c =
    let here = (goal.at.is_lower-requires c).After-u16_at-y in
    let is = c.in-1.is in (
      text_there here (x here)
          (first_string here (λ e. omega (arith, e, is))),
      text_there here (y here)
          (second_string here (λ e. omega (arith, e, is))),
    )

pub returns-in-1 : goal.returns-in-1
returns-in-1 c =
    let here = (goal.at.returns-in-1 c).After-u16_at-y in
    let is = tested here c.in-1.is in
    c.is_lower.ensures
    ∙ ap₂ (λ i j. eq_string (text_at (v here) (get_or (places here) i 0))
    (lower (text_at (v here) (get_or (places here) j 0))))
    (x-is here) (y-is here)
    ∙ functions.lower_met (b here) (v here)
    (s here) (places here) (values here)
    c.requires.0 (at here) c.requires.2
    (λ e. omega (arith, e, is)) (λ e. omega (arith, e, is)) is

pub bounds-places-y-in-2 : goal.bounds-places-y-in-2
bounds-places-y-in-2 c =
    let here = (goal.at.bounds-places-y-in-2 c).After-u16_at-y in
    place-there here (y here)
    (second_string here (λ e. omega (arith, e, c.in-2.is)))

pub bounds-values-x : goal.bounds-values-x
bounds-values-x c =
    let here = (goal.at.bounds-values-x c).After-u16_at-y in
    value_there here (x here)
    (first_integer here c.in-2.is)

pub reads_as-requires : goal.reads_as-requires
reads_as-requires c =
    let here = (goal.at.reads_as-requires c).After-u16_at-y in (
      text_there here (y here)
          (second_string here (λ e. omega (arith, e, c.in-2.is))),
      value_small (b here) (v here)
          (s here) (places here)
          (values here) c.requires.0 (x here),
    )

pub returns-in-2 : goal.returns-in-2
returns-in-2 c =
    let here = (goal.at.returns-in-2 c).After-u16_at-y in
    c.reads_as.ensures
    ∙ ap₂ (λ i j. eqℤ (to_z w64 (of_z w64 (get_or (values here) i (pos 0))))
    (to_int (text_at (v here) (get_or (places here) j 0))))
    (x-is here) (y-is here)
    ∙ functions.value_met (b here) (v here)
    (s here) (places here) (values here)
    c.requires.0 (at here) c.requires.2
    (tested here c.in-2.is)

pub bounds-places-x-in-3 : goal.bounds-places-x-in-3
bounds-places-x-in-3 c =
    let here = (goal.at.bounds-places-x-in-3 c).After-u16_at-y in
    place-there here (x here)
    (first_string here (λ e. omega (arith, e, c.in-3.is)))

pub bounds-values-y : goal.bounds-values-y
bounds-values-y c =
    let here = (goal.at.bounds-values-y c).After-u16_at-y in
    value_there here (y here)
    (second_integer here c.in-3.is)

pub written_as-requires : goal.written_as-requires
written_as-requires c =
    let here = (goal.at.written_as-requires c).After-u16_at-y in (
      text_there here (x here)
          (first_string here (λ e. omega (arith, e, c.in-3.is))),
      value_small (b here) (v here)
          (s here) (places here)
          (values here) c.requires.0 (y here),
    )

pub returns-in-3 : goal.returns-in-3
returns-in-3 c =
    let here = (goal.at.returns-in-3 c).After-u16_at-y in
    c.written_as.ensures
    ∙ ap₂ (λ i j. eq_string (text_at (v here) (get_or (places here) i 0))
    (from_int (to_z w64 (of_z w64 (get_or (values here) j (pos 0))))))
    (x-is here) (y-is here)
    ∙ functions.decimal_met (b here) (v here)
    (s here) (places here) (values here)
    c.requires.0 (at here) c.requires.2
    (tested here c.in-3.is)

pub bounds-places-x-in_default : goal.bounds-places-x-in_default
bounds-places-x-in_default c =
    let here = (goal.at.bounds-places-x-in_default c).After-u16_at-y in
    place-there here (x here)
    (first_string here (λ e. omega arith))

pub bounds-places-y-in_default : goal.bounds-places-y-in_default
bounds-places-y-in_default c =
    let here = (goal.at.bounds-places-y-in_default c).After-u16_at-y in
    place-there here (y here)
    (second_string here (λ e. omega arith))

pub precedes-requires : goal.precedes-requires
precedes-requires c =
    let here = (goal.at.precedes-requires c).After-u16_at-y in (
      text_there here (x here)
          (first_string here (λ e. omega arith)),
      text_there here (y here)
          (second_string here (λ e. omega arith)),
    )

pub returns-in_default : goal.returns-in_default
returns-in_default c =
    let here = (goal.at.returns-in_default c).After-u16_at-y in
    c.precedes.ensures
    ∙ ap₂ (λ i j. precedes (text_at (v here) (get_or (places here) i 0))
    (text_at (v here) (get_or (places here) j 0)))
    (x-is here) (y-is here)
    ∙ functions.order_met (b here) (v here)
    (s here) (places here)
    (values here) c.requires.0 (at here) c.requires.2
    (not_tested here (λ e. omega arith)) (not_tested here (λ e. omega arith))
    (not_tested here (λ e. omega arith)) (not_tested here (λ e. omega arith))
