-- An extended constraint's function and operands: which of the answer's strings and integers they name, and what the function asks of them.
use Prim.Native.Nat.{ℕ, ◌+◌, ◌≤◌, ◌<◌}
use native.Mathlib.Omega.{arith}
use mathlib.Core.Path.{◌≡◌, sym, ◌∙◌, ap, ap₂, subst}
use mathlib.Core.List.{List, ◌++◌, map}
use lib.ListN.{length, get_or, get_or-append}
use lib.IntN.{ℤ, pos, nat_abs}
use borrow.Author.Tests.{eq-eqb, ne_eqb}
use mir.Syntax.{w64}
use mir.Val.{to_z, of_z}
use mir.Facts.{to_z-of_z}
use Rattle.integers.proofs.Laws.{sfits_abs}
use Rattle.calculus.specs.Limits.{value_limit}
use Rattle.calculus.specs.LinearForms.{eqℤ}
use Rattle.calculus.specs.Facts.{value_of, len, code}
use Rattle.calculus.specs.Strings.{eq_string}
use Rattle.calculus.specs.Meaning.{Assignment, str}
use Rattle.calculus.specs.Extended.{upper, lower, to_int, from_int, precedes, int, meets_extended}
use Rattle.format.specs.Fields.{u16}
use Rattle.format.specs.Question.{extended_fault, extended_by, extended_of}
use Rattle.format.specs.Places.{skip, text_at}
use Rattle.format.proofs.Fields.{length_i32s}
use Rattle.format.proofs.RecordFaults.{ExtendedConstraint, extended_constraint_formed}
use Rattle.question.specs.declared.Progress.{Progress}
use Rattle.question.specs.Posed.{asked}
use Rattle.judging.specs.Ready.{values_of, Judgeable}
use Rattle.assignment.proofs.Columns.{length_columns}
use Rattle.judging.proofs.Constraints.{text_is}
use Rattle.judging.proofs.Tested.{columns_are}

module _ (b v : List ℕ) (s : Progress) (places : List ℕ) (values : List ℤ) (r : Judgeable b v s places values) where
  abbrev a : Assignment
  a = values_of b v s

  -- the integers are the first columns
  integers_first : (x : ℕ) → x < s.q → get_or values x (pos 0) ≡ int a x
  unfolding asked
  integers_first x h =
      ap (λ vs. get_or vs x (pos 0)) (r.columns ∙ sym (columns_are b v s))
      ∙ get_or-append a.ints (map (value_of len) a.strs ++ map (value_of code) a.strs) (pos 0) x (omega (arith, length_i32s v (skip v s.p 0 + 6) s.q))

  -- the machine holds them
  value_held : (x : ℕ) → to_z w64 (of_z w64 (get_or values x (pos 0))) ≡ get_or values x (pos 0)
  value_held x = to_z-of_z {w = w64} (sfits_abs (get_or values x (pos 0)) (omega (arith, r.small x)))

  pub value_small : (x : ℕ) → nat_abs (to_z w64 (of_z w64 (get_or values x (pos 0)))) ≤ value_limit
  value_small x = subst (λ z. nat_abs z ≤ value_limit) (sym (value_held x)) (r.small x)

  held_is : {x : ℕ} → x < s.q → to_z w64 (of_z w64 (get_or values x (pos 0))) ≡ int a x
  held_is {x} h = value_held x ∙ integers_first x h

  -- as many columns as integers at least
  pub integer_there : (x : ℕ) → x < s.q → x < length values
  integer_there x h = omega (arith, ap length r.columns, length_columns v s.p s.q)

  module _ (at : ℕ) (formed : extended_fault b s.p s.q at 6 ≡ 0) where
    abbrev f : ℕ
    f = u16 b at

    abbrev x : ℕ
    x = u16 b (at + 2)

    abbrev y : ℕ
    y = u16 b (at + 4)

    fields : ExtendedConstraint s.p s.q 6 f x y
    fields = extended_constraint_formed b s.p s.q at 6 formed

    -- the operands by the function
    pub first_string : (f ≡ 2 → ⊥) → x < s.p
    first_string h = rw (ne_eqb f 2 h) at fields.first

    pub first_integer : f ≡ 2 → x < s.q
    first_integer h = rw (eq-eqb f 2 h) at fields.first

    pub second_string : (f ≡ 3 → ⊥) → y < s.p
    second_string h = rw (ne_eqb f 3 h) at fields.second

    pub second_integer : f ≡ 3 → y < s.q
    second_integer h = rw (eq-eqb f 3 h) at fields.second

    -- ---- what each function asks

    -- string operands at their places, integer operands as the machine holds them
    abbrev text : ℕ → List ℕ
    text i = text_at v (get_or places i 0)

    abbrev held : ℕ → ℤ
    held i = to_z w64 (of_z w64 (get_or values i (pos 0)))

    pub value_met : f ≡ 2 → eqℤ (held x) (to_int (text y)) ≡ meets_extended a (extended_of b at)
    value_met e =
        ap₂ (λ z t. eqℤ z (to_int t)) (held_is (first_integer e)) (text_is b v s places r.texts y (second_string (λ g. omega arith)))
        ∙ ap (λ g. meets_extended a (extended_by g x y)) (sym e)

    pub decimal_met : f ≡ 3 → eq_string (text x) (from_int (held y)) ≡ meets_extended a (extended_of b at)
    decimal_met e =
        ap₂ (λ t z. eq_string t (from_int z)) (text_is b v s places r.texts x (first_string (λ g. omega arith))) (held_is (second_integer e))
        ∙ ap (λ g. meets_extended a (extended_by g x y)) (sym e)

    -- the functions of two strings
    module _ (no_value : f ≡ 2 → ⊥) (no-decimal : f ≡ 3 → ⊥) where
      first_is : text x ≡ str a x
      first_is = text_is b v s places r.texts x (first_string no_value)

      second_is : text y ≡ str a y
      second_is = text_is b v s places r.texts y (second_string no-decimal)

      pub upper_met : f ≡ 0 → eq_string (text x) (upper (text y)) ≡ meets_extended a (extended_of b at)
      upper_met e = ap₂ (λ t w. eq_string t (upper w)) first_is second_is ∙ ap (λ g. meets_extended a (extended_by g x y)) (sym e)

      pub lower_met : f ≡ 1 → eq_string (text x) (lower (text y)) ≡ meets_extended a (extended_of b at)
      lower_met e = ap₂ (λ t w. eq_string t (lower w)) first_is second_is ∙ ap (λ g. meets_extended a (extended_by g x y)) (sym e)

      -- the one left
      pub order_met : (f ≡ 0 → ⊥) → (f ≡ 1 → ⊥) → precedes (text x) (text y) ≡ meets_extended a (extended_of b at)
      order_met no-upper no_lower =
          let e : 4 ≡ f = omega (arith, fields.function) in
          ap₂ precedes first_is second_is ∙ ap (λ g. meets_extended a (extended_by g x y)) e
