use Rattle.std.proofs.Common.{rules, tests, unwrap_or, ◌∙◌, ◌≡◌, sym, not, Option, Some, None, refl, ap₂}
use lib.IntN.{pos, ℤ}
use Prim.Native.Nat.{◌-◌}
use lib.ListN.{drop, get_or, length}
use native.Mathlib.Omega.{arith}
use mir.Facts.{to_z-of_z}
use mir.Syntax.{w64}
use mir.Val.{SFits}
use Rattle.std.specs.Option.{option_map}
use Rattle.std.proofs.lemmas.Iterator.{YieldsList-from_slice}
use Rattle.std.proofs.lemmas.Iterator.Consumers.{YieldsList-from_copied}
use Rattle.std.proofs.lemmas.Iterator.Search.{find_from_yields_List}
use Rattle.calculus.specs.LinearForms.{is_zero}
use Rattle.rows.proofs.Chains.{part_from}
use Rattle.rows.proofs.Tested.{zero_test}
use Rattle.normal.proofs.Laws.{first_found, leading_row}
use Rattle.normal.proofs.leading.Goals as goal

itself : (o : Option ℤ) → option_map (λ x. x) o ≡ o
itself None = refl
itself (Some x) = refl

pub returns : goal.returns
returns c =
    let row = c.args.row.now in
    let f : SFits w64 (get_or row 1 (pos 0)) = search (rules, tests) in
    let g : SFits w64 c.unwrap_or.result = record { sfits = c.unwrap_or.type_inv } in
    let source : c.copied.result.iter.rest.now ≡ c.iter.result.rest.now = search rules in
    let found = find_from_yields_List (λ z. not (is_zero z)) c.find.new.self _ c.find.result c.find.ensures.ran
    (YieldsList-from_copied (YieldsList-from_slice (drop 2 row) (source ∙ c.iter.ensures.rest ∙ part_from row 2 (length row - 2) (omega arith))))
    (λ x b q k. let h : SFits w64 x = search (rules, tests) in let t = zero_test x h in search (rules, tests)) in
    to_z-of_z g
    ∙ c.unwrap_or.ensures
    ∙ ap₂ unwrap_or (sym (itself c.find.result) ∙ found) (to_z-of_z f)
    ∙ first_found (get_or row 1 (pos 0)) (drop 2 row)
    ∙ sym (leading_row row c.requires)
