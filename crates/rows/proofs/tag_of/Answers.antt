use Rattle.std.proofs.Common.{rules, tests}
use lib.IntN.{pos}
use lib.ListN.{get_or}
use mathlib.Core.Path.{◌∙◌, sym}
use mir.Facts.{to_z-of_z}
use mir.Syntax.{w64}
use mir.Val.{SFits}
use native.Mathlib.Omega.{arith}
use Rattle.rows.proofs.Tags.{tag_known, tag_other}
use Rattle.rows.proofs.tag_of.Goals as goal

pub returns-in-Ok : goal.returns-in-Ok
returns-in-Ok c =
    let row = c.args.row.now in
    let z : SFits w64 (get_or row 0 (pos 0)) = search (rules, tests) in
    let e = c.in-Ok.ensures.1 in
    e ∙ sym (tag_known row _ (sym (to_z-of_z z)) c.in-Ok.ensures.0 (omega (arith, e)))

pub returns-in_default : goal.returns-in_default
returns-in_default c =
    let row = c.args.row.now in
    let z : SFits w64 (get_or row 0 (pos 0)) = search (rules, tests) in
    let e = c.in-Ok.ensures.1 in
    sym (tag_other row _ (sym (to_z-of_z z)) (λ f. omega (arith, e)))

pub returns-in_default-2 : goal.returns-in_default-2
returns-in_default-2 c =
    let row = c.args.row.now in
    let z : SFits w64 (get_or row 0 (pos 0)) = search (rules, tests) in
    sym (tag_other row _ (sym (to_z-of_z z)) (λ f. absurd (c.in_default.ensures f)))
