use lib.IntN.{pos}
use mathlib.Core.Path.{◌∙◌, ap, sym}
use native.Mathlib.Omega.{arith}
use borrow.Author.Tests.{ne_eqb}
use Rattle.calculus.specs.LinearForms.{eqℤ}
use Rattle.format.proofs.Fields.{length_u32s}
use Rattle.format.specs.Fields.{u32s}
use Rattle.leaf.proofs.Laws.{text_no, text_yes}
use Rattle.leaf.proofs.Signed.{bits_equal, equal_false, equal_true}
use Rattle.leaf.proofs.fits_text.Goals as goal

pub returns-then-len-count : goal.returns-then-len-count
returns-then-len-count c =
    let s = c.args in
    let t = u32s s.ticket.now s.at s.count in
    bits_equal s.code c.text_code.result c.ranges.code (record { sfits = c.text_code.type_inv })
    ∙ ap (eqℤ s.code) c.text_code.ensures.0
    ∙ sym (text_yes t s.len s.code
    (ap (λ n. eqℤ s.len (pos n)) (length_u32s s.ticket.now s.at s.count)
    ∙ equal_true s.len (pos s.count) c.ranges.len (record { sfits = omega arith }) c.if-len-count.true))

pub returns-else-len-count : goal.returns-else-len-count
returns-else-len-count c =
    let s = c.args in
    ne_eqb _ _ c.if-len-count.false
    ∙ sym (text_no (u32s s.ticket.now s.at s.count) s.len s.code
    (ap (λ n. eqℤ s.len (pos n)) (length_u32s s.ticket.now s.at s.count)
    ∙ equal_false s.len (pos s.count) c.ranges.len (record { sfits = omega arith }) c.if-len-count.false))
