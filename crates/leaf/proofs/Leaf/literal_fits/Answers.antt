use Prim.Native.Nat.{ℕ}
use lib.IntN.{ℤ}
use mathlib.Core.List.{List}
use mathlib.Core.Option.{some}
use mathlib.Core.Path.{◌∙◌, ◌≡◌, ap, ap₂, sym}
use mir.Facts.{to_z-of_z}
use Rattle.calculus.specs.Classes.{literal_in}
use Rattle.classes.specs.Classes.{literal_of}
use Rattle.format.specs.Fields.{u32s}
use Rattle.leaf.proofs.Laws.{literal_known, literal_none, literal_placed, literal_some}
use Rattle.question.proofs.Posed.{literal_in_law}
use Rattle.question.specs.Posed.{asked}
use Rattle.leaf.specs.Values.{text_fits}
use Rattle.leaf.proofs.Leaf.literal_fits.Goals as goal
use Rattle.leaf.proofs.Leaf.literal_fits.Goals.{In-Some}

-- the literal that was found
found-is : (c : In-Some) →
    let args = c.args in
    literal_in (asked args.self.now.ticket.now args.self.now.s) args.self.now.labels.now args.x ≡ some c.in-Some.l
unfolding literal_of
found-is c =
    let s = c.args in
    literal_in_law s.self.now.ticket.now s.self.now.s s.self.now.labels.now s.x
    ∙ sym c.class_literal.ensures
    ∙ ap literal_of c.in-Some.is

pub placed_text-text-requires : goal.placed_text-text-requires
placed_text-text-requires c =
    let p = literal_placed c.args.self.now.ticket.now c.args.self.now.s c.args.self.now.labels.now c.args.x c.in-Some.l
    (found-is (goal.at.placed_text-text-requires c).In-Some) c.requires.0.posed c.requires.0.literals in
    record { literals_from_in_bounds = p.0; placed = p.1 }

pub fits_text-requires : goal.fits_text-requires
fits_text-requires c = c.placed_text-text.ensures.0

pub returns-in-Some : goal.returns-in-Some
unfolding asked
returns-in-Some c =
    let b = c.args.self.now.ticket.now in
    let l = c.in-Some.l in
    c.fits_text.ensures
    ∙ ap₂ (λ (z w : ℤ). text_fits (u32s b c.placed_text-text.result.at c.placed_text-text.result.count) z w) (to_z-of_z c.ranges.len)
    (to_z-of_z c.ranges.code)
    ∙ ap (λ (t : List ℕ). text_fits t c.args.len c.args.code)
    (c.placed_text-text.ensures.1 c.args.self.now.s.literals
    (literal_known b c.args.self.now.s c.args.self.now.labels.now c.args.x l (found-is (goal.at.returns-in-Some c).In-Some)))
    ∙ sym (literal_some (asked b c.args.self.now.s) c.args.len c.args.code _ l (found-is (goal.at.returns-in-Some c).In-Some))

pub returns-in-None : goal.returns-in-None
unfolding literal_of
returns-in-None c =
    let s = c.args in
    let b = s.self.now.ticket.now in
    sym (literal_none (asked b s.self.now.s) s.len s.code _
    (literal_in_law b s.self.now.s s.self.now.labels.now s.x ∙ sym c.class_literal.ensures ∙ ap literal_of c.in-None.is))
