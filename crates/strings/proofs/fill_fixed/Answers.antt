use Prim.Native.Nat.{◌≤◌}
use lib.IntN.{nat_abs, pos, ℤ}
use lib.ListN.{length}
use mathlib.Core.Option.{none, some}
use mathlib.Core.Path.{◌∙◌, ◌≡◌, ap, ap₂, sym}
use mir.Facts.{to_z-of_z}
use mir.Syntax.{w64}
use mir.Val.{of_z, to_z}
use native.Mathlib.Omega.{arith}
use Rattle.calculus.specs.Classes.{literal_in}
use Rattle.calculus.specs.Facts.{code, column_of, literal}
use Rattle.calculus.specs.Model.{model_value}
use Rattle.calculus.specs.LinearForms.{eqℤ}
use Rattle.calculus.specs.Strings.{one_char}
use Rattle.classes.specs.Classes.{literal_of}
use Rattle.format.proofs.Fields.{length_u32s}
use Rattle.format.specs.Fields.{u32s}
use Rattle.leaf.proofs.Laws.{literal_known, literal_placed}
use Rattle.question.proofs.Posed.{literal_in_law, literal_short}
use Rattle.question.specs.Posed.{asked, numbered}
use Rattle.strings.proofs.Table.{fixed_literal, fixed_other, sized_some}
use Rattle.strings.proofs.fill_fixed.Goals as goal
use Rattle.strings.proofs.fill_fixed.Goals.{After-placed_text-literal, In-Some}

-- the literal that was found
found-is : (c : In-Some) →
    let args = c.args in
    literal_in (asked args.leaf.now.ticket.now args.leaf.now.s) args.leaf.now.labels.now args.x ≡ some c.in-Some.l
unfolding literal_of
found-is c =
    let s = c.args in
    literal_in_law s.leaf.now.ticket.now s.leaf.now.s s.leaf.now.labels.now s.x
    ∙ sym c.class_literal.ensures
    ∙ ap literal_of c.in-Some.is

-- it is one of the question's
within : (c : In-Some) →
    let args = c.args in
    c.in-Some.l ≤ args.leaf.now.s.literals
within c =
    let s = c.args in
    literal_known s.leaf.now.ticket.now s.leaf.now.s s.leaf.now.labels.now s.x c.in-Some.l (found-is c)

-- its text was found
text_is : (c : After-placed_text-literal) →
    let args = c.args in
    u32s args.leaf.now.ticket.now c.placed_text-literal.result.at c.placed_text-literal.result.count
    ≡ literal (asked args.leaf.now.ticket.now args.leaf.now.s) c.in-Some.l
unfolding asked
text_is c =
    let args = c.args in
    c.placed_text-literal.ensures.1 args.leaf.now.s.literals (within (goal.at.After-placed_text-literal c).In-Some)

-- and has at most 64 characters
short : (c : After-placed_text-literal) → c.placed_text-literal.result.count ≤ 64
short c =
    let b = c.args.leaf.now.ticket.now in
    let r = c.placed_text-literal.result in
    omega (
      arith,
      literal_short c.requires.leaf_ready.0.posed c.in-Some.l (within (goal.at.After-placed_text-literal c).In-Some),
      ap length (text_is c),
      length_u32s b r.at r.count,
    )

pub placed_text-literal-requires : goal.placed_text-literal-requires
placed_text-literal-requires c =
    let ready = c.requires.leaf_ready.0 in
    let p = literal_placed c.args.leaf.now.ticket.now c.args.leaf.now.s c.args.leaf.now.labels.now c.args.x c.in-Some.l (found-is (goal.at.placed_text-literal-requires c).In-Some) ready.posed
    ready.literals in
    record { literals_from_in_bounds = p.0; placed = p.1 }

pub fill_text-requires : goal.fill_text-requires
fill_text-requires c = (
  c.placed_text-literal.ensures.0,
  omega (arith, short (goal.at.fill_text-requires c).After-placed_text-literal, c.requires.leaf_ready.2),
  short (goal.at.fill_text-requires c).After-placed_text-literal,
)

pub fill_character-requires : goal.fill_character-requires
fill_character-requires c =
    let e : to_z w64 (of_z w64 c.value_of-in-None.result) ≡ model_value (numbered c.args.leaf.now.s) c.args.leaf.now.model.now code c.args.x =
    to_z-of_z {w = w64} (record { sfits = c.value_of-in-None.type_inv }) ∙ c.value_of-in-None.ensures in
    (omega (arith, ap nat_abs e, c.requires.within (column_of (numbered c.args.leaf.now.s) code c.args.x)), c.requires.leaf_ready.2)

pub returns-in-Some : goal.returns-in-Some
returns-in-Some c =
    let s = c.args in
    let l = c.in-Some.l in
    sized_some c.placed_text-literal.result.count _ (short (goal.at.returns-in-Some c).After-placed_text-literal)
    ∙ ap some (c.fill_text.ensures ∙ text_is (goal.at.returns-in-Some c).After-placed_text-literal)
    ∙ sym (fixed_literal (asked s.leaf.now.ticket.now s.leaf.now.s) s.leaf.now.labels.now s.leaf.now.model.now s.x l (found-is (goal.at.returns-in-Some c).In-Some))

pub returns-in-None : goal.returns-in-None
unfolding asked literal_of
returns-in-None c =
    let valueOf = c.value_of in
    let class-literal = c.class_literal in
    let s = c.args in
    let b = s.leaf.now.ticket.now in
    let e : literal_in (asked b s.leaf.now.s) s.leaf.now.labels.now s.x ≡ none =
    literal_in_law b s.leaf.now.s s.leaf.now.labels.now s.x ∙ sym class-literal.ensures ∙ ap literal_of c.in-None.is in
    c.fill_character.ensures
    ∙ ap₂ (λ (z w : ℤ). one_char (eqℤ z (pos 1)) w) (to_z-of_z {w = w64} (record { sfits = valueOf.type_inv }) ∙ valueOf.ensures)
    (to_z-of_z {w = w64} (record { sfits = c.value_of-in-None.type_inv }) ∙ c.value_of-in-None.ensures)
    ∙ sym (fixed_other (asked b s.leaf.now.s) s.leaf.now.labels.now s.leaf.now.model.now s.x e)
