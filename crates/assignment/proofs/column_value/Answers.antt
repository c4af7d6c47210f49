use Prim.Native.Nat.{◌*◌, ◌+◌, ◌-◌, ◌/◌, ◌<◌, ℕ}
use lib.IntN.{pos}
use lib.ListN.{get_or}
use mathlib.Core.Path.{◌∙◌, ◌≡◌, ap, sym}
use mir.Facts.{to_z-of_z}
use mir.Syntax.{w64}
use mir.Syntax.{w64}
use mir.ValLaws.{to_z_pos}
use native.Mathlib.Omega.{arith}
use Rattle.assignment.proofs.Columns.{code_column, integer_column, len_column}
use Rattle.format.proofs.Answers.{integers_there, text_there}
use Rattle.assignment.specs.Form.{columns_at}
use Rattle.calculus.specs.Facts.{code_of}
use Rattle.format.specs.Fields.{i32}
use Rattle.format.specs.Records.{size}
use Rattle.format.specs.Places.{text_at}
use Rattle.assignment.proofs.column_value.Goals as goal

pub overflow_add-places : goal.overflow_add-places
overflow_add-places c =
    omega (arith, c.requires.1 c.args.p (omega arith), integers_there c.args.v.now c.args.p c.args.q c.requires.0)

pub overflow_add-places-then-j-q : goal.overflow_add-places-then-j-q
overflow_add-places-then-j-q c =
    omega (arith, c.requires.1 c.args.p (omega arith), integers_there c.args.v.now c.args.p c.args.q c.requires.0)

pub i32_at-requires : goal.i32_at-requires
i32_at-requires c =
    omega (arith, c.requires.1 c.args.p (omega arith), integers_there c.args.v.now c.args.p c.args.q c.requires.0)

pub returns-then-j-q : goal.returns-then-j-q
returns-then-j-q c =
    to_z-of_z {w = w64} (record { sfits = c.i32_at.type_inv }) ∙ c.i32_at.ensures.0
    ∙ ap (λ (k : ℕ). i32 c.args.v.now (k + 6 + 4 * c.args.j)) (c.requires.1 c.args.p (omega arith))
    ∙ sym (integer_column c.args.v.now c.args.p c.args.q c.args.j c.if-j-q.true)

pub u32_at-requires : goal.u32_at-requires
u32_at-requires c =
    let x : ℕ = c.args.j - c.args.q in
    let h : c.args.j - c.args.q < c.args.p = omega arith in
    omega (arith, c.requires.1 x (omega arith), text_there c.args.v.now c.args.p c.args.q c.requires.0 x h)

pub returns-then-x-p : goal.returns-then-x-p
returns-then-x-p c =
    let x : ℕ = c.args.j - c.args.q in
    let h : c.args.j - c.args.q < c.args.p = omega arith in
    let e : c.args.q + (c.args.j - c.args.q) ≡ c.args.j = omega arith in
    to_z_pos w64 (c.u32_at.result / 4) (omega arith)
    ∙ ap (λ (k : ℕ). pos (k / 4)) c.u32_at.ensures.0
    ∙ ap (λ (k : ℕ). pos (size c.args.v.now k / 4)) (c.requires.1 x (omega arith))
    ∙ sym (len_column c.args.v.now c.args.p c.args.q x h)
    ∙ ap (λ (k : ℕ). get_or (columns_at c.args.v.now c.args.p c.args.q) k (pos 0)) e

pub string_code-requires : goal.string_code-requires
string_code-requires c =
    let x : ℕ = c.args.j - c.args.q - c.args.p in
    let h : c.args.j - c.args.q - c.args.p < c.args.p = omega arith in
    rw (c.requires.1 x (omega arith)) (text_there c.args.v.now c.args.p c.args.q c.requires.0 x h)

pub returns-else-x-p : goal.returns-else-x-p
returns-else-x-p c =
    let x : ℕ = c.args.j - c.args.q - c.args.p in
    let h : c.args.j - c.args.q - c.args.p < c.args.p = omega arith in
    let e : c.args.q + (c.args.p + (c.args.j - c.args.q - c.args.p)) ≡ c.args.j = omega arith in
    to_z-of_z {w = w64} (record { sfits = c.string_code.type_inv }) ∙ c.string_code.ensures
    ∙ ap (λ (k : ℕ). code_of (text_at c.args.v.now k)) (c.requires.1 x (omega arith))
    ∙ sym (code_column c.args.v.now c.args.p c.args.q x h)
    ∙ ap (λ (k : ℕ). get_or (columns_at c.args.v.now c.args.p c.args.q) k (pos 0)) e
