use mir.Syntax.{w64}
use borrow.Author.Rules.{rules}
use lib.IntN.{pos}
use lib.ListN.{get_or}
use mathlib.Core.Path.{◌∙◌, ap}
use mir.Facts.{to_z-of_z}
use native.Mathlib.Omega.{arith}
use Prim.Native.Nat.{ℕ}
use Rattle.leaf.proofs.Laws.{column_there, column_value}
use Rattle.leaf.proofs.Leaf.value_of.Goals as goal

pub bounds-self-column_of : goal.bounds-self-column_of
bounds-self-column_of c =
    omega (arith, c.column_of.ensures.0, column_there c.args.self.now.s c.args.function c.args.x c.requires.1, c.requires.0.columns)

pub returns : goal.returns
returns c =
    let s = c.args in
    to_z-of_z {w = w64} (record { sfits = search rules })
    ∙ ap (λ (i : ℕ). get_or s.self.now.model.now i (pos 0)) c.column_of.ensures.0
    ∙ column_value s.self.now.s s.function s.x s.self.now.model.now
