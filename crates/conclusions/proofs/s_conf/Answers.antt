use Prim.Native.Nat.{suc, ℕ}
use lib.ListN.{length}
use mathlib.Core.List.{List}
use mathlib.Core.Path.{◌∙◌, ◌≡◌, ap, ap₂, sym}
use native.Mathlib.Numerals.{add-one}
use Rattle.calculus.specs.Facts.{Question}
use Rattle.calculus.specs.Classes.{clash}
use Rattle.conclusions.specs.Made.{closing_of}
use Rattle.rows.specs.Rows.{branch_of}
use Rattle.conclusions.proofs.s_conf.Goals as goal

pub returns : goal.returns
unfolding closing_of
returns c =
    let b = branch_of c.args.work.now c.args.count in
    λ (u : Question) (e : length u.literals ≡ c.args.literals). ap closing_of
    (c.conflict.ensures ∙ ap₂ (λ (m : ℕ) (ls : List ℕ). clash m ls b) (add-one c.args.literals ∙ ap suc (sym e)) c.requires.labels_value)
