use Prim.Native.Nat.{ℕ, ◌<◌}
use borrow.Author.Rules.{rules}
use lib.ListN.{get_or, length}
use mathlib.Core.List.{List}
use mathlib.Core.Path.{◌∙◌, ◌≡◌, ap, ap₂, sym}
use native.Mathlib.Omega.{arith}
use Rattle.lists.proofs.Lists.{get_d_any}
use Rattle.calculus.specs.Classes.{merge_nodes, relabel}
use Rattle.classes.proofs.Laws.{relabel_same}
use Rattle.classes.proofs.merge.Goals as goal

-- the merged labels, from the labels that were read
merged : (ls : List ℕ) (i j : ℕ) → length ls ≡ 32 → i < 32 → j < 32 → relabel (get_or ls j 0) (get_or ls i 0) ls ≡ merge_nodes ls i j
merged ls i j n hi hj = ap₂ (λ (old new : ℕ). relabel old new ls) (get_d_any ls j 0 j (omega arith)) (get_d_any ls i 0 i (omega arith))

pub returns-then-old-new : goal.returns-then-old-new
returns-then-old-new c =
    let ls = c.args.labels in
    sym (relabel_same (get_or ls c.args.i 0) ls) ∙ ap (λ (old : ℕ). relabel old (get_or ls c.args.i 0) ls) (sym c.if-old-new.true)
    ∙ merged ls c.args.i c.args.j (search rules) c.requires.0 c.requires.1

pub returns-else-old-new : goal.returns-else-old-new
returns-else-old-new c =
    c.relabel.ensures ∙ merged c.args.labels c.args.i c.args.j (search rules) c.requires.0 c.requires.1
