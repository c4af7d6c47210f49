use Prim.Native.Nat.{ℕ}
use borrow.Author.Rules.{rules}
use mathlib.Core.Path.{◌∙◌, ap₂, sym}
use Rattle.calculus.specs.Chains.{lit_node, var_node}
use Rattle.calculus.specs.Classes.{merge_nodes}
use Rattle.classes.proofs.Laws.{row_merges_none, row_literal, row_same}
use Rattle.classes.proofs.merge_row.Goals as goal

pub returns-in-3 : goal.returns-in-3
returns-in-3 c =
    let k = c.tag_of in
    c.merge.ensures
    ∙ ap₂ (merge_nodes c.args.labels) c.variable_node.ensures c.variable_node-in-3.ensures
    ∙ ap₂ (λ (a b : ℕ). merge_nodes c.args.labels (var_node a) (var_node b)) c.variable_at-a.ensures.value c.variable_at-b.ensures.value
    ∙ sym (row_same c.args.row.now c.args.labels k.result k.ensures c.in-3.is)

pub returns-in-5 : goal.returns-in-5
returns-in-5 c =
    let k = c.tag_of in
    c.merge-in-5.ensures
    ∙ ap₂ (merge_nodes c.args.labels) c.variable_node-in-5.ensures c.literal_node.ensures
    ∙ ap₂ (λ (a b : ℕ). merge_nodes c.args.labels (var_node a) (lit_node b)) c.variable_at-a-in-5.ensures.value c.literal_at-b.ensures.value
    ∙ sym (row_literal c.args.row.now c.args.labels k.result k.ensures c.in-5.is)

pub returns-in_default : goal.returns-in_default
returns-in_default c =
    let k = c.tag_of in
    sym (row_merges_none c.args.row.now c.args.labels k.result k.ensures (search rules) (search rules))
