use borrow.Author.Rules.{rules}
use lib.ListN.{drop, length}
use mathlib.Core.List.{◌++◌}
use mathlib.Core.Path.{◌∙◌, ap, sym}
use Rattle.calculus.specs.Meaning.{Assignment}
use Rattle.format.specs.Answer.{encode}
use Rattle.model.proofs.Answering.{answer_is, columns_long, integers_there}
use Rattle.model.proofs.write.Goals as goal

pub slice_bounds-values-end : goal.slice_bounds-values-end
slice_bounds-values-end c =
    sym (columns_long c.args.ticket.now c.args.places.now c.args.s c.args.model.now c.requires.0)

pub give_strings-sizes-requires : goal.give_strings-sizes-requires
give_strings-sizes-requires c =
    let pre = c.requires in
    record {
      leaf_ready = (pre.0.ready, search rules);
      within = pre.0.small;
      short_sizes = pre.0.short_sizes;
    }

pub write_answer-requires : goal.write_answer-requires
write_answer-requires c =
    (c.give_strings-sizes.ensures.table, integers_there c.args.ticket.now c.args.places.now c.args.s c.args.model.now c.requires.0, c.requires.1)

pub returns : goal.returns
returns c br m a =
    let s = c.args in
    c.write_answer.ensures
    ∙ ap (λ (x : Assignment). encode x ++ drop (length (encode x)) s.answer.now)
    (answer_is s.ticket.now s.places.now s.s br m s.labels.now s.model.now a _ _ (c.give_strings-sizes.ensures.p_after br a.classes))
