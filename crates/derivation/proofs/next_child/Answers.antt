use mathlib.Core.Path.{◌∙◌, ap}
use Rattle.format.specs.StepForms.{rule_of}
use Rattle.branch.specs.Stack.{begun_of}
use Rattle.derivation.proofs.Holding.{few_splits}
use Rattle.derivation.proofs.Closing.{record_stands, rule_stands, cut_depth, puts_next, next_begins, keeps_below}
use Rattle.derivation.proofs.next_child.Goals as goal

pub u32_at-size-requires : goal.u32_at-size-requires
u32_at-size-requires c =
    record_stands c.requires.0 c.requires.1 c.args.split c.requires.2

pub u16_at-requires : goal.u16_at-requires
u16_at-requires c =
    rule_stands c.requires.0 c.requires.1 c.args.split c.requires.2

pub put_child-count-requires : goal.put_child-count-requires
put_child-count-requires c =
    let rule = c.rule_of-rule in
    let u16-at = c.u16_at in
    let size = c.u32_at-size in
    let puts =
    puts_next c.requires.0 c.requires.1 c.args.split c.requires.2 rule.result (rule.ensures ∙ ap rule_of u16-at.ensures.0) size.result
    size.ensures.0 in record { ready_by = puts.0; k_value = puts.1 }

pub cut_back-requires : goal.cut_back-requires
cut_back-requires c =
    (c.requires.1, few_splits c.requires.0)

pub take_next_child-requires : goal.take_next_child-requires
take_next_child-requires c =
    let same = cut_depth c.args.b c.cut_back.result c.cut_back.ensures.1 in
    (rw same c.requires.1, rw same (few_splits c.requires.0))

pub returns : goal.returns
returns c =
    let size = c.u32_at-size in
    let w = c.put_child-count.new.work in
    let begun =
    next_begins c.requires.0 c.requires.1 c.args.split c.requires.2 w c.extend.result size.result c.put_child-count.result
    size.ensures.0 c.extend.ensures.0 c.put_child-count.ensures.added c.put_child-count.ensures.fine
    (c.extend.ensures.1 ∙ c.take_next_child.ensures.1 ∙ ap begun_of c.cut_back.ensures.1) in
    let below =
    keeps_below c.requires.0 c.requires.1 c.args.split c.requires.2 w c.extend.result size.result c.put_child-count.result c.extend.ensures.0
    c.put_child-count.ensures.added in
    record {
      state = begun.0;
      holds = begun.1;
      below = below;
    }
