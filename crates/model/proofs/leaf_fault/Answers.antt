use borrow.Author.Rules.{rules}
use lib.Seq.{length-take-le}
use mathlib.Core.Bool.{true, false}
use mathlib.Core.Path.{◌∙◌, ◌≡◌, refl, sym}
use native.Mathlib.Omega.{arith}
use Rattle.calculus.specs.Facts.{column_count}
use Rattle.calculus.specs.SettledTest.{settled}
use Rattle.format.specs.Checking.{keeps, short_lengths}
use Rattle.question.specs.Posed.{asked, numbered}
use Rattle.rows.specs.Rows.{branch_of}
use Rattle.model.specs.Settled.{values}
use Rattle.model.proofs.Settling.{columns_ready, few_columns}
use Rattle.model.proofs.Tested.{keeps_columns, leaf_tests}
use Rattle.model.proofs.leaf_fault.Goals as goal
use Rattle.model.proofs.leaf_fault.Goals.{After-keeps_facts, After-settled, After-short_lengths}

-- 12's test
keeps-test : (c : After-keeps_facts)
    → c.keeps_facts.result
    ≡ keeps (values c.args.s c.args.model.now)
    (branch_of c.args.work.now c.args.count)
keeps-test c =
    c.keeps_facts.ensures ∙ keeps_columns c.args.model.now c.args.s (branch_of c.args.work.now c.args.count) c.requires.posed.1

-- 13's and 14's
settled-test : (c : After-settled) →
    let args = c.args in
    c.settled.result ≡ settled (asked args.ticket.now args.s) (branch_of args.work.now args.count) (values args.s args.model.now)
settled-test c = c.settled.ensures

lengths-test : (c : After-short_lengths) →
    let args = c.args in
    c.short_lengths.result ≡ short_lengths (asked args.ticket.now args.s) (values args.s args.model.now)
unfolding asked
lengths-test c = c.short_lengths.ensures

pub returns-then-not-keeps_facts : goal.returns-then-not-keeps_facts
returns-then-not-keeps_facts c =
    let s = c.args in
    leaf_tests (asked s.ticket.now s.s) (branch_of s.work.now s.count) (values s.s s.model.now) false _ _
    (sym (keeps-test (goal.at.returns-then-not-keeps_facts c).After-keeps_facts) ∙ c.if-not-keeps_facts.true) refl refl

pub slice_bounds-values-end : goal.slice_bounds-values-end
slice_bounds-values-end c =
    sym (length-take-le (column_count (numbered c.args.s)) c.args.model.now
    (omega (arith, few_columns c.args.ticket.now c.args.s c.requires.posed.0, c.requires.posed.1.all)))

pub settled-requires : goal.settled-requires
settled-requires c =
    record {
      leaf_ready = (
        columns_ready c.args.ticket.now c.args.places.now c.args.s c.requires.posed.0 c.requires.posed.2 c.args.model.now c.requires.posed.1.all,
        search rules,
        search rules,
      );
      labels_value = c.requires.fine.1;
    }

pub returns-then-not-settled : goal.returns-then-not-settled
returns-then-not-settled c =
    let s = c.args in
    leaf_tests (asked s.ticket.now s.s) (branch_of s.work.now s.count) (values s.s s.model.now) true false _
    (sym (keeps-test (goal.at.returns-then-not-settled c).After-keeps_facts) ∙ c.if-not-keeps_facts.false)
    (sym (settled-test (goal.at.returns-then-not-settled c).After-settled) ∙ c.if-not-settled.true) refl

pub short_lengths-requires : goal.short_lengths-requires
short_lengths-requires c =
    search (
      rules,
      columns_ready c.args.ticket.now c.args.places.now c.args.s c.requires.posed.0 c.requires.posed.2 c.args.model.now c.requires.posed.1.all,
    )

pub returns-then-not-short_lengths : goal.returns-then-not-short_lengths
returns-then-not-short_lengths c =
    let s = c.args in
    leaf_tests (asked s.ticket.now s.s) (branch_of s.work.now s.count) (values s.s s.model.now) true true false
    (sym (keeps-test (goal.at.returns-then-not-short_lengths c).After-keeps_facts) ∙ c.if-not-keeps_facts.false)
    (sym (settled-test (goal.at.returns-then-not-short_lengths c).After-settled) ∙ c.if-not-settled.false)
    (sym (lengths-test (goal.at.returns-then-not-short_lengths c).After-short_lengths) ∙ c.if-not-short_lengths.true)

pub returns : goal.returns
returns c =
    let s = c.args in
    leaf_tests (asked s.ticket.now s.s) (branch_of s.work.now s.count) (values s.s s.model.now) true true true
    (sym (keeps-test (goal.at.returns c).After-keeps_facts) ∙ c.if-not-keeps_facts.false)
    (sym (settled-test (goal.at.returns c).After-settled) ∙ c.if-not-settled.false)
    (sym (lengths-test (goal.at.returns c).After-short_lengths) ∙ c.if-not-short_lengths.false)
