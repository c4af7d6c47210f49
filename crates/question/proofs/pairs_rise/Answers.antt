use mathlib.Core.Path.{◌≡◌, refl, ◌∙◌, sym, ap}
use mathlib.Core.Bool.{true, false}
use mathlib.Core.List.{List, ◌∷◌}
use Prim.Native.Nat.{ℕ, ◌+◌}
use lib.IntN.{ℤ}
use mir.Syntax.{w32}
use mir.Val.{to_z, of_z}
use Rattle.std.proofs.Common.{rules}
use Rattle.format.specs.Fields.{pairs_at}
use Rattle.format.specs.Question.{pair_in_range, rising}
use Rattle.question.proofs.pairs_rise.Goals as goal

-- a pair by itself, and those after it
module _ (c low : ℕ) (t : ℕ × ℤ) (ts : List (ℕ × ℤ)) where
  first_out : pair_in_range c low t ≡ false → rising c low (t ∷ ts) ≡ false
  unfolding rising
  first_out e = rw e refl

  first_in : pair_in_range c low t ≡ true → rising c low (t ∷ ts) ≡ rising c (t.0 + 1) ts
  unfolding rising
  first_in e = rw e refl

pub loop-column-init : goal.loop-column-init
unfolding pairs_at
loop-column-init c = ap (rising c.args.c 0) (c.into_iter-column-iterator.ensures.into_iter_gives ∙ c.fields_at-column-items.ensures)

pub returns-then-not-pair_in_range : goal.returns-then-not-pair_in_range
returns-then-not-pair_in_range c =
    let l = c.loop-column in
    let held : to_z w32 (of_z w32 c.in-Some.v) ≡ c.in-Some.v = search rules in
    sym (first_out c.args.c l.low (c.in-Some.column, c.in-Some.v) c.next.new.self
    (rw (c.from-column.ensures, held) at (sym c.pair_in_range.ensures ∙ c.if-not-pair_in_range.true)))
    ∙ ap (rising c.args.c l.low) (sym c.in-Some.ensures.steps) ∙ l.invariant

pub loop-column-preserved : goal.loop-column-preserved
loop-column-preserved c =
    let l = c.loop-column in
    let held : to_z w32 (of_z w32 c.in-Some.v) ≡ c.in-Some.v = search rules in
    rw c.from-column.ensures (sym (first_in c.args.c l.low (c.in-Some.column, c.in-Some.v) c.next.new.self
    (rw (c.from-column.ensures, held) at (sym c.pair_in_range.ensures ∙ c.if-not-pair_in_range.false)))
    ∙ ap (rising c.args.c l.low) (sym c.in-Some.ensures.steps) ∙ l.invariant)

pub returns : goal.returns
unfolding rising
returns c = ap (rising c.args.c c.loop-column.low) (sym c.in-None.ensures.steps.0) ∙ c.loop-column.invariant
