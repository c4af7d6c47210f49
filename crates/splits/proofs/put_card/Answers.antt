use Prim.Native.Nat.{ℕ, ◌+◌, ◌*◌, ◌-◌, ◌≤◌, ◌<◌}
use lib.IntN.{ℤ}
use lib.ListN.{length, get_or}
use mathlib.Core.List.{List, [], ◌∷◌, ◌++◌}
use mathlib.Core.Path.{◌∙◌, ◌≡◌, sym, ap, ap₂, subst}
use native.Mathlib.Omega.{arith}
use Rattle.question.specs.Posed.{numbered}
use Rattle.calculus.specs.Facts.{Fact, same}
use Rattle.calculus.specs.Children.{child_at, pair_children}
use Rattle.calculus.specs.Rules.{last_child}
use Rattle.format.specs.Fields.{u16, u16s}
use Rattle.format.specs.Checking.{or_none}
use Rattle.rows.specs.Rows.{branch_of}
use Rattle.steps.proofs.Offered.{child_at_law}
use Rattle.steps.proofs.Variables.{below_first, below_later, below_rest}
use Rattle.splits.proofs.Pairs.{pair_here, pair_there, pair_count, pairs_none}
use Rattle.splits.proofs.Forms.{last_short, last_some}
use Rattle.splits.proofs.put_card.Goals as goal
use Rattle.splits.proofs.put_card.Goals.{After-put_bound-arg-1}

pub put_string-requires-clause-relation_bound : goal.put_string-requires-clause-relation_bound
put_string-requires-clause-relation_bound c =
    let a = c.args in
    let l = c.loop-i in
    let x = below_first a.b.now a.s.p (a.at + 2 * l.i) (a.m - 1 - l.i + 1) (omega arith) l.invariant.1 in
    let y = below_later a.b.now a.s.p (a.at + 2 * l.i) (a.m - 1 - l.i) l.left c.if-left-others.true l.invariant.1 in
    let ex = c.u16_at-x.ensures.0 in
    let ey = c.u16_at-y.ensures.0 in
    let few : a.s.p ≤ 16 = c.requires.p_le_variable_limit.0 in
    (omega arith, omega arith, omega arith)

pub returns-then-left-others : goal.returns-then-left-others
returns-then-left-others c =
    let a = c.args in
    let l = c.loop-i in
    let more = last_child (numbered a.s) (u16 a.b.now a.at) a.m in
    c.put_string.ensures
    ∙ ap₂ (λ (v : List ℤ) (h : List Fact). branch_of v a.count ++ h) l.invariant.0
    (ap₂ (λ (x y : ℕ). same x y ∷ []) c.u16_at-x.ensures.0 c.u16_at-y.ensures.0
    ∙ sym (pair_here a.b.now (a.at + 2 * l.i) (a.m - 1 - l.i) more l.left c.if-left-others.true)
    ∙ l.invariant.3
    ∙ sym (child_at_law (pair_children (u16s a.b.now a.at a.m) more) a.k c.requires.le_k.0))

pub loop-i-preserved : goal.loop-i-preserved
loop-i-preserved c =
    let a = c.args in
    let l = c.loop-i in
    let more = last_child (numbered a.s) (u16 a.b.now a.at) a.m in
    let some : 0 < a.m - 1 - l.i = omega arith in
    let n = pair_count a.b.now (a.at + 2 * l.i) (a.m - 1 - l.i) more some in
    let place : a.at + 2 * (l.i + 1) ≡ a.at + 2 * l.i + 2 = omega arith in
    let fewer : a.m - 1 - (l.i + 1) ≡ a.m - 1 - l.i - 1 = omega arith in
    rw (place, fewer) (
      l.invariant.0,
      below_rest a.b.now a.s.p (a.at + 2 * l.i) (a.m - 1 - l.i) some l.invariant.1,
      omega arith,
      pair_there a.b.now (a.at + 2 * l.i) (a.m - 1 - l.i) more l.left some (omega arith) ∙ l.invariant.3,
    )

-- the last child is left
module _ (c : After-put_bound-arg-1) where
  abbrev last : List (List Fact)
  last = last_child (numbered c.args.s) (u16 c.args.b.now c.args.at) c.args.m

  is-left : c.loop-i.left < length last
  is-left =
      let a = c.args in
      let l = c.loop-i in
      subst (λ (cs : List (List Fact)). l.left < length cs)
      (pairs_none a.b.now (a.at + 2 * l.i) (a.m - 1 - l.i) last (omega arith)) l.invariant.2

pub put_bound-requires-clause-x_lt_variable_limit : goal.put_bound-requires-clause-x_lt_variable_limit
put_bound-requires-clause-x_lt_variable_limit c =
    let a = c.args in
    let x = below_first a.b.now a.s.p a.at a.m (omega (arith, c.requires.le_m)) c.requires.le_m.3 in
    let ex = c.u16_at.ensures.0 in
    let few : a.s.p ≤ 16 = c.requires.p_le_variable_limit.0 in (
      omega arith,
      c.requires.le_m.1,
      last_some a.s (u16 a.b.now a.at) a.m c.loop-i.left (is-left (goal.at.put_bound-requires-clause-x_lt_variable_limit c).After-put_bound-arg-1),
      c.requires.p_le_variable_limit.3,
      c.requires.p_le_variable_limit.0,
      c.requires.p_le_variable_limit.1,
    )

pub returns : goal.returns
returns c =
    let a = c.args in
    let l = c.loop-i in
    let more = last_child (numbered a.s) (u16 a.b.now a.at) a.m in
    let h : l.left < length more = is-left (goal.at.returns c).After-put_bound-arg-1 in
    let first : 0 ≡ l.left = omega (arith, last_short a.s (u16 a.b.now a.at) a.m) in
    c.put_bound.ensures
    ∙ ap₂ (λ (v : List ℤ) (g : List Fact). branch_of v a.count ++ g) l.invariant.0
    (ap (λ (x : ℕ). or_none (child_at (last_child (numbered a.s) x a.m) 1)) c.u16_at.ensures.0
    ∙ child_at_law more 1 (omega arith)
    ∙ ap (λ (j : ℕ). get_or more j []) first
    ∙ sym (ap (λ (cs : List (List Fact)). get_or cs l.left []) (pairs_none a.b.now (a.at + 2 * l.i) (a.m - 1 - l.i) more (omega arith)))
    ∙ l.invariant.3
    ∙ sym (child_at_law (pair_children (u16s a.b.now a.at a.m) more) a.k c.requires.le_k.0))
