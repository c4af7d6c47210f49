use Prim.Native.Nat.{◌*◌, ◌+◌, ◌-◌, ◌<◌, ◌≤◌, ℕ}
use mathlib.Core.Path.{◌≡◌, ◌∙◌, ap₂, refl, sym, subst}
use native.Mathlib.Omega.{arith}
use Rattle.calculus.specs.Cores.{lengths_set}
use Rattle.cores.proofs.Resting.{gathers_all, gathers_done, gathers_more, neighbours_done, neighbours_next}
use Rattle.cores.specs.Sets.{Stands}
use Rattle.cores.specs.Words.{words_of}
use Rattle.format.specs.Fields.{u16}
use Rattle.question.specs.Posed.{numbered}
use Rattle.steps.proofs.Variables.{distinct_rest, neighbours_differ, below_first, below_second, below_rest}
use Rattle.cores.proofs.neighbour_sets.Goals as goal
use Rattle.cores.proofs.neighbour_sets.Invariants.{Onward}

pub loop-k-init : goal.loop-k-init
loop-k-init c =
    let a = c.args in
    let first : a.at ≡ a.at + 2 * 0 = omega arith in
    let all : a.others ≡ a.others - 0 = omega arith in
    subst (λ i. Onward a.b.now a.s (Stands a.work.now a.sets.now a.count) a.at a.others c.no_constraint-set.result i (a.others - 0)) first
    (subst (Onward a.b.now a.s (Stands a.work.now a.sets.now a.count) a.at a.others c.no_constraint-set.result a.at) all
    (record { variables = c.requires.others_value; gathered = λ r h d. (d, gathers_all _ _ _ c.no_constraint-set.ensures refl) }))

pub lengths_set-requires-clause-x_lt_variable_limit : goal.lengths_set-requires-clause-x_lt_variable_limit
lengths_set-requires-clause-x_lt_variable_limit c =
    let l = c.loop-k in
    let b = c.args.b.now in
    let p = c.args.s.p in
    let i = c.args.at + 2 * l.k in
    let left = c.args.others - l.k in
    let more : 0 < left = omega arith in
    let x = below_first b p i (left + 1) (omega arith) l.invariant.variables in
    let y = below_second b p i left more l.invariant.variables in
    let few : p ≤ 16 = c.requires.others_in_bounds.1 in
    (omega (arith, x, c.u16_at.ensures.0), omega (arith, y, c.u16_at-in-loop-k.ensures.0), few, c.requires.others_in_bounds.2)

pub loop-k-preserved : goal.loop-k-preserved
loop-k-preserved c =
    let l = c.loop-k in
    let a = c.args in
    let b = a.b.now in
    let u = numbered a.s in
    let i = a.at + 2 * l.k in
    let left = a.others - l.k in
    let more : 0 < left = omega arith in
    let next : i + 2 ≡ a.at + 2 * (l.k + 1) = omega arith in
    let fewer : left - 1 ≡ a.others - (l.k + 1) = omega arith in
    subst (λ j. Onward b a.s (Stands a.work.now a.sets.now a.count) a.at a.others c.bitor_assign.new.self j (a.others - (l.k + 1))) next
    (subst (Onward b a.s (Stands a.work.now a.sets.now a.count) a.at a.others c.bitor_assign.new.self (i + 2)) fewer
    (record {
      variables = below_rest b a.s.p i left more l.invariant.variables;
      gathered = λ r h d.
          let (e, g) = l.invariant.gathered r h d in (
            distinct_rest b i left more e,
            gathers_more l.set c.lengths_set.result c.bitor_assign.new.self _ (lengths_set u r (u16 b i) (u16 b (i + 2))) _ _
                (neighbours_next u r b i left more)
                (c.lengths_set.ensures r h (λ q. neighbours_differ b i left more e (sym c.u16_at.ensures.0 ∙ q ∙ c.u16_at-in-loop-k.ensures.0))
                ∙ ap₂ (λ (x y : ℕ). words_of (lengths_set u r x y)) c.u16_at.ensures.0 c.u16_at-in-loop-k.ensures.0)
                c.bitor_assign.ensures.after g,
          );
    }))

pub returns : goal.returns
returns c = λ r h d.
    let l = c.loop-k in
    let a = c.args in
    gathers_done _ _ _ (neighbours_done (numbered a.s) r a.b.now (a.at + 2 * l.k) (a.others - l.k) (omega arith)) (l.invariant.gathered r h d).1
