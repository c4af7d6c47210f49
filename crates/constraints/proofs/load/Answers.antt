use Prim.Native.Nat.{ℕ, ◌+◌, ◌-◌}
use lib.IntN.{ℤ}
use lib.ListN.{length}
use mathlib.Core.List.{List, [], ◌∷◌, ◌++◌}
use mathlib.Core.Path.{◌∙◌, ◌≡◌, ap, ap₂, refl, sym, subst}
use native.Mathlib.Numerals.{add-one}
use native.Mathlib.Omega.{arith}
use Rattle.calculus.specs.Facts.{Fact}
use Rattle.format.proofs.Places.{skip_snoc}
use Rattle.format.specs.Places.{facts_at, skip}
use Rattle.calculus.specs.Limits.{variable_limit, literal_limit, column_limit}
use Rattle.format.specs.Question.{fact_fault, body_fact}
use Rattle.format.specs.Records.{kind, next, size}
use Rattle.question.proofs.Posed.{literals_whole}
use Rattle.question.specs.Posed.{asked}
use Rattle.format.specs.Standing.{FactAt}
use Rattle.rows.proofs.Small.{fine_put, fine_start}
use Rattle.rows.specs.Rows.{branch_of}
use Rattle.rows.specs.Work.{Fine}
use Rattle.constraints.proofs.Loading.{loaded_all, loaded_more}
use Rattle.constraints.proofs.Ranges.{constraint_more, constraint_within}
use Rattle.constraints.proofs.load.Goals as goal
use Rattle.constraints.proofs.load.Goals.{In-loop-k}

pub behind_literals-at-requires : goal.behind_literals-at-requires
behind_literals-at-requires c = literals_whole c.requires.0

pub loop-k-init : goal.loop-k-init
unfolding skip branch_of
loop-k-init c =
    let e : c.args.s.constraints - 0 ≡ c.args.s.constraints = omega arith in
    (refl, refl, fine_start c.args.work.now c.requires.1, rw e)

-- the record in turn
stands : (c : In-loop-k) →
    let a = c.args in
    FactAt a.ticket.now a.s.p a.s.q a.s.literals c.loop-k.at
stands c =
    rw (c.loop-k.invariant.0, c.behind_literals-at.ensures) (c.requires.0.stands.constraints_stand c.loop-k.k (omega arith))

formed : (c : In-loop-k) →
    let b = c.args.ticket.now in
    let at' = c.loop-k.at in
    fact_fault b variable_limit literal_limit column_limit (kind b at') (at' + 6) (size b at') ≡ 0
formed c =
    let h = c.requires.0.stands in
    constraint_more _ _ _ _ _ _ _ h.few_strings h.few_literals (omega (arith, h.few_strings, h.few_integers)) (stands c).formed

pub u32_at-size-requires : goal.u32_at-size-requires
u32_at-size-requires c = omega (arith, (stands c).whole)

pub overflow_add-at : goal.overflow_add-at
overflow_add-at c = omega (arith, (stands (goal.at.overflow_add-at c).In-loop-k).whole)

pub overflow_add-at-in-loop-k : goal.overflow_add-at-in-loop-k
overflow_add-at-in-loop-k c = omega (arith, (stands (goal.at.overflow_add-at-in-loop-k c).In-loop-k).whole)

pub overflow_add-at-in-loop-k-3 : goal.overflow_add-at-in-loop-k-3
overflow_add-at-in-loop-k-3 c = omega (arith, (stands (goal.at.overflow_add-at-in-loop-k-3 c).In-loop-k).whole, c.u32_at-size.ensures.0)

pub u16_at-kind-requires : goal.u16_at-kind-requires
u16_at-kind-requires c = omega (arith, (stands (goal.at.u16_at-kind-requires c).In-loop-k).whole)

pub put_constraint-requires : goal.put_constraint-requires
put_constraint-requires c =
    let l = c.loop-k in
    record {
      k_lt_fact_limit = (omega (arith, c.requires.0.few_constraints), l.invariant.2.room);
      size_in_bounds = rw (c.u16_at-kind.ensures.0, c.u32_at-size.ensures.0)
          (omega (arith, (stands (goal.at.put_constraint-requires c).In-loop-k).whole), formed (goal.at.put_constraint-requires c).In-loop-k);
    }

pub loop-k-preserved : goal.loop-k-preserved
loop-k-preserved c =
    let l = c.loop-k in
    let b : List ℕ = c.args.ticket.now in
    let from : ℕ = c.behind_literals-at.result in
    let v : List ℤ = c.put_constraint.new.work in
    let f : Fact = body_fact b (kind b l.at) (l.at + 6) (size b l.at) in
    let size_is : c.u32_at-size.result ≡ size b l.at = c.u32_at-size.ensures.0 in
    let put : branch_of v (l.k + 1) ≡ branch_of l.work l.k ++ (f ∷ []) =
    c.put_constraint.ensures
    ∙ ap₂ (λ (k m : ℕ). branch_of l.work l.k ++ (body_fact b k (l.at + 6) m ∷ [])) c.u16_at-kind.ensures.0 size_is in
    let kept : length v ≡ length l.work = c.put_constraint.auto.work in
    let less : c.args.s.constraints - l.k - 1 ≡ c.args.s.constraints - (l.k + 1) = omega arith in
    let few = c.requires.0.few_constraints in
    let place : l.at + (6 + size b l.at) ≡ next b l.at = omega arith in
    rw (size_is, place) (
      ap (next b) l.invariant.0 ∙ sym (skip_snoc b l.k from) ∙ ap (λ (k : ℕ). skip b k from) (sym (add-one l.k)),
      kept ∙ l.invariant.1,
      fine_put l.work v l.k f l.invariant.2 (omega arith) kept put
          (constraint_within b _ _ _ (kind b l.at) (l.at + 6) (size b l.at) (formed (goal.at.loop-k-preserved c).In-loop-k)),
      rw (put, ← less) (loaded_more b l.at (c.args.s.constraints - l.k) (branch_of l.work l.k) (omega arith)) ∙ l.invariant.3,
    )

pub shape_of-work : goal.shape_of-work
shape_of-work c = c.loop-k.invariant.1

pub returns : goal.returns
unfolding asked
returns c =
    let l = c.loop-k in
    let s = c.args in
    let e : l.k ≡ s.s.constraints = omega arith in
    let all : branch_of l.work l.k ≡ facts_at s.ticket.now s.s.constraints c.behind_literals-at.result =
    sym (loaded_all s.ticket.now l.at (s.s.constraints - l.k) (branch_of l.work l.k) (omega arith)) ∙ l.invariant.3 in record {
      loaded = ap (branch_of l.work) (sym e) ∙ all ∙ ap (facts_at s.ticket.now s.s.constraints) c.behind_literals-at.ensures;
      fine = subst (Fine l.work) e l.invariant.2;
    }
