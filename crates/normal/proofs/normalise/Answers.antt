use Prim.Native.Nat.{◌*◌, ◌+◌, ◌-◌, ℕ}
use borrow.Rule.Slice.PartMut.{same_len_mid}
use lib.IntN.{ℤ}
use lib.ListN.{length, take}
use mathlib.Core.List.{List, map}
use mathlib.Core.Path.{◌∙◌, ◌≡◌, ap, refl, subst}
use native.Mathlib.Omega.{arith}
use Rattle.calculus.specs.NormalForms.{normal}
use Rattle.format.specs.Checking.{fact_within}
use Rattle.normal.proofs.Laws.{behind_filled, normal_more}
use Rattle.rows.proofs.Branches.{branch_filled, length_row}
use Rattle.rows.proofs.Small.{fine_at}
use Rattle.rows.specs.Rows.{branch_of, fact_of, row_at, row_length}
use Rattle.normal.proofs.normalise.Goals as goal
use Rattle.normal.proofs.normalise.Goals.{In-loop-k}

width : (k : ℕ) → row_length * k + row_length - row_length * k ≡ row_length
width k = omega arith

-- the row in turn is as it was
own : (c : In-loop-k) → row_at c.loop-k.work c.loop-k.k ≡ row_at c.args.work.now c.loop-k.k
own c = ap (λ (l : List ℤ). take row_length l) c.loop-k.invariant.2

pub loop-k-init : goal.loop-k-init
unfolding branch_of
loop-k-init c = (refl, refl, refl)

pub overflow_mul-from : goal.overflow_mul-from
overflow_mul-from c = let f = c.requires in omega (arith, f.few)

pub normalise_row-requires : goal.normalise_row-requires
normalise_row-requires c =
    let l = c.loop-k in
    let few = c.requires.few in
    let room = c.requires.room in
    rw (width l.k) (
      length_row l.work l.k (omega arith),
      ap (λ (row : List ℤ). fact_within (fact_of row)) (own (goal.at.normalise_row-requires c).In-loop-k)
          ∙ fine_at c.args.work.now c.args.count l.k c.requires (omega arith),
    )

pub loop-k-preserved : goal.loop-k-preserved
loop-k-preserved c =
    let l = c.loop-k in
    let w₀ : List ℤ = c.args.work.now in
    let row : List ℤ = c.normalise_row.new.row in
    let few = c.requires.few in
    let room = c.requires.room in
    let part = c.normalise_row.auto.row in
    let n : length row ≡ row_length = part ∙ rw (width l.k) (length_row l.work l.k (omega arith)) in
    let e : fact_of row ≡ normal (fact_of (row_at l.work l.k)) = rw (width l.k) at c.normalise_row.ensures in (
      same_len_mid (row_length * l.k) (row_length * l.k + row_length - row_length * l.k) l.work row part ∙ l.invariant.0,
      normal_more w₀ l.work _ l.k l.invariant.1 (own (goal.at.loop-k-preserved c).In-loop-k) (branch_filled l.work row l.k _ (omega arith) n e),
      behind_filled w₀ l.work row l.k (omega arith) n l.invariant.2,
    )

pub shape_of-work : goal.shape_of-work
shape_of-work c = c.loop-k.invariant.0

pub returns : goal.returns
returns c =
    let l = c.loop-k in
    let e : l.k ≡ c.args.count = omega arith in
    subst (λ (k : ℕ). branch_of l.work k ≡ map normal (branch_of c.args.work.now k)) e l.invariant.1
