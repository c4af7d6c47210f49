use borrow.Author.Rules.{rules}
use Prim.Native.Nat.{◌<◌}
use lib.ListN.{length, length-set}
use mathlib.Core.Path.{refl, ◌∙◌}
use native.Mathlib.Omega.{arith}
use Rattle.calculus.specs.Cores.{only}
use Rattle.cores.proofs.Filling.{stored_more}
use Rattle.cores.specs.Words.{words_of}
use Rattle.cores.proofs.root_sets.Goals as goal

pub loop-k-init : goal.loop-k-init
loop-k-init c = (λ j h. absurd (omega arith), refl)

pub loop-k-preserved : goal.loop-k-preserved
loop-k-preserved c =
    let l = c.loop-k in
    let there : l.k < length c.args.sets.now = search (rules, c.requires) in
    let room : l.k < length l.sets = omega (arith, l.invariant.1) in (
      λ j h. stored_more (λ i. words_of (only i)) l.sets 0 l.k c.only_constraint.result room c.only_constraint.ensures (λ i x. l.invariant.0 i) j (omega arith) h,
      length-set l.sets l.k c.only_constraint.result ∙ l.invariant.1,
    )

pub returns : goal.returns
returns c = λ k h. c.loop-k.invariant.0 k (omega arith)
