use Prim.Native.Nat.{◌-◌, ℕ}
use lib.IntN.{nat_abs, ℤ}
use lib.ListN.{drop, length}
use native.Mathlib.Omega.{arith}
use mathlib.Core.List.{List, [], ◌∷◌, reverse}
use mathlib.Core.Path.{◌∙◌, ◌≡◌, ap, refl, sym}
use Rattle.std.proofs.Common.{rules, tests}
use Rattle.std.proofs.lemmas.Fn.{fold_over}
use Rattle.std.proofs.lemmas.Iterator.Adapters.{YieldsList-from_rev_slice}
use Rattle.std.proofs.lemmas.List.{reverse-append, reverse-reverse}
use Rattle.std.specs.Iterator.Adapters.{rev_steps}
use Rattle.std.specs.Slice.Iter.{iter_steps_back}
use Rattle.calculus.specs.NormalForms.{divisor_of, gcd}
use Rattle.normal.proofs.Laws.{divisor_small}
use Rattle.rows.proofs.Chains.{part_from}
use Rattle.normal.proofs.divisor.Goals as goal

pub returns : goal.returns
unfolding divisor_of
returns c =
    let row = c.args.row.now in
    let source : c.rev.result.iter.rest.now ≡ c.iter.result.rest.now = search rules in
    let e : c.fold.result ≡ divisor_of (drop 1 row) =
    fold_over (rev_steps iter_steps_back) (λ y. y.now) _ (λ (ys : List ℤ) (a : ℕ). a ≡ divisor_of (reverse ys)) _
    (λ ys a x b q j k.
    let e : b ≡ gcd (nat_abs x.now) a = search (rules, tests) in
    (e ∙ ap (gcd (nat_abs x.now)) j ∙ ap divisor_of (sym (reverse-append ys (x.now ∷ []))), search (rules, tests)))
    c.rev.result (reverse (drop 1 row)) 0 c.fold.result (YieldsList-from_rev_slice {s = c.rev.result} (drop 1 row)
    (source ∙ c.iter.ensures.rest ∙ part_from row 1 (length row - 1) (omega arith))).runs refl c.fold.ensures.ran
    ∙ ap divisor_of (reverse-reverse (drop 1 row)) in
    (e, rw e (divisor_small (drop 1 row) c.requires.1))
