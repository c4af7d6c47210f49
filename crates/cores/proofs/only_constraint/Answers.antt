use Prim.Native.Nat.{◌+◌, ◌-◌, ◌<◌, ℕ}
use mathlib.Core.Path.{◌∙◌, ◌≡◌, ap, sym}
use native.Mathlib.Omega.{arith}
use Rattle.calculus.specs.Cores.{only}
use Rattle.cores.proofs.Laws.{two_words}
use Rattle.cores.proofs.Filling.{one_shifted, words_only_high, words_only_low}
use Rattle.cores.specs.Words.{words_of}
use Rattle.cores.proofs.only_constraint.Goals as goal

pub returns-then-k-lt64 : goal.returns-then-k-lt64
returns-then-k-lt64 c =
    let k = c.args.k in
    let h : k < 64 = c.if-k-lt64.true in
    ap (λ (n : ℕ). two_words n 0) (one_shifted k h) ∙ sym (words_only_low k h)

pub returns-else-k-lt64 : goal.returns-else-k-lt64
returns-else-k-lt64 c =
    let k = c.args.k in
    let h : k - 64 < 64 = omega (arith, c.if-k-lt64.false, c.requires) in
    let e : k - 64 + 64 ≡ k = omega (arith, c.if-k-lt64.false) in
    ap (λ (n : ℕ). two_words 0 n) (one_shifted (k - 64) h) ∙ sym (words_only_high (k - 64) h) ∙ ap (λ (i : ℕ). words_of (only i)) e
