use Prim.Native.Nat.{◌+◌, ◌-◌, ℕ}
use mathlib.Core.Bool.{false, true}
use mathlib.Core.List.{List}
use mathlib.Core.Path.{◌∙◌, ◌≡◌, ap, sym}
use native.Mathlib.Omega.{arith}
use Rattle.calculus.specs.Strings.{fresh_from, given, word}
use Rattle.strings.proofs.Words.{fresh_done, fresh_no, fresh_yes}
use Rattle.strings.specs.Filling.{given_strings}
use Rattle.strings.proofs.fresh.Goals as goal

pub loop-k-init : goal.loop-k-init
loop-k-init c =
    let s = c.args in
    let e : s.p - 0 ≡ s.p = omega arith in
    ap (λ (d : ℕ). fresh_from d s.n s.m (given_strings s.characters.now s.sizes.now s.p) 0) e

pub returns-then-not-is_given : goal.returns-then-not-is_given
returns-then-not-is_given c =
    let l = c.loop-k in
    let s = c.args in
    let g = given_strings s.characters.now s.sizes.now s.p in
    let e : given (word s.n s.m l.k) g ≡ false =
    ap (λ (w : List ℕ). given w g) (sym c.nth_word-w.ensures)
    ∙ sym c.is_given.ensures
    ∙ c.if-not-is_given.true in
    c.nth_word-w.ensures ∙ sym (fresh_yes s.n s.m g l.k (s.p - l.k) e) ∙ l.invariant

pub loop-k-preserved : goal.loop-k-preserved
loop-k-preserved c =
    let l = c.loop-k in
    let s = c.args in
    let g = given_strings s.characters.now s.sizes.now s.p in
    let e : given (word s.n s.m l.k) g ≡ true =
    ap (λ (w : List ℕ). given w g) (sym c.nth_word-w.ensures)
    ∙ sym c.is_given.ensures
    ∙ c.if-not-is_given.false in
    let less : s.p - (l.k + 1) ≡ s.p - l.k - 1 = omega arith in
    ap (λ (d : ℕ). fresh_from d s.n s.m g (l.k + 1)) less ∙ sym (fresh_no s.n s.m g l.k (s.p - l.k) (omega arith) e) ∙ l.invariant

pub returns : goal.returns
returns c =
    let l = c.loop-k in
    let s = c.args in
    let g = given_strings s.characters.now s.sizes.now s.p in
    let e : s.p ≡ l.k = omega arith in
    c.nth_word.ensures ∙ ap (λ (k : ℕ). word s.n s.m k) e ∙ sym (fresh_done s.n s.m g l.k (s.p - l.k) (omega arith)) ∙ l.invariant
