use borrow.Author.Tests.{ne_eqb}
use Prim.Native.Nat.{◌+◌, ◌/◌, ℕ}
use mathlib.Core.List.{List}
use native.Mathlib.Omega.{arith}
use mathlib.Core.Path.{◌≡◌, ◌∙◌, sym}
use Rattle.std.proofs.Common.{rules, tests, length}
use Rattle.std.specs.List.{zip}
use Rattle.std.proofs.lemmas.Iterator.{YieldsList-from_zip}
use Rattle.std.proofs.lemmas.Iterator.Consumers.{YieldsList-from_first}
use Rattle.std.proofs.lemmas.Iterator.Search.{all_from_yields_List}
use Rattle.format.specs.Places.{text_at}
use Rattle.format.specs.Records.{size}
use Rattle.format.proofs.Fields.{length_u32s}
use Rattle.extended.proofs.Loops.{cased_is, cased_lengths, same_cased}
use Rattle.extended.proofs.cased.Goals as goal
use Rattle.extended.proofs.cased.Goals.{then-u32_at, else-u32_at}

-- how many characters a text has
long : (v : List ℕ) (at : ℕ) → length (text_at v at) ≡ size v at / 4
long v at = length_u32s v (at + 6) (size v at / 4)

pub returns : goal.returns
returns g c =
    λ f h.
    let s = c.args in
    let v = s.v.now in
    elim c.if-u32_at.branch [
      | then-u32_at w ↦
          let even : size v s.x / 4 ≡ size v s.y / 4 = omega (arith, c.u32_at.ensures.0, c.u32_at-2.ensures.0, w.if-u32_at.true) in
          w.result-is
          ∙ all_from_yields_List {s = w.zip.result} {all = zip w.characters.result w.characters-then-u32_at.result} (same_cased f) w.all.new.self _ _
          w.all.ensures.ran
          (YieldsList-from_zip {v = λ (n : ℕ). n} {w = λ (n : ℕ). n} (YieldsList-from_first (λ (n : ℕ). n) (λ (l : List ℕ). l) _ w.zip.ensures.first)
          (YieldsList-from_first (λ (n : ℕ). n) (λ (l : List ℕ). l) _ w.zip.ensures.second))
          (λ x b q k. search (rules, tests, h))
          ∙ rw (w.characters.ensures, w.characters-then-u32_at.ensures) (cased_is f (text_at v s.x) (text_at v s.y) (long v s.x ∙ even ∙ sym (long v s.y)))
      | else-u32_at w ↦
          let uneven : size v s.x / 4 ≡ size v s.y / 4 → ⊥ = λ e. w.if-u32_at.false (omega (arith, c.u32_at.ensures.0, c.u32_at-2.ensures.0, e)) in
          w.result-is ∙ ne_eqb _ _ w.if-u32_at.false ∙ sym (cased_lengths f (text_at v s.x) (text_at v s.y) (λ e. uneven (sym (long v s.x) ∙ e ∙ long v s.y)))
    ]
