use Prim.Native.Nat.{ℕ, ◌+◌, ◌/◌}
use lib.Dec.{leb}
use lib.ListN.{length}
use mathlib.Core.List.{List, []}
use mathlib.Core.Logic.{◌⊎◌, inl, inr}
use mathlib.Core.Path.{◌≡◌, ◌∙◌, refl, sym, ap₂}
use native.Mathlib.Omega.{arith}
use Rattle.calculus.specs.Extended.{precedes}
use Rattle.format.specs.Places.{text_at}
use Rattle.format.specs.Records.{size}
use Rattle.format.proofs.Fields.{length_u32s}
use Rattle.extended.proofs.Loops.{order_on, order_apart, order_ends}
use Rattle.extended.proofs.precedes.Goals as goal

pub loop-c-init : goal.loop-c-init
loop-c-init c =
    let z = c.zip-c-items.ensures in
    let e = c.into_iter-c-iterator.ensures.into_iter_gives in
    rw (e, z.first, z.second, c.characters.ensures, c.characters-2.ensures) (refl, omega arith)

pub returns-then-c-d : goal.returns-then-c-d
returns-then-c-d c =
    let (e, f) = c.in-Some.ensures.steps in
    sym (order_apart c.in-Some.c c.in-Some.d _ _ c.if-c-d.true) ∙ sym (ap₂ precedes e f) ∙ c.loop-c.invariant.0

pub loop-c-preserved : goal.loop-c-preserved
loop-c-preserved c =
    let (e, f) = c.in-Some.ensures.steps in
    let i = c.loop-c.invariant in
    (sym (order_on c.in-Some.c c.in-Some.d _ _ c.if-c-d.false) ∙ sym (ap₂ precedes e f) ∙ i.0, omega (arith, rw (e, f) at i.1))

pub returns : goal.returns
returns c =
    let v = c.args.v.now in
    let i = c.loop-c.invariant in
    let ends : (c.loop-c.c-iterator.a ≡ []) ⊎ (c.loop-c.c-iterator.b ≡ []) = elim c.in-None.ensures.steps [ inl p ↦ inl p.1.0 | inr p ↦ inr p.1.0 ] in
    let long : (at : ℕ) → length (text_at v at) ≡ size v at / 4 = λ at. length_u32s v (at + 6) (size v at / 4) in
    ap₂ (λ (m k : ℕ). leb (m / 4) (k / 4)) c.u32_at.ensures.0 c.u32_at-2.ensures.0
    ∙ sym (ap₂ leb (long c.args.x) (long c.args.y))
    ∙ order_ends c.loop-c.c-iterator.a c.loop-c.c-iterator.b (length (text_at v c.args.x)) (length (text_at v c.args.y)) ends i.1
    ∙ i.0
