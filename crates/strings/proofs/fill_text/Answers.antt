use Prim.Native.Nat.{ℕ, ◌+◌, ◌<◌}
use lib.ListN.{length, length-set, set, take}
use mathlib.Core.List.{List, [], ◌∷◌, ◌++◌, append_assoc, append-nil}
use mathlib.Core.Path.{◌∙◌, ◌≡◌, ap, refl, sym}
use native.Mathlib.Omega.{arith}
use Rattle.std.proofs.lemmas.List.{take_more_set}
use Rattle.format.proofs.Fields.{length_u32s}
use Rattle.format.specs.Fields.{u32s}
use Rattle.strings.proofs.fill_text.Goals as goal

pub loop-i-init : goal.loop-i-init
unfolding u32s
loop-i-init c =
    let s = c.args in
    let items = c.enumerate-i-items.ensures in
    rw (c.into_iter-i-iterator.ensures.into_iter_gives, items.source, items.count, c.fields_at.ensures)
    (refl, omega (arith, length_u32s s.ticket.now s.at s.count), refl)

pub bounds-row-i : goal.bounds-row-i
bounds-row-i c =
    let step = c.in-Some.ensures.steps in
    omega (arith, step.1, c.loop-i.invariant.0, c.loop-i.invariant.1, ap length step.0)

pub loop-i-preserved : goal.loop-i-preserved
loop-i-preserved c =
    let l = c.loop-i in
    let i = c.in-Some.i in
    let rest = c.next.new.self.iter in
    let step = c.in-Some.ensures.steps in
    let inside : i < length l.row = omega (arith, step.1, l.invariant.0, l.invariant.1, ap length step.0) in
    let next : c.next.new.self.count ≡ i + 1 = omega (arith, step.1, step.2) in (
      simp length-set l.invariant.0,
      omega (arith, step.1, step.2, l.invariant.1, ap length step.0),
      ap (λ (k : ℕ). take k (set l.row i c.in-Some.character) ++ rest) next
          ∙ ap (λ (t : List ℕ). t ++ rest) (take_more_set l.row i c.in-Some.character inside)
          ∙ append_assoc (take i l.row) (c.in-Some.character ∷ []) rest
          ∙ ap (λ (k : ℕ). take k l.row ++ c.in-Some.character ∷ rest) step.1
          ∙ ap (λ (t : List ℕ). take l.i-iterator.count l.row ++ t) (sym step.0)
          ∙ l.invariant.2,
    )

pub returns : goal.returns
returns c =
    let l = c.loop-i in
    let none = c.in-None.ensures.steps.0.0 in
    let all : c.args.count ≡ l.i-iterator.count = omega (arith, l.invariant.1, ap length none) in
    ap (λ (k : ℕ). take k l.row) all
    ∙ sym (append-nil (take l.i-iterator.count l.row))
    ∙ ap (λ (t : List ℕ). take l.i-iterator.count l.row ++ t) (sym none)
    ∙ l.invariant.2
