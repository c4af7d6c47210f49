use Prim.Native.Nat.{◌*◌, ◌+◌, ◌-◌, ◌<◌, ◌≤◌, ℕ}
use borrow.Author.Rules.{rules}
use lib.ListN.{drop, length, length-drop, length-set, set, take}
use lib.Seq.{length-sets, length-take-le, sets}
use mathlib.Core.List.{List, ◌++◌}
use mathlib.Core.Path.{◌∙◌, ◌≡◌, ap, refl}
use native.Mathlib.Omega.{arith}
use Rattle.question.specs.Posed.{asked}
use Rattle.strings.proofs.Table.{part_stored, stored_passed}
use Rattle.strings.specs.Filling.{string_in, fixed_at}
use Rattle.strings.proofs.give_fixed.Goals as goal

no_number : {A : Type 0} (y : ℕ) → y < 0 → A
no_number y h = absurd (omega arith)

pub loop-x-init : goal.loop-x-init
loop-x-init c = (refl, refl, λ y h. no_number y h)

pub fill_fixed-requires : goal.fill_fixed-requires
fill_fixed-requires c =
    record {
      leaf_ready = (c.requires.leaf_ready.0, search rules, search rules);
      within = c.requires.within;
    }

pub loop-x-preserved : goal.loop-x-preserved
loop-x-preserved c =
    let l = c.loop-x in
    let s = c.args in
    let r = c.fill_fixed in
    let v = r.new.row in
    let at = 64 * l.x in
    let room : at + (at + 64 - at) ≤ length l.characters = omega arith in
    let part : length (take (at + 64 - at) (drop at l.characters)) ≡ at + 64 - at =
    length-take-le (at + 64 - at) (drop at l.characters) (rw length-drop (omega arith)) in
    let n : length v ≡ at + 64 - at = r.auto.row ∙ part in
    let p : take at l.characters ++ (v ++ drop (at + 64 - at) (drop at l.characters)) ≡ sets l.characters at v =
    part_stored l.characters v at (at + 64 - at) n room in (
      ap length p ∙ length-sets l.characters at v ∙ l.invariant.0,
      simp length-set l.invariant.1,
      λ y h. ap (λ (cs : List ℕ). string_in cs (set l.sizes l.x r.result) y) p
          ∙ stored_passed l.characters l.sizes l.x r.result v (omega arith) (λ q. omega arith) (omega arith) (omega arith)
          (fixed_at (asked s.leaf.now.ticket.now s.leaf.now.s) s.leaf.now.labels.now s.leaf.now.model.now) l.invariant.2 r.ensures y h,
    )

pub shape_of-characters : goal.shape_of-characters
shape_of-characters c = c.loop-x.invariant.0

pub returns : goal.returns
returns c =
    let l = c.loop-x in
    λ y h. l.invariant.2 y (omega arith)
