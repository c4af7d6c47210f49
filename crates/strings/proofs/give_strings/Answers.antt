use Prim.Native.Nat.{◌*◌, ◌+◌, ◌<◌, ◌≤◌, ℕ}
use borrow.Author.Rules.{rules}
use lib.IntN.{nat_abs}
use lib.ListN.{length, length-set, set}
use mathlib.Core.List.{List}
use mathlib.Core.Path.{◌∙◌, ◌≡◌, ap, refl, subst, sym}
use native.Mathlib.Omega.{arith}
use Rattle.calculus.specs.Facts.{len}
use Rattle.calculus.specs.Model.{model_value}
use Rattle.question.proofs.Posed.{some_character}
use Rattle.question.specs.Posed.{asked}
use Rattle.strings.proofs.Rounds.{Filled, completed_is, round_done, round_more, round_start, sizes_more}
use Rattle.strings.specs.Filling.{completed}
use Rattle.strings.proofs.give_strings.Goals as goal

pub give_fixed-sizes-requires : goal.give_fixed-sizes-requires
give_fixed-sizes-requires c =
    let pre = c.requires in
    record {
      leaf_ready = pre.leaf_ready;
      within = pre.within;
    }

pub loop-x-init : goal.loop-x-init
unfolding asked
loop-x-init c =
    let k : length c.give_fixed-sizes.new.characters ≡ length c.args.characters.now =
    c.give_fixed-sizes.auto.characters in (
      c.requires.leaf_ready.0.posed.stands.few_strings,
      omega (arith, c.requires.leaf_ready.1),
      refl,
      c.give_fixed-sizes.type_inv.1.0.1,
      (λ y h. omega arith),
      λ b e. round_start (asked c.args.leaf.now.ticket.now c.args.leaf.now.s) b c.args.leaf.now.model.now c.args.leaf.now.labels.now _ _ e
          c.give_fixed-sizes.ensures,
    )

pub complete-requires : goal.complete-requires
unfolding asked
complete-requires c =
    let l = c.loop-x in record {
      modelled = (
        search rules,
        some_character c.requires.leaf_ready.0.posed,
        c.requires.leaf_ready.0.posed.stands.few_characters,
        c.loop-x-test.true,
        l.invariant.1,
      );
      x_in_bounds = c.requires.short_sizes l.x c.loop-x-test.true;
      by_index = l.invariant.4;
    }

pub bounds-sizes-x : goal.bounds-sizes-x
bounds-sizes-x c =
    let args = c.args in
    let l = c.loop-x in
    let h : l.x < args.leaf.now.s.p = c.loop-x-test.true in
    omega (arith, l.invariant.0)

pub loop-x-preserved : goal.loop-x-preserved
unfolding asked
loop-x-preserved c =
    let l = c.loop-x in
    let s = c.args in
    let u = asked s.leaf.now.ticket.now s.leaf.now.s in
    let m = s.leaf.now.model.now in
    let h : l.x < s.leaf.now.s.p = c.loop-x-test.true in
    let few : s.leaf.now.s.p ≤ 16 = l.invariant.0 in
    let room : 64 * s.leaf.now.s.p ≤ length l.characters = l.invariant.1 in
    let all : length l.sizes ≡ 16 = l.invariant.3 in (
      few,
      omega (arith, c.complete.auto.characters),
      c.complete.auto.characters ∙ l.invariant.2,
      simp length-set all,
      sizes_more l.sizes l.x c.complete.result (omega arith) l.invariant.4 c.complete.ensures.upper_bound,
      λ b e. subst (λ (cs : List ℕ). Filled u b m cs (set l.sizes l.x c.complete.result) (l.x + 1)) (sym c.complete.ensures.characters_after)
          (round_more u b m l.characters l.sizes l.x h (l.invariant.5 b e) c.complete.result _ c.complete.ensures.value c.complete.ensures.upper_bound (omega arith) room
          (ap (λ (ls : List ℕ). completed s.leaf.now.s.n s.leaf.now.s.p ls (nat_abs (model_value u m len l.x)) l.characters l.sizes l.x) e
          ∙ completed_is u b m l.characters l.sizes l.x h (l.invariant.5 b e))),
    )

pub shape_of-characters : goal.shape_of-characters
shape_of-characters c =
    let give-fixed = c.give_fixed-sizes in
    c.loop-x.invariant.2 ∙ give-fixed.auto.characters

pub returns : goal.returns
unfolding asked
returns c =
    let l = c.loop-x in
    let u = asked c.args.leaf.now.ticket.now c.args.leaf.now.s in
    let m = c.args.leaf.now.model.now in
    let x : l.x ≡ c.args.leaf.now.s.p = omega arith in record {
      p_after = (λ b e. round_done u b m l.characters l.sizes (subst (λ (k : ℕ). Filled u b m l.characters l.sizes k) x (l.invariant.5 b e)));
      table = record { few = l.invariant.0; room = l.invariant.1; sized = omega (arith, l.invariant.0, l.invariant.3); short = λ y h. l.invariant.4 y (omega (arith, h, x)) };
    }
