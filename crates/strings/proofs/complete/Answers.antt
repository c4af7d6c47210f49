use mir.Syntax.{w64}
use Prim.Native.Nat.{◌*◌, ◌<◌, ◌≤◌, ℕ}
use lib.IntN.{nat_abs}
use lib.ListN.{drop, get_or, length, take}
use lib.Seq.{length-take-le, sets}
use mathlib.Core.List.{List}
use mathlib.Core.Path.{◌∙◌, ◌≡◌, ap, sym}
use mir.Facts.{to_z-of_z}
use native.Mathlib.Omega.{arith}
use Rattle.answer.proofs.Written.{length_row}
use Rattle.answer.specs.Table.{row}
use Rattle.calculus.specs.Facts.{len}
use Rattle.calculus.specs.Limits.{length_limit}
use Rattle.calculus.specs.Model.{model_value}
use Rattle.calculus.specs.SettledTest.{lowest_variable}
use Rattle.calculus.specs.Strings.{fresh_from}
use Rattle.question.specs.Posed.{numbered}
use Rattle.strings.proofs.Table.{completed_copied, completed_fresh, completed_own, row_again, run_copied, sized_none, sized_some}
use Rattle.strings.specs.Filling.{completed, given_strings}
use Rattle.strings.proofs.complete.Goals as goal
use Rattle.strings.proofs.complete.Goals.{After-fresh-w, After-magnitude-m}

-- the length of x without its sign
size_is : (c : After-magnitude-m) →
    let args = c.args in
    c.magnitude-m.result ≡ nat_abs (model_value (numbered args.leaf.now.s) args.leaf.now.model.now len args.x)
size_is c = c.magnitude-m.ensures ∙ ap nat_abs (to_z-of_z {w = w64} (record { sfits = c.value_of-len.type_inv }) ∙ c.value_of-len.ensures)

-- and is at most 64
size-short : (c : After-magnitude-m) → c.magnitude-m.result ≤ 64
size-short c =
    omega (arith, size_is c, c.requires.x_in_bounds)

-- the first string that is not given
new : (c : After-fresh-w) →
    let args = c.args in
    take c.magnitude-m.result c.fresh-w.result
    ≡ completed args.leaf.now.s.n args.leaf.now.s.p args.leaf.now.labels.now (nat_abs (model_value (numbered args.leaf.now.s) args.leaf.now.model.now len args.x))
    args.characters.now args.sizes.now args.x
new c =
    let lowest-variable = c.lowest_variable-first in
    let if1 = c.if-own-le-LENGTH_LIMIT in
    let s = c.args in
    let cs = s.characters.now in
    let e : lowest-variable.result ≡ lowest_variable s.leaf.now.labels.now s.x = lowest-variable.ensures in
    let k : s.x ≤ lowest-variable.result = c.if-first-x.false in
    c.fresh-w.ensures
    ∙ ap (λ (m : ℕ). fresh_from s.leaf.now.s.p s.leaf.now.s.n m (given_strings cs s.sizes.now s.leaf.now.s.p) 0) (size_is (goal.at.After-fresh-w c).After-magnitude-m)
    ∙ sym (completed_fresh s.leaf.now.s.n s.leaf.now.s.p s.leaf.now.labels.now _ cs s.sizes.now s.x (sized_none _ _ if1.false) (omega arith))

-- and has as many characters as the length says
new-length : (c : After-fresh-w) → length (take c.magnitude-m.result c.fresh-w.result) ≡ c.magnitude-m.result
new-length c =
    let n : length c.fresh-w.result ≡ 64 = c.fresh-w.type_inv.1.0.1 in
    length-take-le c.magnitude-m.result c.fresh-w.result (omega (arith, size-short (goal.at.After-fresh-w c).After-magnitude-m, n))

pub returns-then-own-le-LENGTH_LIMIT : goal.returns-then-own-le-LENGTH_LIMIT
returns-then-own-le-LENGTH_LIMIT c =
    let s = c.args in
    let cs = s.characters.now in
    let own = get_or s.sizes.now s.x 0 in
    let h : own ≤ 64 = c.if-own-le-LENGTH_LIMIT.true in
    let r : row cs s.x own
    ≡ completed s.leaf.now.s.n s.leaf.now.s.p s.leaf.now.labels.now (nat_abs (model_value (numbered s.leaf.now.s) s.leaf.now.model.now len s.x)) cs s.sizes.now s.x =
    sym (completed_own s.leaf.now.s.n s.leaf.now.s.p s.leaf.now.labels.now _ cs s.sizes.now s.x (row cs s.x own)
    (sized_some own (drop (length_limit * s.x) cs) h)) in record {
      characters_after = sym (ap (λ (w : List ℕ). sets cs (length_limit * s.x) w) (sym r) ∙ row_again cs s.x own h (omega arith));
      value = sym (length_row cs s.x own h (omega arith)) ∙ ap length r;
      upper_bound = h;
    }

pub returns-then-first-x : goal.returns-then-first-x
returns-then-first-x c =
    let s = c.args in
    let cs = s.characters.now in
    let first = c.lowest_variable-first.result in
    let size = get_or s.sizes.now first 0 in
    let e : first ≡ lowest_variable s.leaf.now.labels.now s.x = c.lowest_variable-first.ensures in
    let k : first < s.x = c.if-first-x.true in
    let short : size ≤ 64 = c.requires.by_index first k in
    let copied : row cs first size
    ≡ completed s.leaf.now.s.n s.leaf.now.s.p s.leaf.now.labels.now (nat_abs (model_value (numbered s.leaf.now.s) s.leaf.now.model.now len s.x)) cs s.sizes.now s.x =
    ap (λ (y : ℕ). row cs y (get_or s.sizes.now y 0)) e
    ∙ sym (completed_copied s.leaf.now.s.n s.leaf.now.s.p s.leaf.now.labels.now _ cs s.sizes.now s.x (sized_none _ _ c.if-own-le-LENGTH_LIMIT.false) (omega arith)) in record {
      characters_after =
          c.copy_within.ensures.after ∙ run_copied cs (length_limit * first) size (length_limit * s.x) (omega arith) (omega arith) ∙ ap (sets cs (length_limit * s.x)) copied;
      value = sym (length_row cs first size short (omega arith)) ∙ ap length copied;
      upper_bound = short;
    }

pub slice_bounds-w-end : goal.slice_bounds-w-end
slice_bounds-w-end c =
    let n : length c.fresh-w.result ≡ 64 = c.fresh-w.type_inv.1.0.1 in
    omega (arith, size-short (goal.at.slice_bounds-w-end c).After-magnitude-m)

pub slice_bounds-store-end : goal.slice_bounds-store-end
slice_bounds-store-end c = sym (new-length (goal.at.slice_bounds-store-end c).After-fresh-w)

pub store-requires : goal.store-requires
store-requires c = (
  omega (arith, c.requires.modelled),
  omega (arith, size-short (goal.at.store-requires c).After-magnitude-m, new-length (goal.at.store-requires c).After-fresh-w),
  omega (arith, c.requires.modelled),
)

pub returns : goal.returns
returns c =
    let here = (goal.at.returns c).After-fresh-w in
    let s = c.args in record {
      characters_after = c.store.ensures ∙ ap (λ (w : List ℕ). sets s.characters.now (length_limit * s.x) w) (new here);
      value = sym (new-length here) ∙ ap length (new here);
      upper_bound = size-short (goal.at.returns c).After-magnitude-m;
    }
