use Prim.Native.Nat.{◌*◌, ◌+◌, ◌-◌, ℕ}
use borrow.Author.Tests.{lt-leb}
use lib.ListN.{drop, take}
use mathlib.Core.List.{List}
use mathlib.Core.Option.{Option}
use mathlib.Core.Path.{◌∙◌, ◌≡◌, ap, sym}
use native.Mathlib.Omega.{arith}
use Rattle.calculus.specs.Strings.{eq_string}
use Rattle.strings.proofs.Table.{sized_none, sized_some}
use Rattle.strings.specs.Filling.{is_it}
use Rattle.strings.proofs.is_row.Goals as goal

pub returns-else-size-le-LENGTH_LIMIT : goal.returns-else-size-le-LENGTH_LIMIT
unfolding is_it
returns-else-size-le-LENGTH_LIMIT c =
    let s = c.args in
    lt-leb _ _ c.if-size-le-LENGTH_LIMIT.false ∙ sym (ap (λ (o : Option (List ℕ)). is_it o s.w.now) (sized_none s.size (drop (64 * s.y) s.characters.now) c.if-size-le-LENGTH_LIMIT.false))

pub returns-then-size-le-LENGTH_LIMIT : goal.returns-then-size-le-LENGTH_LIMIT
unfolding is_it
returns-then-size-le-LENGTH_LIMIT c =
    let s = c.args in
    let m : 64 * s.y + s.size - 64 * s.y ≡ s.size = omega arith in
    c.same_string.ensures
    ∙ ap (λ (k : ℕ). eq_string s.w.now (take k (drop (64 * s.y) s.characters.now))) m
    ∙ sym (ap (λ (o : Option (List ℕ)). is_it o s.w.now) (sized_some s.size (drop (64 * s.y) s.characters.now) c.if-size-le-LENGTH_LIMIT.true))
