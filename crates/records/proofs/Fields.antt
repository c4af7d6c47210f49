-- Integers within their limit, one after another, tested by std's word for a test of all.
use Prim.Native.Nat.{ℕ}
use mathlib.Core.Path.{◌≡◌}
use mathlib.Core.List.{List}
use Rattle.std.specs.List.{list_all}
use Rattle.lists.proofs.Library.{list_all_is}
use Rattle.calculus.specs.Limits.{value_limit}
use Rattle.format.specs.Fields.{fields, i32, i32s, within, all_within}

pub all_within_is : (b : List ℕ) (at k : ℕ) → list_all (within value_limit) (fields 4 (i32 b) at k) ≡ all_within value_limit (i32s b at k)
unfolding all_within i32s
all_within_is b at k = list_all_is (within value_limit) (fields 4 (i32 b) at k)
