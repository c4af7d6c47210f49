use mathlib.Core.Path.{◌≡◌, refl, ◌∙◌, ap}
use Prim.Native.Nat.{ℕ}
use Rattle.std.specs.Option.{is_some}
use Rattle.std.specs.Prelude.{Option, Some, None}
use Rattle.calculus.specs.Rules.{found, states_equal}
use Rattle.rows.specs.Searches.{number_in}
use Rattle.rows.proofs.states_equal.Goals as goal

some_found : (o : Option ℕ) → is_some o ≡ found (number_in o)
some_found (Some k) = refl
some_found None = refl

pub returns : goal.returns
unfolding states_equal
returns c = c.is_some.ensures ∙ some_found c.lowest_difference.result ∙ ap found c.lowest_difference.ensures
