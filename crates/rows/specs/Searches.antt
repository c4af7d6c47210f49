-- What a search in code gives, as the definitions have it.
use Rattle.std.specs.Prelude.{ℕ, Option, Some, None}
use Rattle.std.proofs.Math.Option as math

abbrev pub number_in : Option ℕ → math.Option ℕ
number_in (Some k) = math.some k
number_in None = math.none
