-- Options: two that are equal hold the same, and none holds nothing.
use mathlib.Core.Path.{◌≡◌}
use mathlib.Core.Option
use mathlib.Core.Option.{Option, none, some, none-ne-some, some-ne-none}

pub some_injective : {A : Type 0} {x y : A} → some x ≡ some y → x ≡ y
some_injective {x = x} {y = y} e = Option.some-injective x y e

pub none_some : {A : Type 0} {x : A} → ◌≡◌ {A = Option A} none (some x) → ⊥
none_some {x = x} e = none-ne-some x e

pub some_none : {A : Type 0} {x : A} → ◌≡◌ {A = Option A} (some x) none → ⊥
some_none {x = x} e = some-ne-none x e
