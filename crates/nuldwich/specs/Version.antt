-- The version of the C interface. include/nuldwich.h says what each of the two numbers stands for.
use Rattle.std.specs.Prelude.{ℕ, ◌+◌, ◌*◌}

abbrev pub major : ℕ
major = 3

abbrev pub minor : ℕ
minor = 2

-- both in one number
abbrev pub version : ℕ
version = major * 1000 + minor
